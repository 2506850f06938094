-- No step of the machine looks at the place, so counting places from another number moves the place of a break by that number and changes nothing else.
-- Assumes nothing.
use Prim.Native.Nat.{ℕ, ◌+◌}
use mathlib.Core.Path.{◌≡◌, refl, sym, ap, ◌∙◌}
use mathlib.Core.List.{List, [], ◌∷◌}
use native.Mathlib.Nat.{add_assoc, add-zero}
use Rattle.rfc3629.specs.Machine.{State, start, more, Move, to, stop, bad, next, onward, run, verdict_from, verdict, plus}

-- with places counted from k the place of a verdict is k more
move : (k at : ℕ) (bs : List ℕ) (m : Move) → ((st : State) → run st (k + at + 1) bs ≡ plus k (run st (at + 1) bs))
    → onward m (λ st. run st (k + at + 1) bs) (bad (k + at)) ≡ plus k (onward m (λ st. run st (at + 1) bs) (bad at))
move k at bs (to st) f = f st
move k at bs stop f = refl

run-plus : (k at : ℕ) (st : State) (s : List ℕ) → run st (k + at) s ≡ plus k (run st at s)
unfolding run
run-plus k at start [] = refl
run-plus k at (more n lo hi) [] = refl
run-plus k at st (b ∷ bs) =
    move k at bs (next st b) (λ st'. ap (λ (n : ℕ). run st' n bs) (add_assoc k at 1) ∙ run-plus k (at + 1) st' bs)

pub counted : (k : ℕ) (s : List ℕ) → verdict_from k s ≡ plus k (verdict s)
counted k s = ap (λ (n : ℕ). run start n s) (sym (add-zero k)) ∙ run-plus k 0 start s
