-- Cases of the definitions by the tests that lead to them, with what callees gave as variables of their own.
-- Assumes nothing.
use mathlib.Core.Path.{◌≡◌, refl, sym, ap, ◌∙◌}
use mathlib.Core.List.{List, [], ◌∷◌, ◌++◌}
use Prim.Native.Nat.{ℕ, suc, ◌+◌, ◌*◌, ◌≤◌, ◌<◌}
use native.Mathlib.Omega.{arith}
use native.Mathlib.Numerals.{add-one}
use lib.ListN.{length, get_or, set, take, drop, length-append, get_or-append}
use lib.Seq.{sets, sets-eq, length-take-le, get_or-append-add}
use Rattle.events.specs.declared.Event.{Event}
use Rattle.events.specs.Events.{numbers, wide}
use Rattle.events.specs.Lay.{put}

-- numbers stored one after the other, at i + k and up, as code stores them
abbrev stores : List ℕ → ℕ → ℕ → List ℕ → List ℕ
stores l i k [] = l
stores l i k (a ∷ vs) = stores (set l (i + k) a) i (k + 1) vs

stores_run : (vs l : List ℕ) (i k : ℕ) → stores l i k vs ≡ sets l (i + k) vs
stores_run [] l i k = refl
stores_run (a ∷ vs) l i k =
    let e : i + (k + 1) ≡ suc (i + k) = omega arith in
    stores_run vs (set l (i + k) a) i (k + 1) ∙ ap (λ (j : ℕ). sets (set l (i + k) a) j vs) e

pub run-of-stores : (l : List ℕ) (i a : ℕ) (vs : List ℕ) → stores (set l i a) i 1 vs ≡ sets l i (a ∷ vs)
run-of-stores l i a vs = stores_run vs (set l i a) i 1 ∙ ap (λ (j : ℕ). sets (set l i a) j vs) (add-one i)

-- number k of an event that was put down where there is room for it
pub put-number : (out : List ℕ) (n : ℕ) (e : Event) → wide * n + wide ≤ length out → (k : ℕ) → k < wide → get_or (put out n e) (wide * n + k) 0 ≡ get_or (numbers e) k 0
unfolding put
put-number out n e h k b =
    let front : List ℕ = take (wide * n) out in
    let f : length front ≡ wide * n = length-take-le (wide * n) out (omega arith) in
    let l : length (front ++ numbers e) ≡ length front + wide = length-append front (numbers e) in
    ap (λ (o : List ℕ). get_or o (wide * n + k) 0) (sets-eq (numbers e) out (wide * n) h)
    ∙ get_or-append (front ++ numbers e) (drop (wide * n + wide) out) 0 (wide * n + k) (omega arith)
    ∙ ap (λ (i : ℕ). get_or (front ++ numbers e) (i + k) 0) (sym f)
    ∙ get_or-append-add front (numbers e) k 0

-- an event as code lays it down, number by number
pub put_stores : (out : List ℕ) (n : ℕ) (e : Event) →
    set (set (set (set (set (set (set (set (set out (wide * n) e.code) (wide * n + 1) e.depth) (wide * n + 2) e.position) (wide * n + 3) e.key.start) (wide * n + 4) e.key.len) (wide * n + 5) e.part.start) (wide * n + 6) e.part.len) (wide * n + 7) e.extra) (wide * n + 8) e.parent
    ≡ put out n e
unfolding put
put_stores out n e =
    run-of-stores out (wide * n) e.code (e.depth ∷ e.position ∷ e.key.start ∷ e.key.len ∷ e.part.start ∷ e.part.len ∷ e.extra ∷ e.parent ∷ [])
