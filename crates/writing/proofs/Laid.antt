-- The laws of writing over a list: one byte; what is written before or after what is written already; the groups of a run, one more.
-- Assumes nothing.
use mathlib.Core.Path.{◌≡◌, refl, sym, ap, ◌∙◌}
use mathlib.Core.List.{List, [], ◌∷◌, ◌++◌, append_assoc}
use Prim.Native.Nat.{ℕ, suc, ◌+◌, ◌-◌, ◌*◌, ◌/◌, ◌%◌, ◌≤◌, ◌<◌}
use native.Mathlib.Nat.{add-zero, zero-add}
use native.Mathlib.Numerals.{add-one}
use native.Mathlib.Omega.{arith}
use lib.ListN.{length, take, drop, set, length-append, take-append-drop}
use lib.Seq.{set_split, take-append-le, take-take, drop_at, take_at, drop-drop, length-take-le}
use Rattle.groups.specs.Numbers.{digits}
use Rattle.groups.specs.Course.{run}
use Rattle.writing.specs.Course.{laid_at}
use Rattle.groups.proofs.SidesLaws.{length_run}

pub laid_none : (out : List ℕ) (at : ℕ) → laid_at out at 0 [] ≡ out
unfolding laid_at
laid_none out at = rw (add-zero at) (take-append-drop at out)

laid-byte : (out : List ℕ) (at v : ℕ) → at + 1 ≤ length out → set out at v ≡ laid_at out at 1 (v ∷ [])
unfolding laid_at
laid-byte out at v h = set_split out at v (omega arith) ∙ rw add-one

laid-before : (out A B : List ℕ) (at n m : ℕ) → at + n ≤ length out → laid_at (laid_at out (at + n) m B) at n A ≡ laid_at out at (n + m) (A ++ B)
unfolding laid_at
laid-before out A B at n m h =
    let T = take (at + n) out in
    let R = B ++ drop (at + n + m) out in
    let l : length T ≡ at + n = length-take-le (at + n) out h in
    let p : at + n + m ≡ at + (n + m) = omega arith in
    rw (take-append-le at T R (omega arith), take-take at (at + n) out (omega arith), drop_at T R (at + n) l, p, append_assoc)

-- the lowest digit of a number, before which the others are written
pub digit-laid : (out : List ℕ) (at i x : ℕ) → at + i < length out → laid_at (set out (at + i) (x % 256)) at i (digits 256 i (x / 256)) ≡ laid_at out at (suc i) (digits 256 (suc i) x)
unfolding digits
digit-laid out at i x h =
    ap (λ (o : List ℕ). laid_at o at i (digits 256 i (x / 256))) (laid-byte out (at + i) (x % 256) (omega arith))
    ∙ laid-before out (digits 256 i (x / 256)) (x % 256 ∷ []) at i 1 (omega arith) ∙ rw add-one refl

pub laid-after : (out A B : List ℕ) (at n m : ℕ) → at + n ≤ length out → length A ≡ n → laid_at (laid_at out at n A) (at + n) m B ≡ laid_at out at (n + m) (A ++ B)
unfolding laid_at
laid-after out A B at n m h e =
    let T = take at out in
    let D = drop (at + n) out in
    let t : length T ≡ at = length-take-le at out (omega arith) in
    let l : length (T ++ A) ≡ at + n = length-append T A ∙ omega arith in
    let p : at + n + m ≡ at + (n + m) = omega arith in
    rw (← append_assoc T A D, take_at (T ++ A) D (at + n) l, ← drop-drop m (at + n) ((T ++ A) ++ D), drop_at (T ++ A) D (at + n) l, drop-drop m (at + n) out, p, append_assoc, append_assoc)

pub laid-front : (out ds : List ℕ) (w : ℕ) → laid_at out 0 w ds ≡ ds ++ drop w out
unfolding laid_at
laid-front out ds w = rw (zero-add w)

-- three parts in a row, from the front on
pub three : (out A B C : List ℕ) (a b c : ℕ) → a + b ≤ length out → length A ≡ a → length B ≡ b
    → laid_at (laid_at (laid_at out 0 a A) a b B) (a + b) c C ≡ ((A ++ B) ++ C) ++ drop (a + b + c) out
three out A B C a b c h k l =
    let p = rw (zero-add a) at (laid-after out A B 0 a b (omega arith) k) in
    let q = rw (zero-add (a + b)) at (laid-after out (A ++ B) C 0 (a + b) c (omega arith) (length-append A B ∙ omega arith)) in
    ap (λ (o : List ℕ). laid_at o (a + b) c C) p ∙ q ∙ laid-front out ((A ++ B) ++ C) (a + b + c)

-- ---- a run of groups
pub run-start : (out : List ℕ) (at b w : ℕ) (g : ℕ → ℕ) (k : ℕ) → out ≡ laid_at out at (w * (k - k)) (run b w g k (k - k))
unfolding run
run-start out at b w g k =
    let e : k - k ≡ 0 = omega arith in
    let z : w * 0 ≡ 0 = omega arith in
    sym (rw (e, z) (laid_none out at))

pub run-next : (out : List ℕ) (at b w : ℕ) (g : ℕ → ℕ) (from k : ℕ) → from ≤ k → at + w * (k - from) ≤ length out
    → laid_at (laid_at out at (w * (k - from)) (run b w g from (k - from))) (at + w * (k - from)) w (digits b w (g k)) ≡ laid_at out at (w * (k + 1 - from)) (run b w g from (k + 1 - from))
unfolding run
run-next out at b w g from k h l =
    let j = k - from in
    let e : k + 1 - from ≡ suc j = omega arith in
    let s : w * suc j ≡ w * j + w = omega arith in
    let p : from + j ≡ k = omega arith in
    laid-after out (run b w g from j) (digits b w (g k)) at (w * j) w l (length_run b w g from j) ∙ sym (rw (e, s, p))
