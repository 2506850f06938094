-- The laws of inverted bytes: to invert a number of four bytes is to invert its digits in base 256, one by one.
-- Assumes nothing.
use mathlib.Core.Path.{◌≡◌, refl, sym}
use mathlib.Core.Bool.{Bool, true, false}
use mathlib.Core.List.{List, [], ◌∷◌, ◌++◌, map, map-append}
use Prim.Native.Nat.{ℕ, zero, suc, ◌+◌, ◌-◌, ◌*◌, ◌/◌, ◌%◌, ◌≤◌, ◌<◌}
use native.Mathlib.Omega.{arith}
use Rattle.groups.specs.Numbers.{digits}
use Rattle.groups.specs.Packed.{invert}
use Rattle.groups.specs.Course.{run}
use Rattle.writing.specs.Course.{shade, shaded}

-- w digits of 255 after K
abbrev ones : ℕ → ℕ → ℕ
ones K zero = K
ones K (suc w) = 256 * ones K w + 255

ones-digits : (w K x : ℕ) → x ≤ ones K w → digits 256 w (ones K w - x) ≡ map invert (digits 256 w x)
unfolding digits
ones-digits zero K x h = refl
ones-digits (suc w) K x h =
    let M = ones K w in
    let q : (256 * M + 255 - x) / 256 ≡ M - x / 256 = omega arith in
    let r : (256 * M + 255 - x) % 256 ≡ 255 - x % 256 = omega arith in
    rw (q, r, ones-digits w K (x / 256) (omega arith)) (sym (map-append invert (digits 256 w (x / 256)) (x % 256 ∷ [])))

pub digits-shade : (v : Bool) (w x : ℕ) → w ≤ 4 → x ≤ 4294967295 → digits 256 w (shade v x) ≡ shaded v (digits 256 w x)
unfolding shade shaded
digits-shade false w x h l = refl
digits-shade true zero x h l = ones-digits 0 4294967295 x l
digits-shade true (suc zero) x h l = ones-digits 1 16777215 x l
digits-shade true (suc (suc zero)) x h l = ones-digits 2 65535 x l
digits-shade true (suc (suc (suc zero))) x h l = ones-digits 3 255 x l
digits-shade true (suc (suc (suc (suc zero)))) x h l = ones-digits 4 0 x l
digits-shade true (suc (suc (suc (suc (suc w))))) x h l = absurd (omega arith)

pub shaded-append : (v : Bool) (xs ys : List ℕ) → shaded v (xs ++ ys) ≡ shaded v xs ++ shaded v ys
unfolding shaded
shaded-append true xs ys = map-append invert xs ys
shaded-append false xs ys = refl

shaded-none : (v : Bool) → shaded v [] ≡ []
unfolding shaded
shaded-none true = refl
shaded-none false = refl

pub run-shade : (v : Bool) (g : ℕ → ℕ) (m : ℕ) → ((k : ℕ) → k < m → g k ≤ 4294967295) → (k n : ℕ) → k + n ≤ m → run 256 4 (λ j. shade v (g j)) k n ≡ shaded v (run 256 4 g k n)
unfolding run
run-shade v g m h k zero l = sym (shaded-none v)
run-shade v g m h k (suc n) l =
    rw (run-shade v g m h k n (omega arith), digits-shade v 4 (g (k + n)) (omega arith) (h (k + n) (omega arith)))
    (sym (shaded-append v (run 256 4 g k n) (digits 256 4 (g (k + n)))))
