-- The laws of ASCII at the front of a text: where n bytes are ASCII, the front goes on behind them, and so the end is the same from any place
-- among them.
-- Assumes nothing.
use Prim.Native.Nat.{ℕ, zero, suc, ◌+◌, ◌-◌, ◌≤◌, ◌<◌, min}
use mathlib.Core.Path.{◌≡◌, refl, sym, ap, ◌∙◌}
use mathlib.Core.Bool.{Bool, true, false}
use mathlib.Core.List.{List, [], ◌∷◌}
use native.Mathlib.Omega.{arith}
use lib.Dec.{ltb}
use lib.ListN.{length, take, drop, drop_of_length-le, length-drop}
use lib.Seq.{drop-drop}
use borrow.Author.Tests.{ltb-true, ltb-false, lt-ltb, le-ltb}
use Rattle.std.specs.List.{prefix_len}
use Rattle.ascii.specs.Ascii.{low, ascii_end}

pub by : {A : Type 0} (t : Bool) → (t ≡ true → A) → (t ≡ false → A) → A
by true f g = f refl
by false f g = g refl

-- ---- one byte
module _ (b : ℕ) (bs : List ℕ) where
  pub low-yes : b < 128 → low (b ∷ bs) ≡ suc (low bs)
  unfolding low
  low-yes h = simp (lt-ltb b 128 h)

  pub low-no : 128 ≤ b → low (b ∷ bs) ≡ 0
  unfolding low
  low-no h = simp (le-ltb b 128 h)

-- ---- n bytes
pub low-le : (xs : List ℕ) → low xs ≤ length xs
unfolding low
low-le [] = omega arith
low-le (b ∷ bs) =
    by (ltb b 128) (λ t. let e = low-yes b bs (ltb-true b 128 t) in omega (arith, low-le bs))
    (λ t. let e = low-no b bs (ltb-false b 128 t) in omega arith)

pub low-drop : (n : ℕ) (xs : List ℕ) → n ≤ low xs → low xs ≡ n + low (drop n xs)
unfolding low
low-drop zero xs h = omega arith
low-drop (suc n) [] h = absurd (omega arith)
low-drop (suc n) (b ∷ bs) h =
    by (ltb b 128) (λ t. let e = low-yes b bs (ltb-true b 128 t) in omega (arith, low-drop n bs (omega arith)))
    (λ t. let e = low-no b bs (ltb-false b 128 t) in absurd (omega arith))

-- of the first n
pub low_take : (n : ℕ) (xs : List ℕ) → low (take n xs) ≡ min n (low xs)
unfolding low
low_take zero xs = omega arith
low_take (suc n) [] = omega arith
low_take (suc n) (b ∷ bs) =
    by (ltb b 128)
    (λ t.
    let e = low-yes b bs (ltb-true b 128 t) in
    let f = low-yes b (take n bs) (ltb-true b 128 t) in
    omega (arith, low_take n bs))
    (λ t.
    let e = low-no b bs (ltb-false b 128 t) in
    let f = low-no b (take n bs) (ltb-false b 128 t) in
    omega arith)

-- in the library's words
pub low_prefix : (xs : List ℕ) → low xs ≡ prefix_len (λ b. ltb b 128) xs
unfolding low
low_prefix [] = refl
low_prefix (b ∷ bs) = by (ltb b 128) (λ t. simp t (omega (arith, low_prefix bs))) (λ t. simp t)

-- ---- places
module _ (s : List ℕ) (at : ℕ) where
  pub front-le : at ≤ length s → ascii_end s at ≤ length s
  front-le h = let e = length-drop at s in omega (arith, low-le (drop at s))

  pub out : length s ≤ at → at ≡ ascii_end s at
  unfolding low
  out h = let e : low (drop at s) ≡ 0 = ap low (drop_of_length-le s h) in omega arith

  -- from any place among ASCII the end is the same
  pub pass : (j : ℕ) → at ≤ j → j ≤ ascii_end s at → ascii_end s at ≡ ascii_end s j
  pass j h g =
      let n = j - at in
      let d : at + n ≡ j = omega arith in
      let e = low-drop n (drop at s) (omega arith) in
      let f : low (drop n (drop at s)) ≡ low (drop j s) = ap low (drop-drop n at s ∙ ap (λ (m : ℕ). drop m s) d) in
      omega arith

pub same : (a b : Bool) → (a ≡ true → b ≡ true) → (b ≡ true → a ≡ true) → a ≡ b
same true b f g = sym (f refl)
same false true f g = g refl
same false false f g = refl
