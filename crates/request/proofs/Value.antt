-- The number that digits write, from a place on and behind digits that write v: it ends with the text, goes on at a digit and is none at any other
-- character. More digits only make it larger.
-- Assumes nothing.
use Prim.Native.Nat.{ℕ, ◌+◌, ◌-◌, ◌*◌, ◌≤◌, ◌<◌}
use mathlib.Core.Path.{◌≡◌, refl, ◌∙◌}
use mathlib.Core.Bool.{Bool, true, false, cond, ◌&&◌}
use mathlib.Core.List.{List, [], ◌∷◌}
use native.Mathlib.Numerals.{add-one}
use native.Mathlib.Omega.{arith}
use lib.Dec.{ltb, leb}
use lib.ListN.{length, get_or, drop, drop_of_length-le}
use lib.Seq.{drop-cons}
use borrow.Author.Tests.{lt-ltb, le-ltb}
use Rattle.std.specs.Char.{is_ascii_digit}
use Rattle.request.specs.Test.{both, is_in}
use Rattle.request.specs.Number.{are_digits, value_from, below, number_from, number_of}
use Rattle.std.specs.Prelude.{Option, Some, None}

pub none-empty : (t : List ℕ) → length t ≡ 0 → number_of t ≡ None
unfolding number_of
none-empty [] h = refl
none-empty (b ∷ bs) h = absurd (omega arith)

pub some-digits : (t : List ℕ) → (length t ≡ 0 → ⊥) → number_of t ≡ number_from 0 t
unfolding number_of
some-digits [] h = absurd (h refl)
some-digits (b ∷ bs) h = refl

value_grows : (v : ℕ) (bs : List ℕ) → v ≤ value_from v bs
unfolding value_from
value_grows v [] = omega arith
value_grows v (b ∷ bs) = let h = value_grows (10 * v + (b - 48)) bs in omega arith

pub too_large : (v : ℕ) (bs : List ℕ) → 4294967296 ≤ v → number_from v bs ≡ None
unfolding number_from
too_large v bs h =
    let g = value_grows v bs in
    let l : ltb (value_from v bs) 4294967296 ≡ false = le-ltb (value_from v bs) 4294967296 (omega arith) in
    go (are_digits bs) l
  where
    go : (d : Bool) → ltb (value_from v bs) 4294967296 ≡ false → cond {A = Option ℕ} d (below (value_from v bs)) None ≡ None
    go true l = rw l
    go false l = refl

digit_in : (b : ℕ) → is_in b 48 57 ≡ is_ascii_digit b
digit_in b = go (leb 48 b)
  where
    go : (t : Bool) → both t (leb b 57) ≡ (t && leb b 57)
    go true = refl
    go false = refl

module _ (t : List ℕ) (at v : ℕ) where
  pub number-end : length t ≤ at → v < 4294967296 → number_from v (drop at t) ≡ Some v
  unfolding number_from are_digits value_from
  number-end h l = rw (drop_of_length-le t h) (simp (lt-ltb _ _ l))

  -- at a digit it goes on, and at any other character it is none
  pub number_more : at < length t → is_ascii_digit (get_or t at 0) ≡ true
      → number_from v (drop at t) ≡ number_from (10 * v + (get_or t at 0 - 48)) (drop (at + 1) t)
  unfolding number_from are_digits value_from
  number_more h d = rw (drop-cons t at 0 h) (simp (digit_in (get_or t at 0) ∙ d, add-one))

  pub number_other : at < length t → is_ascii_digit (get_or t at 0) ≡ false → number_from v (drop at t) ≡ None
  unfolding number_from are_digits
  number_other h d = rw (drop-cons t at 0 h) (simp (digit_in (get_or t at 0) ∙ d))
