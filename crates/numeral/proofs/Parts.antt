-- The answer on a text that has digits, and after a point digits to the end or nothing: by their numbers.
-- Assumes nothing.
use Prim.Native.Nat.{ℕ, ◌+◌, ◌≤◌, ◌<◌}
use mathlib.Core.Path.{◌≡◌, refl}
use mathlib.Core.Bool.{Bool, true, false}
use mathlib.Core.List.{List, ◌++◌, map}
use mathlib.Core.Logic.{◌⊎◌, ⊎_elim}
use native.Mathlib.Omega.{arith}
use lib.Dec.{leb}
use lib.ListN.{length, take, drop}
use borrow.Author.Tests.{le-leb, lt-leb, leb-true}
use Rattle.std.specs.Prelude.{Option, Some, None, Ok, Err, ok_or}
use Rattle.refusal.specs.declared.Refusal.{Refusal}
use Rattle.refusal.specs.declared.Refusal.TheVariants as refusal
use Rattle.groups.specs.Numbers.{tab}
use Rattle.groups.specs.Layout.{Digits}
use Rattle.groups.specs.Read.{stored_at}
use Rattle.groups.proofs.Accept.{both_true, is_false}
use Rattle.numeral.specs.Read.{run, pointed, is_text, few_digits, digit_of, digits_in, read_unsigned, parsed}

-- too many digits
many : (i f : ℕ) → (65 < i + f) ⊎ ((i + f ≤ 65) × (30 < f)) → few_digits i f ≡ false
unfolding few_digits
many i f h =
    is_false (few_digits i f)
    (λ e. let b = both_true (leb (i + f) 65) (leb f 30) e in let p = leb-true (i + f) 65 b.0 in let q = leb-true f 30 b.1 in ⊎_elim (λ l. absurd (omega arith)) (λ l. absurd (omega arith)) h)

pub read-other : (neg : Bool) (xs : List ℕ) → pointed (drop (run xs) xs) ≡ false → read_unsigned neg xs ≡ Err refusal.Text
unfolding read_unsigned is_text
read-other neg xs e = simp e

module _ (neg : Bool) (xs W T : List ℕ) (w : W ≡ take (run xs) xs) (t : T ≡ drop 1 (drop (run xs) xs)) (p : pointed (drop (run xs) xs) ≡ true) where
  is-text : is_text xs ≡ leb 1 (length W + length T)
  unfolding is_text
  is-text = simp (w, t, p)

  pub read_none : length W + length T ≡ 0 → read_unsigned neg xs ≡ Err refusal.Text
  unfolding read_unsigned
  read_none h = simp (is-text, lt-leb 1 (length W + length T) (omega arith))

  pub read-many : (length W + length T ≡ 0 → ⊥) → (65 < length W + length T) ⊎ ((length W + length T ≤ 65) × (30 < length T)) → read_unsigned neg xs ≡ Err refusal.Digits
  unfolding read_unsigned
  read-many h k = simp (is-text, le-leb 1 (length W + length T) (omega arith), ← w, ← t, many (length W) (length T) k)

  pub read_some : (length W + length T ≡ 0 → ⊥) → length W + length T ≤ 65 → length T ≤ 30
      → parsed (read_unsigned neg xs) ≡ Ok (record { negative = neg; intg = length W; frac = length T; groups = tab 9 (stored_at Digits (length W) (length T) (map digit_of (W ++ T))) })
  unfolding read_unsigned few_digits digits_in
  read_some h k l = simp (is-text, le-leb 1 (length W + length T) (omega arith), ← w, ← t, le-leb (length W + length T) 65 k, le-leb (length T) 30 l)

-- ---- a value, or a refusal where there is none
pub some-of : {A : Type 0} (o : Option A) (r : Refusal) (x : A) → ok_or o r ≡ Ok x → o ≡ Some x
some-of (Some y) r x e = cc
some-of None r x e = absurd (cc)

pub none-of : {A : Type 0} (o : Option A) (r q : Refusal) → ok_or o r ≡ Err q → (o ≡ None) × (q ≡ r)
none-of (Some y) r q e = absurd (cc)
none-of None r q e = (refl, cc)
