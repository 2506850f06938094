-- No bit of a double is lost: its 64 bits can be told from the number that is read. A NaN carries them, and any other double has its own pattern.
-- Assumes nothing.
use mathlib.Core.Path.{◌≡◌, refl, sym, ap, ◌∙◌, subst}
use mathlib.Core.Bool.{Bool, true, false, not, cond}
use mathlib.Core.List.{List}
use Prim.Native.Nat.{ℕ, ◌-◌, ◌<◌}
use lib.Dec.{T, ltb}
use lib.Ieee.{binary64, is_nan, nan_bits, of_bits, to_bits}
use lib.Ieee.Bits.{nan_bits_is, to_bits-of_bits}
use Rattle.raw.specs.Numbers.{le}
use Rattle.raw.proofs.Values.{Bytes}
use Rattle.raw.proofs.Bounds.{le_below}
use Rattle.codes.specs.declared.types.JsonbType.TheVariants as type
use Rattle.value.specs.declared.Scalar.TheVariants as scalar
use Rattle.value.specs.declared.Number.{Number}
use Rattle.value.specs.declared.Number.TheVariants.{Int, Uint, Double, Nan}
use Rattle.content.specs.Reading.{scalar_of, double_of, number_at, content_at}
use Rattle.std.specs.Prelude.{Err}
use Rattle.refusal.specs.declared.Refusal.TheVariants as refusal

-- the bits of a double; other numbers have none
abbrev pub bits_of : Number → ℕ
bits_of (Int x) = 0
bits_of (Uint x) = 0
bits_of (Double x) = to_bits binary64 x
bits_of (Nan n) = n

pub double-bits : (n : ℕ) → n < 18446744073709551616 → bits_of (double_of n) ≡ n
unfolding double_of
double-bits n h = go (nan_bits binary64 n) (nan_bits_is binary64 n)
  where
    go : (b : Bool) → b ≡ is_nan (of_bits binary64 n) → bits_of (cond b (Nan n) (Double (of_bits binary64 n))) ≡ n
    go true e = refl
    go false e = to_bits-of_bits binary64 n h (subst (λ (b : Bool). T (not b)) e tt)

pub double-exact : (n m : ℕ) → n < 18446744073709551616 → m < 18446744073709551616 → double_of n ≡ double_of m → n ≡ m
double-exact n m h l e = sym (double-bits n h) ∙ ap bits_of e ∙ double-bits m l

-- of a document's bytes: a double that is read has the eight that stand there
pub double-read : (d : List ℕ) (i e : ℕ) (x : Number) → Bytes d → content_at d type.Double i e ≡ scalar_of type.Double (scalar.Number x) → bits_of x ≡ le 8 d i e
unfolding content_at number_at
double-read d i e x p q = go (ltb (e - i) 8) q
  where
    go : (b : Bool) → cond b (Err refusal.Cut) (scalar_of type.Double (scalar.Number (double_of (le 8 d i e)))) ≡ scalar_of type.Double (scalar.Number x) → bits_of x ≡ le 8 d i e
    go true h = cc
    go false h =
        let z : double_of (le 8 d i e) ≡ x = cc in
        sym (ap bits_of z) ∙ double-bits (le 8 d i e) (le_below 8 d i e p)
