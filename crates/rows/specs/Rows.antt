-- Values of documents as numbers. A value is five: its kind (0 nothing, 1 null, 2 a truth value, 3 signed, 4 unsigned, 5 a double, 6 a string, 7 opaque,
-- 8 a container), its type code, and three more: for a truth value 1 or 0; for a number its 64 bits, the lower half and the upper; for a string start and
-- length; for an opaque value start, length and column type; for a container start, size and count. What is not used is 0.
-- Assumes nothing.
use Rattle.std.specs.Prelude.{ℕ, ◌/◌, cond, List, [], ◌∷◌}
use Rattle.std.specs.Float.{binary64}
use Rattle.std.specs.Float.Ieee.{to_bits}
use Rattle.std.specs.Int.{w64}
use Rattle.std.proofs.Common.{of_z}
use Rattle.refusal.specs.Told.{Told}
use Rattle.lent.specs.Layout.{low}
use Rattle.value.specs.declared.Span.{Span}
use Rattle.value.specs.declared.Number.{Number}
use Rattle.value.specs.declared.Number.TheVariants as number
use Rattle.value.specs.declared.Scalar.{Scalar}
use Rattle.value.specs.declared.Scalar.TheVariants as scalar
use Rattle.value.specs.declared.Value.{Value}
use Rattle.value.specs.declared.Value.TheVariants as value
use Rattle.gate.specs.Said.{Said}
use Rattle.events.specs.Events.{span, code_of, extra_of}
use Rattle.small_rows.specs.SmallRows.{told_by}

-- ---- values
abbrev pub number_kind : Number → ℕ
number_kind (number.Int x) = 3
number_kind (number.Uint x) = 4
number_kind (number.Double x) = 5
number_kind (number.Nan x) = 5

abbrev pub scalar_kind : Scalar → ℕ
scalar_kind scalar.Null = 1
scalar_kind (scalar.Boolean b) = 2
scalar_kind (scalar.Number x) = number_kind x
scalar_kind (scalar.String s) = 6
scalar_kind (scalar.Opaque c s) = 7

abbrev pub kind_of : Value → ℕ
kind_of (value.Scalar t s) = scalar_kind s
kind_of (value.Container v) = 8

-- the 64 bits of a number: two's complement, or those of the double
abbrev pub bits_of : Number → ℕ
bits_of (number.Int x) = of_z w64 x
bits_of (number.Uint x) = x
bits_of (number.Double x) = to_bits binary64 x
bits_of (number.Nan x) = x

-- a number of 64 bits as two of 32, `low` and this
abbrev pub high : ℕ → ℕ
high n = n / 4294967296

-- two numbers that say what a value holds
abbrev pub scalar_holds : Scalar → Span
scalar_holds scalar.Null = span 0 0
scalar_holds (scalar.Boolean b) = span (cond b 1 0) 0
scalar_holds (scalar.Number x) = span (low (bits_of x)) (high (bits_of x))
scalar_holds (scalar.String s) = s
scalar_holds (scalar.Opaque c s) = s

abbrev pub holds : Value → Span
holds (value.Scalar t s) = scalar_holds s
holds (value.Container v) = span v.start v.size

abbrev pub value_numbers : Value → List ℕ
value_numbers x = kind_of x ∷ code_of x ∷ (holds x).start ∷ (holds x).len ∷ extra_of x ∷ []

-- ---- what is said, as numbers
abbrev pub value_told : Said Value → Told
value_told x = told_by value_numbers (0 ∷ 0 ∷ 0 ∷ 0 ∷ 0 ∷ []) x
