-- An opaque value of type NEWDECIMAL (document 01): its bytes are a packed decimal, precision and scale first. 1 for a document that is too long,
-- then 3 where the document ends before the bytes do, then what `decimal` says of these bytes and of no others.
-- Assumes nothing.
use Rattle.std.specs.Prelude.{ℕ, ◌+◌, Bool, cond, List, ltb, eqb, length, take, drop, Option, Some, None, Result, Err}
use Rattle.refusal.specs.declared.Refusal.{Refusal}
use Rattle.refusal.specs.declared.Refusal.TheVariants as refusal
use Rattle.decimal.specs.Read.{read_packed}
use Rattle.decimal.specs.declared.Decimal.{Decimal}
use Rattle.columns.specs.Columns.{code_of}
use Rattle.columns.specs.declared.ColumnType.{ColumnType}
use Rattle.value.specs.declared.Span.{Span}
use Rattle.value.specs.declared.Scalar.{Scalar}
use Rattle.value.specs.declared.Scalar.TheVariants as scalar
use Rattle.value.specs.declared.Value.{Value}
use Rattle.value.specs.declared.Value.TheVariants as value

-- the packed bytes of an opaque value whose column type is NEWDECIMAL, 246 in MySQL; nothing for any other value
unfoldable pub column_part : ColumnType → Span → Option Span
column_part t p = cond (eqb (code_of t) 246) (Some p) None

abbrev pub scalar_part : Scalar → Option Span
scalar_part scalar.Null = None
scalar_part (scalar.Boolean b) = None
scalar_part (scalar.Number x) = None
scalar_part (scalar.String s) = None
scalar_part (scalar.Opaque t p) = column_part t p

abbrev pub decimal_part : Value → Option Span
decimal_part (value.Scalar t s) = scalar_part s
decimal_part (value.Container v) = None

unfoldable pub opaque_decimal : List ℕ → Span → Bool → Result Decimal Refusal
opaque_decimal d p keep =
    cond (ltb 16777216 (length d)) (Err refusal.Document)
    (cond (ltb (length d) (p.start + p.len)) (Err refusal.Cut) (read_packed (take p.len (drop p.start d)) keep))
