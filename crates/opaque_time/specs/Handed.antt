-- An opaque value of type DATE, TIME, DATETIME or TIMESTAMP (document 02, W4): its bytes are the packed form. 1 for a document that is too long, then 3 where
-- the document ends before the bytes do, then what `time` says of these bytes and of no others.
-- Assumes nothing.
use Rattle.std.specs.Prelude.{ℕ, ◌+◌, cond, List, ltb, length, take, drop, Option, Some, None}
use Rattle.refusal.specs.Told.{Told, refusal}
use Rattle.columns.specs.Columns.{code_of}
use Rattle.columns.specs.declared.ColumnType.{ColumnType}
use Rattle.time.specs.Answers.{type_of, read_told}
use Rattle.time.specs.declared.TimeType.{TimeType}
use Rattle.value.specs.declared.Span.{Span}
use Rattle.value.specs.declared.Scalar.{Scalar}
use Rattle.value.specs.declared.Scalar.TheVariants as scalar
use Rattle.value.specs.declared.Value.{Value}
use Rattle.value.specs.declared.Value.TheVariants as value

-- the type and the bytes of an opaque value whose column type is one of the four; nothing for any other value
abbrev pub typed_part : Option TimeType → Span → Option (TimeType × Span)
typed_part (Some k) p = Some (k, p)
typed_part None p = None

unfoldable pub column_part : ColumnType → Span → Option (TimeType × Span)
column_part t p = typed_part (type_of (code_of t)) p

abbrev pub scalar_part : Scalar → Option (TimeType × Span)
scalar_part scalar.Null = None
scalar_part (scalar.Boolean b) = None
scalar_part (scalar.Number x) = None
scalar_part (scalar.String s) = None
scalar_part (scalar.Opaque t p) = column_part t p

abbrev pub time_part : Value → Option (TimeType × Span)
time_part (value.Scalar t s) = scalar_part s
time_part (value.Container v) = None

unfoldable pub opaque_told : List ℕ → Span → TimeType → Told
opaque_told d p k =
    cond (ltb 16777216 (length d)) (refusal 1)
    (cond (ltb (length d) (p.start + p.len)) (refusal 3) (read_told k (take p.len (drop p.start d))))
