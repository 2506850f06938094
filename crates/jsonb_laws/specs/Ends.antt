-- Where a value that is read at place i ends: the first place past the bytes that say it. A container and the bytes of a string or an opaque value end
-- where they say; a literal is one byte, and a number as many as its type has (json_binary.h of MySQL).
-- Assumes nothing.
use Rattle.std.specs.Prelude.{ℕ, ◌+◌}
use Rattle.codes.specs.declared.types.JsonbType.{JsonbType}
use Rattle.codes.specs.declared.types.JsonbType.TheVariants as type
use Rattle.value.specs.declared.Scalar.{Scalar}
use Rattle.value.specs.declared.Scalar.TheVariants as scalar
use Rattle.value.specs.declared.Value.{Value}
use Rattle.value.specs.declared.Value.TheVariants as value
use Rattle.entry.specs.Entries.{end_of}

-- the bytes of a number; no number has another type
abbrev pub number_bytes : JsonbType → ℕ
number_bytes type.SmallObject = 0
number_bytes type.LargeObject = 0
number_bytes type.SmallArray = 0
number_bytes type.LargeArray = 0
number_bytes type.Literal = 0
number_bytes type.Int16 = 2
number_bytes type.Uint16 = 2
number_bytes type.Int32 = 4
number_bytes type.Uint32 = 4
number_bytes type.Int64 = 8
number_bytes type.Uint64 = 8
number_bytes type.Double = 8
number_bytes type.String = 0
number_bytes type.Opaque = 0

abbrev pub scalar_end : ℕ → JsonbType → Scalar → ℕ
scalar_end i t scalar.Null = i + 1
scalar_end i t (scalar.Boolean b) = i + 1
scalar_end i t (scalar.Number x) = i + number_bytes t
scalar_end i t (scalar.String s) = s.start + s.len
scalar_end i t (scalar.Opaque c s) = s.start + s.len

abbrev pub end_at : ℕ → Value → ℕ
end_at i (value.Scalar t s) = scalar_end i t s
end_at i (value.Container v) = end_of v
