-- One event of the walk (document 01, 'The walk'; document 02, W6): nine numbers, the type code, the depth, the position, the key's start and length, the
-- value's start and length, one that is a container's count, an opaque value's column type, or 0, and the index in the list of the container's event, 0
-- for the root. Starts count from the document's first byte.
-- Assumes nothing.
use Rattle.std.specs.Prelude.{ℕ, cond, List, [], ◌∷◌, eqb}
use Rattle.codes.specs.Types.{code_of as type_code}
use Rattle.columns.specs.Columns.{code_of as column_code}
use Rattle.codes.specs.declared.types.JsonbType.{JsonbType}
use Rattle.codes.specs.declared.types.JsonbType.TheVariants as type
use Rattle.layout.specs.declared.Kind.{Kind}
use Rattle.value.specs.declared.Span.{Span}
use Rattle.value.specs.declared.Scalar.{Scalar}
use Rattle.value.specs.declared.Scalar.TheVariants as scalar
use Rattle.value.specs.declared.Value.{Value}
use Rattle.value.specs.declared.Value.TheVariants as value
use Rattle.events.specs.declared.Event.{Event}
use Rattle.events.specs.declared.Spot.{Spot}

abbrev pub span : ℕ → ℕ → Span
span s n = record { start = s; len = n }

-- the root and elements of arrays have no key
abbrev pub no_key : Span
no_key = span 0 0

-- a container's type code: 0 small object, 1 large object, 2 small array, 3 large array
unfoldable pub kind_code : Kind → ℕ
kind_code k = cond k.object (cond k.large 1 0) (cond k.large 3 2)

abbrev pub code_of : Value → ℕ
code_of (value.Scalar t s) = type_code t
code_of (value.Container v) = kind_code v.kind

-- the bytes of a literal and of numbers
abbrev pub bytes_of : JsonbType → ℕ
bytes_of type.SmallObject = 0
bytes_of type.LargeObject = 0
bytes_of type.SmallArray = 0
bytes_of type.LargeArray = 0
bytes_of type.Literal = 1
bytes_of type.Int16 = 2
bytes_of type.Uint16 = 2
bytes_of type.Int32 = 4
bytes_of type.Uint32 = 4
bytes_of type.Int64 = 8
bytes_of type.Uint64 = 8
bytes_of type.Double = 8
bytes_of type.String = 0
bytes_of type.Opaque = 0

-- the bytes of a type from a place on. No value starts at a document's first byte, so 0 says that the document is empty: its null has no bytes
unfoldable pub bytes_from : JsonbType → ℕ → Span
bytes_from t from = cond (eqb from 0) (span 0 0) (span from (bytes_of t))

-- a string or an opaque value shows only its bytes; a container its header's first byte and its size
abbrev pub scalar_part : JsonbType → Scalar → ℕ → Span
scalar_part t scalar.Null from = bytes_from t from
scalar_part t (scalar.Boolean b) from = bytes_from t from
scalar_part t (scalar.Number x) from = bytes_from t from
scalar_part t (scalar.String s) from = s
scalar_part t (scalar.Opaque c s) from = s

abbrev pub part_of : Value → ℕ → Span
part_of (value.Scalar t s) from = scalar_part t s from
part_of (value.Container v) from = span v.start v.size

abbrev pub scalar_extra : Scalar → ℕ
scalar_extra scalar.Null = 0
scalar_extra (scalar.Boolean b) = 0
scalar_extra (scalar.Number x) = 0
scalar_extra (scalar.String s) = 0
scalar_extra (scalar.Opaque c s) = column_code c

abbrev pub extra_of : Value → ℕ
extra_of (value.Scalar t s) = scalar_extra s
extra_of (value.Container v) = v.count

-- the event of a value that stands at a spot
abbrev pub event_of : Spot → Value → Event
event_of s x =
    record {
      code = code_of x;
      depth = s.depth;
      position = s.position;
      key = s.key;
      part = part_of x s.from;
      extra = extra_of x;
      parent = s.parent;
    }

-- its numbers, as they are laid out
abbrev pub numbers : Event → List ℕ
numbers e = e.code ∷ e.depth ∷ e.position ∷ e.key.start ∷ e.key.len ∷ e.part.start ∷ e.part.len ∷ e.extra ∷ e.parent ∷ []

-- how many they are
abbrev pub wide : ℕ
wide = 9
