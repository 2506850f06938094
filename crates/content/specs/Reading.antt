-- What stands at a place i of the document, up to an end e, which is that of the enclosing container or entry (json_binary.h of MySQL; document 01, 'Container
-- rules' and the order of its refusals).
-- Assumes nothing.
use Rattle.std.specs.Prelude.{ℕ, ◌+◌, ◌-◌, Bool, true, false, cond, List, ltb, leb, get_or, Result, Ok, Err}
use Rattle.std.specs.Float.{binary64}
use Rattle.std.specs.Float.Ieee.{nan_bits, of_bits}
use Rattle.std.specs.Int.{w16, w32, w64}
use Rattle.std.proofs.Common.{to_z}
use Rattle.refusal.specs.declared.Refusal.{Refusal}
use Rattle.refusal.specs.declared.Refusal.TheVariants as refusal
use Rattle.raw.specs.Numbers.{le}
use Rattle.length_field.specs.Length.{length_at}
use Rattle.length_field.specs.declared.Length.{Length}
use Rattle.codes.specs.Literals.{type_of as literal_type}
use Rattle.columns.specs.Columns.{type_of as column_type}
use Rattle.codes.specs.declared.types.JsonbType.{JsonbType}
use Rattle.codes.specs.declared.types.JsonbType.TheVariants as type
use Rattle.codes.specs.declared.literals.LiteralType.{LiteralType}
use Rattle.codes.specs.declared.literals.LiteralType.TheVariants as literal
use Rattle.columns.specs.declared.ColumnType.{ColumnType}
use Rattle.layout.specs.declared.Kind.{Kind}
use Rattle.header.specs.Headers.{header_at, placed, then}
use Rattle.header.specs.declared.Header.{Header}
use Rattle.value.specs.declared.View.{View}
use Rattle.value.specs.declared.Span.{Span}
use Rattle.value.specs.declared.Number.{Number}
use Rattle.value.specs.declared.Number.TheVariants.{Int, Uint, Double, Nan}
use Rattle.value.specs.declared.Scalar.{Scalar}
use Rattle.value.specs.declared.Scalar.TheVariants as scalar
use Rattle.value.specs.declared.Value.{Value}
use Rattle.value.specs.declared.Value.TheVariants as value

abbrev pub kind : Bool → Bool → Kind
kind o l = record { object = o; large = l }

abbrev pub span : ℕ → ℕ → Span
span s n = record { start = s; len = n }

abbrev pub view : ℕ → ℕ → ℕ → Kind → View
view s n c k = record { start = s; size = n; count = c; kind = k }

abbrev pub scalar_of : JsonbType → Scalar → Result Value Refusal
scalar_of t s = Ok (value.Scalar t s)

-- ---- containers: what the header says
abbrev pub viewed : Kind → ℕ → Result Header Refusal → Result Value Refusal
viewed k i h = then h (λ x. Ok (value.Container (view i x.size x.count k)))

abbrev pub container_at : List ℕ → Kind → ℕ → ℕ → Result Value Refusal
container_at d k i e = viewed k i (header_at d k i e)

-- ---- literals
abbrev pub literal_scalar : LiteralType → Scalar
literal_scalar literal.Null = scalar.Null
literal_scalar literal.True = scalar.Boolean true
literal_scalar literal.False = scalar.Boolean false

abbrev pub literal_of : Result LiteralType Refusal → Result Value Refusal
literal_of l = then l (λ x. scalar_of type.Literal (literal_scalar x))

unfoldable pub literal_at : List ℕ → ℕ → ℕ → Result Value Refusal
literal_at d i e = cond (leb e i) (Err refusal.Cut) (literal_of (literal_type (get_or d i 0)))

-- ---- numbers
-- a double by its bits; the logic has one NaN, so a NaN's bits have a case of their own
unfoldable pub double_of : ℕ → Number
double_of n = cond (nan_bits binary64 n) (Nan n) (Double (of_bits binary64 n))

unfoldable pub number_at : JsonbType → ℕ → ℕ → ℕ → Number → Result Value Refusal
number_at t w i e x = cond (ltb (e - i) w) (Err refusal.Cut) (scalar_of t (scalar.Number x))

-- ---- strings and opaque values: a length field and as many bytes
abbrev pub bytes_of : ℕ → Length → Result Span Refusal
bytes_of e f = cond (ltb (e - f.next) f.length) (Err refusal.Cut) (Ok (span f.next f.length))

unfoldable pub part_at : List ℕ → ℕ → ℕ → Result Span Refusal
part_at d i e = then (length_at d i e) (bytes_of e)

abbrev pub part_of : JsonbType → (Span → Scalar) → Result Span Refusal → Result Value Refusal
part_of t make p = then p (λ s. scalar_of t (make s))

unfoldable pub string_at : List ℕ → ℕ → ℕ → Result Value Refusal
string_at d i e = part_of type.String scalar.String (part_at d i e)

abbrev pub opaque_of : Result ColumnType Refusal → Result Span Refusal → Result Value Refusal
opaque_of c p = then c (λ t. part_of type.Opaque (scalar.Opaque t) p)

unfoldable pub opaque_at : List ℕ → ℕ → ℕ → Result Value Refusal
opaque_at d i e = cond (leb e i) (Err refusal.Cut) (opaque_of (column_type (get_or d i 0)) (part_at d (i + 1) e))

-- ---- the value of a type
unfoldable pub content_at : List ℕ → JsonbType → ℕ → ℕ → Result Value Refusal
content_at d type.SmallObject i e = container_at d (kind true false) i e
content_at d type.LargeObject i e = container_at d (kind true true) i e
content_at d type.SmallArray i e = container_at d (kind false false) i e
content_at d type.LargeArray i e = container_at d (kind false true) i e
content_at d type.Literal i e = literal_at d i e
content_at d type.Int16 i e = number_at type.Int16 2 i e (Int (to_z w16 (le 2 d i e)))
content_at d type.Uint16 i e = number_at type.Uint16 2 i e (Uint (le 2 d i e))
content_at d type.Int32 i e = number_at type.Int32 4 i e (Int (to_z w32 (le 4 d i e)))
content_at d type.Uint32 i e = number_at type.Uint32 4 i e (Uint (le 4 d i e))
content_at d type.Int64 i e = number_at type.Int64 8 i e (Int (to_z w64 (le 8 d i e)))
content_at d type.Uint64 i e = number_at type.Uint64 8 i e (Uint (le 8 d i e))
content_at d type.Double i e = number_at type.Double 8 i e (double_of (le 8 d i e))
content_at d type.String i e = string_at d i e
content_at d type.Opaque i e = opaque_at d i e

-- ---- at any place: the fault, or what is read there
unfoldable pub read_at : List ℕ → JsonbType → ℕ → ℕ → Result Value Refusal
read_at d t i e = placed d i e (content_at d t i e)
