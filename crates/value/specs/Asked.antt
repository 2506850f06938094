-- What a value is asked, as mysql_common's `Value` has it: whether it is an array, an object, a signed or an unsigned number or a double, how many
-- elements it has, and the column type of an opaque value. A double that is no number is a double.
-- Assumes nothing.
use Rattle.std.specs.Prelude.{ℕ, Bool, true, false, not, Option, Some, None}
use Rattle.columns.specs.declared.ColumnType.{ColumnType}
use Rattle.value.specs.declared.Number.{Number}
use Rattle.value.specs.declared.Number.TheVariants as number
use Rattle.value.specs.declared.Scalar.{Scalar}
use Rattle.value.specs.declared.Scalar.TheVariants as scalar
use Rattle.value.specs.declared.Value.{Value}
use Rattle.value.specs.declared.Value.TheVariants as value

abbrev pub is_array : Value → Bool
is_array (value.Scalar t s) = false
is_array (value.Container v) = not v.kind.object

abbrev pub is_object : Value → Bool
is_object (value.Scalar t s) = false
is_object (value.Container v) = v.kind.object

-- ---- numbers
abbrev pub is_int_number : Number → Bool
is_int_number (number.Int x) = true
is_int_number (number.Uint x) = false
is_int_number (number.Double x) = false
is_int_number (number.Nan x) = false

abbrev pub is_uint_number : Number → Bool
is_uint_number (number.Int x) = false
is_uint_number (number.Uint x) = true
is_uint_number (number.Double x) = false
is_uint_number (number.Nan x) = false

abbrev pub is_double_number : Number → Bool
is_double_number (number.Int x) = false
is_double_number (number.Uint x) = false
is_double_number (number.Double x) = true
is_double_number (number.Nan x) = true

-- of scalars, numbers alone
abbrev pub of_number : (Number → Bool) → Scalar → Bool
of_number p scalar.Null = false
of_number p (scalar.Boolean b) = false
of_number p (scalar.Number x) = p x
of_number p (scalar.String s) = false
of_number p (scalar.Opaque t s) = false

abbrev pub of_scalar : (Scalar → Bool) → Value → Bool
of_scalar p (value.Scalar t s) = p s
of_scalar p (value.Container v) = false

abbrev pub is_int : Value → Bool
is_int v = of_scalar (of_number is_int_number) v

abbrev pub is_uint : Value → Bool
is_uint v = of_scalar (of_number is_uint_number) v

abbrev pub is_double : Value → Bool
is_double v = of_scalar (of_number is_double_number) v

-- ---- a count of containers, and a column type of opaque values
abbrev pub element_count : Value → Option ℕ
element_count (value.Scalar t s) = None
element_count (value.Container v) = Some v.count

abbrev pub scalar_field : Scalar → Option ColumnType
scalar_field scalar.Null = None
scalar_field (scalar.Boolean b) = None
scalar_field (scalar.Number x) = None
scalar_field (scalar.String s) = None
scalar_field (scalar.Opaque t s) = Some t

abbrev pub field_type : Value → Option ColumnType
field_type (value.Scalar t s) = scalar_field s
field_type (value.Container v) = None
