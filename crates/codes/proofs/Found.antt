-- Each type and literal is found by its own number: so none is missing in the lists, and no two share a number.
-- Assumes nothing.
use mathlib.Core.Path.{◌≡◌, refl}
use Rattle.std.specs.Prelude.{Ok}
use Rattle.codes.specs.Lists.{search}
use Rattle.codes.specs.Types.{code_of as type_code, type_of as type_of}
use Rattle.codes.specs.declared.types.JsonbType.{JsonbType}
use Rattle.codes.specs.declared.types.JsonbType.TheVariants as type
use Rattle.codes.specs.Literals.{code_of as literal_code, type_of as literal_of}
use Rattle.codes.specs.declared.literals.LiteralType.{LiteralType}
use Rattle.codes.specs.declared.literals.LiteralType.TheVariants as literal

pub type-found : (t : JsonbType) → type_of (type_code t) ≡ Ok t
unfolding type_of search
type-found type.SmallObject = refl
type-found type.LargeObject = refl
type-found type.SmallArray = refl
type-found type.LargeArray = refl
type-found type.Literal = refl
type-found type.Int16 = refl
type-found type.Uint16 = refl
type-found type.Int32 = refl
type-found type.Uint32 = refl
type-found type.Int64 = refl
type-found type.Uint64 = refl
type-found type.Double = refl
type-found type.String = refl
type-found type.Opaque = refl

pub literal-found : (t : LiteralType) → literal_of (literal_code t) ≡ Ok t
unfolding literal_of search
literal-found literal.Null = refl
literal-found literal.True = refl
literal-found literal.False = refl
