-- Type codes (json_binary.h of MySQL; document 01, 'Container rules'): 0 to 12 and 15; all others, 13 and 14 among them, are 2.
-- Assumes nothing.
use Rattle.std.specs.Prelude.{ℕ, List, [], ◌∷◌, Result, Ok, Err}
use Rattle.codes.specs.Lists.{search}
use Rattle.codes.specs.declared.types.JsonbType.{JsonbType}
use Rattle.codes.specs.declared.types.JsonbType.TheVariants as type
use Rattle.refusal.specs.declared.Refusal.{Refusal}
use Rattle.refusal.specs.declared.Refusal.TheVariants as refusal

abbrev pub code_of : JsonbType → ℕ
code_of type.SmallObject = 0
code_of type.LargeObject = 1
code_of type.SmallArray = 2
code_of type.LargeArray = 3
code_of type.Literal = 4
code_of type.Int16 = 5
code_of type.Uint16 = 6
code_of type.Int32 = 7
code_of type.Uint32 = 8
code_of type.Int64 = 9
code_of type.Uint64 = 10
code_of type.Double = 11
code_of type.String = 12
code_of type.Opaque = 15

abbrev pub all : List JsonbType
all = type.SmallObject ∷ type.LargeObject ∷ type.SmallArray ∷ type.LargeArray ∷ type.Literal ∷ type.Int16 ∷ type.Uint16 ∷ type.Int32 ∷
    type.Uint32 ∷ type.Int64 ∷ type.Uint64 ∷ type.Double ∷ type.String ∷ type.Opaque ∷ []

-- the one that a byte numbers
unfoldable pub type_of : ℕ → Result JsonbType Refusal
type_of n = search code_of Ok (Err refusal.Type) all n
