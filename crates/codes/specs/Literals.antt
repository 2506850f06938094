-- Literals (json_binary.h of MySQL; document 01, 'Container rules'): 0 null, 1 true, 2 false; any other byte is 7.
-- Assumes nothing.
use Rattle.std.specs.Prelude.{ℕ, List, [], ◌∷◌, Result, Ok, Err}
use Rattle.codes.specs.Lists.{search}
use Rattle.codes.specs.declared.literals.LiteralType.{LiteralType}
use Rattle.codes.specs.declared.literals.LiteralType.TheVariants as type
use Rattle.refusal.specs.declared.Refusal.{Refusal}
use Rattle.refusal.specs.declared.Refusal.TheVariants as refusal

abbrev pub code_of : LiteralType → ℕ
code_of type.Null = 0
code_of type.True = 1
code_of type.False = 2

abbrev pub all : List LiteralType
all = type.Null ∷ type.True ∷ type.False ∷ []

-- the one that a byte numbers
unfoldable pub type_of : ℕ → Result LiteralType Refusal
type_of n = search code_of Ok (Err refusal.Literal) all n
