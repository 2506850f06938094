-- Column types: the numbers that `ColumnType` of mysql_common's src/constants.rs takes, and no more; any other byte is 10.
-- Assumes nothing.
use Rattle.std.specs.Prelude.{ℕ, List, [], ◌∷◌, Result, Ok, Err}
use Rattle.codes.specs.Lists.{search}
use Rattle.columns.specs.declared.ColumnType.{ColumnType}
use Rattle.columns.specs.declared.ColumnType.TheVariants as type
use Rattle.refusal.specs.declared.Refusal.{Refusal}
use Rattle.refusal.specs.declared.Refusal.TheVariants as refusal

abbrev pub code_of : ColumnType → ℕ
code_of type.Decimal = 0
code_of type.Tiny = 1
code_of type.Short = 2
code_of type.Long = 3
code_of type.Float = 4
code_of type.Double = 5
code_of type.Null = 6
code_of type.Timestamp = 7
code_of type.Longlong = 8
code_of type.Int24 = 9
code_of type.Date = 10
code_of type.Time = 11
code_of type.Datetime = 12
code_of type.Year = 13
code_of type.Newdate = 14
code_of type.Varchar = 15
code_of type.Bit = 16
code_of type.Timestamp2 = 17
code_of type.Datetime2 = 18
code_of type.Time2 = 19
code_of type.TypedArray = 20
code_of type.Vector = 242
code_of type.Unknown = 243
code_of type.Json = 245
code_of type.Newdecimal = 246
code_of type.Enum = 247
code_of type.Set = 248
code_of type.TinyBlob = 249
code_of type.MediumBlob = 250
code_of type.LongBlob = 251
code_of type.Blob = 252
code_of type.VarString = 253
code_of type.String = 254
code_of type.Geometry = 255

abbrev pub all : List ColumnType
all = type.Decimal ∷ type.Tiny ∷ type.Short ∷ type.Long ∷ type.Float ∷ type.Double ∷ type.Null ∷ type.Timestamp ∷ type.Longlong ∷
    type.Int24 ∷ type.Date ∷ type.Time ∷ type.Datetime ∷ type.Year ∷ type.Newdate ∷ type.Varchar ∷ type.Bit ∷ type.Timestamp2 ∷
    type.Datetime2 ∷ type.Time2 ∷ type.TypedArray ∷ type.Vector ∷ type.Unknown ∷ type.Json ∷ type.Newdecimal ∷ type.Enum ∷ type.Set ∷
    type.TinyBlob ∷ type.MediumBlob ∷ type.LongBlob ∷ type.Blob ∷ type.VarString ∷ type.String ∷ type.Geometry ∷ []

-- the one that a byte numbers
unfoldable pub type_of : ℕ → Result ColumnType Refusal
type_of n = search code_of Ok (Err refusal.Column) all n
