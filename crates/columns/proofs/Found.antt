-- Each column type is found by its own number: so none is missing in the list, and no two share a number.
-- Assumes nothing.
use mathlib.Core.Path.{◌≡◌, refl}
use Rattle.codes.specs.Lists.{search}
use Rattle.columns.specs.Columns.{code_of, type_of}
use Rattle.columns.specs.declared.ColumnType.{ColumnType}
use Rattle.columns.specs.declared.ColumnType.TheVariants as column
use Rattle.std.specs.Prelude.{Ok}

pub column-found : (t : ColumnType) → type_of (code_of t) ≡ Ok t
unfolding type_of search
column-found column.Decimal = refl
column-found column.Tiny = refl
column-found column.Short = refl
column-found column.Long = refl
column-found column.Float = refl
column-found column.Double = refl
column-found column.Null = refl
column-found column.Timestamp = refl
column-found column.Longlong = refl
column-found column.Int24 = refl
column-found column.Date = refl
column-found column.Time = refl
column-found column.Datetime = refl
column-found column.Year = refl
column-found column.Newdate = refl
column-found column.Varchar = refl
column-found column.Bit = refl
column-found column.Timestamp2 = refl
column-found column.Datetime2 = refl
column-found column.Time2 = refl
column-found column.TypedArray = refl
column-found column.Vector = refl
column-found column.Unknown = refl
column-found column.Json = refl
column-found column.Newdecimal = refl
column-found column.Enum = refl
column-found column.Set = refl
column-found column.TinyBlob = refl
column-found column.MediumBlob = refl
column-found column.LongBlob = refl
column-found column.Blob = refl
column-found column.VarString = refl
column-found column.String = refl
column-found column.Geometry = refl
