-- Each type is found by its own number, so no two share one.
-- Assumes nothing.
use mathlib.Core.Path.{◌≡◌, refl}
use Rattle.std.proofs.Common.{Some}
use Rattle.time.specs.declared.TimeType.{TimeType}
use Rattle.time.specs.declared.TimeType.TheVariants as type
use Rattle.time.specs.Answers.{code_of, type_of}

pub type-found : (k : TimeType) → type_of (code_of k) ≡ Some k
unfolding type_of
type-found type.Timestamp = refl
type-found type.Date = refl
type-found type.Time = refl
type-found type.Datetime = refl
