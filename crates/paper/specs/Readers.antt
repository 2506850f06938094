-- What a bad reader answers.
-- Assumes nothing.
use Rattle.value.specs.declared.Value.{Value}
use Rattle.value.specs.declared.Value.TheVariants as value
use Rattle.value.specs.declared.Scalar.TheVariants as scalar
use Rattle.gate.specs.Said.{Said, says, nothing, refuses}

-- a refusal, or nothing: no answer that says a thing
abbrev pub Silent : {A : Type 0} → Said A → Type 0
Silent (says x) = ⊥
Silent nothing = Unit {0}
Silent (refuses n) = Unit {0}

abbrev pub IsNull : Value → Type 0
IsNull (value.Container v) = ⊥
IsNull (value.Scalar t scalar.Null) = Unit {0}
IsNull (value.Scalar t (scalar.Boolean b)) = ⊥
IsNull (value.Scalar t (scalar.Number x)) = ⊥
IsNull (value.Scalar t (scalar.String s)) = ⊥
IsNull (value.Scalar t (scalar.Opaque c s)) = ⊥

-- null, wherever a value is said at all
abbrev pub OnlyNull : Said Value → Type 0
OnlyNull (says x) = IsNull x
OnlyNull nothing = Unit {0}
OnlyNull (refuses n) = Unit {0}
