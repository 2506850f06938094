-- An iteration from its first place: the place after n steps.
-- Assumes nothing.
use Rattle.std.specs.Prelude.{ℕ, zero, suc, Bool, List}
use Rattle.value.specs.declared.View.{View}
use Rattle.steps.specs.Steps.{is_open, after}

unfoldable pub steps_to : List ℕ → View → Bool → ℕ → ℕ
steps_to d v asked zero = 0
steps_to d v asked (suc n) = after (is_open d v asked (steps_to d v asked n)) (steps_to d v asked n)
