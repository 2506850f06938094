-- What an answer of a decimal is by value: the value, or the refusal.
-- Assumes nothing.
use Rattle.std.specs.Prelude.{ℤ, Result, Ok, Err}
use Rattle.refusal.specs.declared.Refusal.{Refusal}
use Rattle.decimal.specs.Value.{value}
use Rattle.decimal.specs.declared.Decimal.{Decimal}

abbrev pub valued : Result Decimal Refusal → Result ℤ Refusal
valued (Ok d) = Ok (value d)
valued (Err r) = Err r
