-- What an answer says: the number of its refusal, 0 where it is none, and its values. Each answer has a definition that takes every case to such a record,
-- and the promises are equations of these records.
-- Assumes nothing.
use Rattle.std.specs.Prelude.{ℕ, List, [], Result, Ok, Err}
use Rattle.refusal.specs.declared.Refusal.{Refusal}
use Rattle.refusal.specs.Refusals.{number_of}

pub record Told : Type 0 where
  pub number : ℕ
  pub values : List ℕ

-- an answer with values
abbrev pub answer : List ℕ → Told
answer vs = record { number = 0; values = vs }

-- a refusal by its number, with no value
abbrev pub refusal : ℕ → Told
refusal n = record { number = n; values = [] }

-- what a result says whose value is told by these numbers
abbrev pub told_by : {A : Type 0} → (A → List ℕ) → Result A Refusal → Told
told_by values (Ok x) = answer (values x)
told_by values (Err r) = refusal (number_of r)
