-- What an answer says: something, nothing (which is no refusal), or a refusal by document 01's number. Two definitions take every answer there.
-- Assumes nothing.
use Rattle.std.specs.Prelude.{ℕ, Result, Ok, Err, Option, Some, None}
use Rattle.refusal.specs.declared.Refusal.{Refusal}
use Rattle.refusal.specs.Refusals.{number_of}

pub data Said (A : Type 0) : Type 0 where
  says : A → Said A
  nothing : Said A
  refuses : ℕ → Said A

-- an answer that is never nothing
abbrev pub read_said : {A : Type 0} → Result A Refusal → Said A
read_said (Ok x) = says x
read_said (Err r) = refuses (number_of r)

-- one that may be
abbrev pub said : {A : Type 0} → Result (Option A) Refusal → Said A
said (Ok (Some x)) = says x
said (Ok None) = nothing
said (Err e) = refuses (number_of e)
