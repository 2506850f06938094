-- How a walk ends, by document 01's numbers: after so many events, or at a refusal, its number and its place, after so many.
-- Assumes nothing.
use Rattle.std.specs.Prelude.{ℕ, ◌+◌, Result, Ok, Err}
use Rattle.refusal.specs.Refusals.{number_of}
use Rattle.events.specs.declared.Stopped.{Stopped as Stop}

pub data Walked : Type 0 where
  Done : ℕ → Walked
  Stopped : ℕ → ℕ → ℕ → Walked

-- of the code's answer
abbrev pub walked : Result ℕ Stop → Walked
walked (Ok n) = Done n
walked (Err s) = Stopped (number_of s.refusal) s.place s.count

-- of what lists one event more, and answers something beside
abbrev pub listed : {A : Type 0} → ℕ → Result A Stop → Walked
listed n (Ok x) = Done (n + 1)
listed n (Err s) = Stopped (number_of s.refusal) s.place s.count
