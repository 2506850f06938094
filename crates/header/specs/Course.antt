-- What private functions ask of a place; no public promise rests on it.
-- Assumes nothing.
use Rattle.std.specs.Prelude.{ℕ, ◌≤◌}

-- a place and an end within a document that is not too long
pub record Within (n at e : ℕ) : Type 0 where
  pub order : at ≤ e
  pub inside : e ≤ n
  pub short : n ≤ 16777216
