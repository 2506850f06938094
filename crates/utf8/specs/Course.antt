-- What private functions do on the way, said by the machine of the crate rfc3629.
-- Assumes nothing.
use Rattle.std.specs.Prelude.{ℕ, ◌≤◌, ◌<◌, ◌≡◌, List, length, get_or, drop, Result, Ok, Err}
use Rattle.rfc3629.specs.Machine.{start, more, bad, run}
use Rattle.utf8.specs.declared.Utf8Error.{Utf8Error}
use Rattle.utf8.specs.Answer.{Check}

-- from the place `at`, where a character begins, the run comes to r, where one begins
pub record Runs (s : List ℕ) (at r : ℕ) : Type 0 where
  pub on : at ≤ r
  pub within : r ≤ length s
  pub same : run start at (drop at s) ≡ run start r (drop r s)

-- a byte from lo to hi stands at a place; where none does, a run that asks for one stops there
abbrev pub Takes : ℕ → ℕ → List ℕ → ℕ → Check → Type 0
Takes lo hi s at (Ok u) = (at < length s) × (lo ≤ get_or s at 0) × (get_or s at 0 ≤ hi)
Takes lo hi s at (Err e) = (e.place ≡ at) × ((k : ℕ) → run (more k lo hi) at (drop at s) ≡ bad at)

-- what a step says from a place where a character begins: the place, from `from` on, where the next begins, or where the run stops
abbrev pub Leads : ℕ → List ℕ → ℕ → Result ℕ Utf8Error → Type 0
Leads from s at (Ok j) = Runs s at j × (from ≤ j)
Leads from s at (Err e) = run start at (drop at s) ≡ bad e.place
