-- A listing laid into a lent list from event n on: what a walk answers and leaves, in the order in which the code does it.
-- Assumes nothing.
use Rattle.std.specs.Prelude.{ℕ, ◌+◌, ◌*◌, ◌/◌, cond, List, ltb, length}
use Rattle.std.proofs.lemmas.List.Edits.{sets}
use Rattle.events.specs.declared.Event.{Event}
use Rattle.events.specs.Walked.{Walked, Done, Stopped}
use Rattle.events.specs.Events.{numbers, wide}
use Rattle.events.specs.Listing.{Listing, end, fault, event}

pub data Laid : Type 0 where
  laid : Walked → List ℕ → Laid

-- event n
unfoldable pub put : List ℕ → ℕ → Event → List ℕ
put out n e = sets out (wide * n) (numbers e)

-- how many events a list has room for: its length divided by an event's, rounded down, at most 4,294,967,295
unfoldable pub room : List ℕ → ℕ
room out = cond (ltb 4294967295 (length out / wide)) 4294967295 (length out / wide)

unfoldable pub lay : Listing → List ℕ → ℕ → Laid
lay end out n = laid (Done n) out
lay (fault r p) out n = laid (Stopped r p n) out
lay (event e p l) out n = cond (ltb n (room out)) (lay l (put out n e) (n + 1)) (laid (Stopped 12 p n) out)
