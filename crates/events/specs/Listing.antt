-- What a walk lists: events in order, and how it ends. It knows nothing of room.
-- Assumes nothing.
use Rattle.std.specs.Prelude.{ℕ}
use Rattle.events.specs.declared.Event.{Event}

-- the end; a refusal, its number and its place; or an event, the place where it would find no room, and what follows
pub data Listing : Type 0 where
  end : Listing
  fault : ℕ → ℕ → Listing
  event : Event → ℕ → Listing → Listing
