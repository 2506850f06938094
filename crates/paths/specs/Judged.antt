-- What is said of one path that is not too long: its event, or its first fault with its number and place. The order is document 01's: the key 5, the key 9,
-- the value, a string 9. The place of a 9 is the byte at which the text breaks; of another fault it is the key entry's for a key's, else the value entry's.
-- Assumes nothing.
use Rattle.std.specs.Prelude.{ℕ, List, Result, Ok, Err, ⊤}
use Rattle.gate.specs.Said.{Said, says, nothing, refuses}
use Rattle.value.specs.declared.Span.{Span}
use Rattle.value.specs.declared.Value.{Value}
use Rattle.events.specs.declared.Event.{Event}
use Rattle.events.specs.declared.Spot.{Spot}
use Rattle.events.specs.Events.{event_of}
use Rattle.events.specs.Text.{text_at, value_text}
use Rattle.events.specs.Listing.{Listing, end, fault, event}

-- what stands at a path: the places of its entries, its key, its value, and the value's first byte
pub record Stand : Type 0 where
  pub place : ℕ
  pub key_place : ℕ
  pub key : Said Span
  pub value : Said Value
  pub from : ℕ

pub data Judged : Type 0 where
  bad : ℕ → ℕ → Judged
  good : Event → Value → Judged

abbrev pub spot : ℕ → ℕ → ℕ → ℕ → Span → ℕ → Spot
spot depth i m p k f = record { depth = depth; position = i; parent = m; place = p; key = k; from = f }

-- a text that breaks is 9 where it breaks; after one that does not comes the rest
abbrev pub text_then : Result ⊤ ℕ → Judged → Judged
text_then (Ok u) j = j
text_then (Err p) j = bad 9 p

-- the value, then its text. Below a container's count there is no nothing
abbrev pub value_judged : List ℕ → Spot → Said Value → Judged
value_judged d s (says x) = text_then (value_text d x) (good (event_of s x) x)
value_judged d s nothing = bad 0 s.place
value_judged d s (refuses n) = bad n s.place

-- the key, then its text, then the value
abbrev pub key_judged : List ℕ → ℕ → ℕ → ℕ → Stand → Said Span → Judged
key_judged d depth i m s (says k) = text_then (text_at d k) (value_judged d (spot depth i m s.place k s.from) s.value)
key_judged d depth i m s nothing = bad 0 s.key_place
key_judged d depth i m s (refuses n) = bad n s.key_place

-- a path of this length that ends in position i, in the container of event m
abbrev pub judged : List ℕ → ℕ → ℕ → ℕ → Stand → Judged
judged d depth i m s = key_judged d depth i m s s.key

-- one path whose value entry is at a place, and what is listed after it
abbrev pub node : Judged → ℕ → (Value → Listing) → Listing
node (bad n q) p below = fault n q
node (good e x) p below = event e p (below x)

abbrev pub childless : Value → Listing
childless x = end
