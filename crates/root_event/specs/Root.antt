-- The root's own path (document 01, 'The walk'): it has no key, its depth, position, parent and place are 0, and its value starts past the document's type byte; the
-- empty document has none, and its null starts at 0. It is listed, or refused at 0 by what its value is refused with, or refused by 9 at the place where it is a string that breaks.
-- Assumes nothing.
use Rattle.std.specs.Prelude.{ℕ, cond, List, eqb, length, Result, Ok, Err, Option, Some, None, ⊤}
use Rattle.refusal.specs.declared.Refusal.{Refusal}
use Rattle.refusal.specs.Refusals.{number_of}
use Rattle.value.specs.declared.View.{View}
use Rattle.value.specs.declared.Value.{Value}
use Rattle.value.specs.declared.Value.TheVariants as value
use Rattle.jsonb.specs.Views.{root_read}
use Rattle.events.specs.declared.Spot.{Spot}
use Rattle.events.specs.Events.{no_key, event_of}
use Rattle.events.specs.Text.{value_text}
use Rattle.events.specs.Listing.{Listing, end, fault, event}

-- the container that a value is: what a walk goes on into
abbrev pub leads_of : Value → Option View
leads_of (value.Scalar t s) = None
leads_of (value.Container v) = Some v

abbrev pub leads_to : Result Value Refusal → Option View
leads_to (Ok x) = leads_of x
leads_to (Err r) = None

unfoldable pub first_byte : List ℕ → ℕ
first_byte d = cond (eqb (length d) 0) 0 1

abbrev pub spot_of : List ℕ → Spot
spot_of d = record { depth = 0; position = 0; parent = 0; place = 0; key = no_key; from = first_byte d }

-- a text that breaks is 9 where it breaks
abbrev pub text_node : Result ⊤ ℕ → Listing → Listing
text_node (Ok u) l = l
text_node (Err p) l = fault 9 p

unfoldable pub value_node : List ℕ → Value → Listing
value_node d x = text_node (value_text d x) (event (event_of (spot_of d) x) 0 end)

abbrev pub read_node : List ℕ → Result Value Refusal → Listing
read_node d (Ok x) = value_node d x
read_node d (Err r) = fault (number_of r) 0

unfoldable pub root_node : List ℕ → Listing
root_node d = read_node d (root_read d)
