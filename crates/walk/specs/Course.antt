-- An entry and what is below it, in the shape of the code; no public promise rests on it.
-- Assumes nothing.
use Rattle.std.specs.Prelude.{ℕ, ◌+◌, ◌*◌, ◌%◌, cond, List, get_or, ltb, eqb, Result, Ok, Err, Option, Some, None, ⊤}
use Rattle.refusal.specs.declared.Refusal.{Refusal}
use Rattle.refusal.specs.Refusals.{number_of}
use Rattle.value.specs.declared.View.{View}
use Rattle.value.specs.declared.Span.{Span}
use Rattle.value.specs.declared.Value.TheVariants.{Container}
use Rattle.content.specs.Reading.{kind, view}
use Rattle.events.specs.declared.Event.{Event}
use Rattle.events.specs.Events.{wide}
use Rattle.events.specs.Listing.{Listing, end}
use Rattle.events.specs.Lay.{Laid, laid, put, room}
use Rattle.events.specs.Text.{text_at}
use Rattle.events.specs.Walked.{Done, Stopped}
use Rattle.sight.specs.declared.Sight.{Sight}
use Rattle.sight.specs.Sights.{sight_at}
use Rattle.paths.specs.Levels.{children}
use Rattle.walk.specs.declared.Level.{Level}

-- of what is seen, strings alone are text: 12 is their type code
unfoldable pub seen_text : List ℕ → Sight → Result ⊤ ℕ
seen_text d x = cond (eqb x.code 12) (text_at d x.part) (Ok _)

-- the container that a type code, bytes and a count show: the codes 0 to 3 are containers, below 2 objects, and odd ones are large
abbrev pub container_by : ℕ → ℕ → ℕ → ℕ → Option View
container_by c s l x = cond (ltb 3 c) None (Some (view s l x (kind (ltb c 2) (eqb (c % 2) 1))))

-- the container that is seen
unfoldable pub seen_container : Sight → Option View
seen_container x = container_by x.code x.part.start x.part.len x.extra

-- and the one that event n of a list shows
unfoldable pub listed_container : List ℕ → ℕ → Option View
listed_container out n = container_by (get_or out (wide * n) 0) (get_or out (wide * n + 5) 0) (get_or out (wide * n + 6) 0) (get_or out (wide * n + 7) 0)

abbrev pub container_in : Result Sight Refusal → Option View
container_in (Ok x) = seen_container x
container_in (Err r) = None

-- what is seen of an entry at a place, and the event that shows it
abbrev pub entry_sight : List ℕ → Level → ℕ → Result Sight Refusal
entry_sight d e p = sight_at d e.view.kind.large e.view.start e.view.size p

abbrev pub seen_event : Level → ℕ → Span → Sight → Event
seen_event e i key x =
    record { code = x.code; depth = e.depth; position = i; key = key; part = x.part; extra = x.extra; parent = e.parent }

-- what is laid of entry i at the place p, as event n: by its text, by what is seen of it, by its key's text, and by its key, whose entry stands at q
abbrev pub by_text : Level → ℕ → Span → ℕ → List ℕ → ℕ → Sight → Result ⊤ ℕ → Laid
by_text e i key p out n x (Ok u) = cond (ltb n (room out)) (laid (Done (n + 1)) (put out n (seen_event e i key x))) (laid (Stopped 12 p n) out)
by_text e i key p out n x (Err b) = laid (Stopped 9 b n) out

abbrev pub by_sight : List ℕ → Level → ℕ → Span → ℕ → List ℕ → ℕ → Result Sight Refusal → Laid
by_sight d e i key p out n (Ok x) = by_text e i key p out n x (seen_text d x)
by_sight d e i key p out n (Err r) = laid (Stopped (number_of r) p n) out

abbrev pub by_key_text : List ℕ → Level → ℕ → Span → ℕ → List ℕ → ℕ → Result ⊤ ℕ → Laid
by_key_text d e i key p out n (Ok u) = by_sight d e i key p out n (entry_sight d e p)
by_key_text d e i key p out n (Err b) = laid (Stopped 9 b n) out

abbrev pub by_key : List ℕ → Level → ℕ → ℕ → ℕ → List ℕ → ℕ → Result Span Refusal → Laid
by_key d e i q p out n (Ok key) = by_key_text d e i key p out n (text_at d key)
by_key d e i q p out n (Err r) = laid (Stopped (number_of r) q n) out

-- what is below a container that was listed, at event n, with so many levels left
abbrev pub below : ℕ → List ℕ → ℕ → Option View → Listing
below l d n (Some u) = children l d n (Container u)
below l d n None = end
