-- What an event shows of a value (document 01, 'The walk'), and of the value in an entry of a container, by its bounds and the entry's place.
-- Assumes nothing.
use Rattle.std.specs.Prelude.{ℕ, ◌+◌, Bool, false, cond, List, get_or, Result, Ok, Err}
use Rattle.refusal.specs.declared.Refusal.{Refusal}
use Rattle.codes.specs.Types.{type_of}
use Rattle.codes.specs.declared.types.JsonbType.{JsonbType}
use Rattle.layout.specs.Layout.{offset_size, offset_at}
use Rattle.value.specs.declared.Span.{Span}
use Rattle.value.specs.declared.View.{View}
use Rattle.value.specs.declared.Value.{Value}
use Rattle.content.specs.Reading.{kind, view}
use Rattle.header.specs.Headers.{placed, then}
use Rattle.entry.specs.Entries.{end_of, is_inlined, entry_of}
use Rattle.events.specs.Events.{code_of, part_of, extra_of}
use Rattle.sight.specs.declared.Sight.{Sight}

abbrev pub sight : ℕ → Span → ℕ → Sight
sight c p x = record { code = c; part = p; extra = x }

-- of what was read: the event's type code, its bytes, and its count or column type; `from` is where the value starts
abbrev pub sight_of : Result Value Refusal → ℕ → Result Sight Refusal
sight_of r from = then r (λ x. Ok (sight (code_of x) (part_of x from) (extra_of x)))

-- a container by its bounds: an entry whose place is known is read by nothing else of a view
abbrev pub bounds : Bool → ℕ → ℕ → View
bounds large start size = view start size 0 (kind false large)

-- where a value starts whose entry has its body there: in the entry, or at its offset
unfoldable pub start_by : List ℕ → View → ℕ → JsonbType → ℕ
start_by d v body t = cond (is_inlined t v.kind.large) body (v.start + offset_at d v.kind body (end_of v))

abbrev pub typed_start_by : List ℕ → View → ℕ → Result JsonbType Refusal → ℕ
typed_start_by d v body (Ok t) = start_by d v body t
typed_start_by d v body (Err r) = 0

-- what the value entry at a place shows: 1 for a document that is too long, 3 where it has no such container, or the entry does not end within it
unfoldable pub sight_at : List ℕ → Bool → ℕ → ℕ → ℕ → Result Sight Refusal
sight_at d large start size p =
    placed d (p + 1 + offset_size (kind false large)) (start + size)
    (sight_of (entry_of d (bounds large start size) (type_of (get_or d p 0)) (p + 1)) (typed_start_by d (bounds large start size) (p + 1) (type_of (get_or d p 0))))
