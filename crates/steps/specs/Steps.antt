-- The iterations (document 01): each step gives the item and the place that follows, a faulty item included; at nothing, 1 and 13 the place stays as
-- it was. For a member the key's fault comes before the value's.
-- Assumes nothing.
use Rattle.std.specs.Prelude.{ℕ, ◌+◌, Bool, true, false, cond, not, List, ltb, leb, length}
use Rattle.value.specs.declared.View.{View}
use Rattle.value.specs.declared.Span.{Span}
use Rattle.value.specs.declared.Value.{Value}
use Rattle.entry.specs.Entries.{entry_at, key_entry_at}
use Rattle.gate.specs.Said.{Said, says, nothing, refuses, read_said}
use Rattle.gate.specs.Before.{matches, gated}
use Rattle.steps.specs.declared.Member.{Member}

-- whether there is an item at a place: not where the gate refuses or gives nothing
unfoldable pub is_open : List ℕ → View → Bool → ℕ → Bool
is_open d v asked i =
    cond (ltb 16777216 (length d)) false (cond asked (cond (matches d v) (cond (leb v.count i) false true) false) false)

-- the place after a step
abbrev pub after : Bool → ℕ → ℕ
after more at = cond more (at + 1) at

-- a member: its key and its value
abbrev pub member : Span → Value → Member
member s x = record { key = s; value = x }

abbrev pub with_value : Span → Said Value → Said Member
with_value s (says x) = says (member s x)
with_value s nothing = nothing
with_value s (refuses n) = refuses n

abbrev pub member_of : Said Span → Said Value → Said Member
member_of (says s) x = with_value s x
member_of nothing x = nothing
member_of (refuses n) x = refuses n

unfoldable pub element_item : List ℕ → View → ℕ → Said Value
element_item d v i = gated d v (not v.kind.object) i (read_said (entry_at d v i))

unfoldable pub key_item : List ℕ → View → ℕ → Said Span
key_item d v i = gated d v v.kind.object i (read_said (key_entry_at d v i))

unfoldable pub member_item : List ℕ → View → ℕ → Said Member
member_item d v i = gated d v v.kind.object i (member_of (read_said (key_entry_at d v i)) (read_said (entry_at d v i)))
