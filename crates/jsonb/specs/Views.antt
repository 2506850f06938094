-- What a document and its views give (json_binary.h of MySQL; document 01, 'Container rules'): the root, elements and keys by position, and
-- the count. What comes before any entry is looked at is `gated`.
-- Assumes nothing.
use Rattle.std.specs.Prelude.{ℕ, true, cond, List, ltb, eqb, length, get_or, Result, Err}
use Rattle.codes.specs.Types.{type_of}
use Rattle.codes.specs.declared.types.JsonbType.TheVariants as type
use Rattle.codes.specs.declared.types.JsonbType.{JsonbType}
use Rattle.refusal.specs.declared.Refusal.{Refusal}
use Rattle.refusal.specs.declared.Refusal.TheVariants as refusal
use Rattle.header.specs.Headers.{then}
use Rattle.content.specs.Reading.{scalar_of, read_at}
use Rattle.value.specs.declared.View.{View}
use Rattle.value.specs.declared.Span.{Span}
use Rattle.value.specs.declared.Value.{Value}
use Rattle.value.specs.declared.Scalar.TheVariants as scalar
use Rattle.entry.specs.Entries.{entry_at, key_entry_at}
use Rattle.gate.specs.Said.{Said, says, refuses, read_said}
use Rattle.gate.specs.Before.{matches, gated}

-- ---- the root: 1, then the empty document is null, then the type, then its value; bytes after it are not read
abbrev pub typed_at : List ℕ → Result JsonbType Refusal → ℕ → ℕ → Result Value Refusal
typed_at d t i e = then t (λ x. read_at d x i e)

unfoldable pub root_read : List ℕ → Result Value Refusal
root_read d =
    cond (ltb 16777216 (length d)) (Err refusal.Document)
    (cond (eqb (length d) 0) (scalar_of type.Literal scalar.Null) (typed_at d (type_of (get_or d 0 0)) 1 (length d)))

-- ---- elements and members' values, by position
unfoldable pub elem_at : List ℕ → View → ℕ → Said Value
elem_at d v i = gated d v true i (read_said (entry_at d v i))

-- ---- keys, of objects alone
unfoldable pub key_at : List ℕ → View → ℕ → Said Span
key_at d v i = gated d v v.kind.object i (read_said (key_entry_at d v i))

-- ---- the count asks no position
unfoldable pub count_at : List ℕ → View → Said ℕ
count_at d v = cond (ltb 16777216 (length d)) (refuses 1) (cond (matches d v) (says v.count) (refuses 13))
