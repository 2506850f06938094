-- The entries of a container (json_binary.h of MySQL; document 01, 'Container rules'), by its view and a position below its count.
-- Assumes nothing.
use Rattle.std.specs.Prelude.{ℕ, ◌+◌, Bool, true, false, cond, List, ltb, get_or, Result, Ok, Err}
use Rattle.raw.specs.Numbers.{le}
use Rattle.codes.specs.Types.{type_of}
use Rattle.codes.specs.declared.types.JsonbType.{JsonbType}
use Rattle.codes.specs.declared.types.JsonbType.TheVariants as type
use Rattle.refusal.specs.declared.Refusal.{Refusal}
use Rattle.refusal.specs.declared.Refusal.TheVariants as refusal
use Rattle.layout.specs.Layout.{offset_size, key_entry, key_place, value_place, header_size, offset_at}
use Rattle.value.specs.declared.View.{View}
use Rattle.content.specs.Reading.{span, read_at}
use Rattle.value.specs.declared.Span.{Span}
use Rattle.value.specs.declared.Value.{Value}
use Rattle.header.specs.Headers.{placed, then}

abbrev pub end_of : View → ℕ
end_of v = v.start + v.size

-- ---- elements: a type 2, then the pointer 6, then the content. Literals, Int16 and UInt16 always stand in the entry, Int32 and UInt32 in large
-- containers alone; other values stand at their offset, which is at least the end of their own entry and at most the size
abbrev pub is_inlined : JsonbType → Bool → Bool
is_inlined type.SmallObject large = false
is_inlined type.LargeObject large = false
is_inlined type.SmallArray large = false
is_inlined type.LargeArray large = false
is_inlined type.Literal large = true
is_inlined type.Int16 large = true
is_inlined type.Uint16 large = true
is_inlined type.Int32 large = large
is_inlined type.Uint32 large = large
is_inlined type.Int64 large = false
is_inlined type.Uint64 large = false
is_inlined type.Double large = false
is_inlined type.String large = false
is_inlined type.Opaque large = false

-- where value entry i of a view stands, from the document's first byte
abbrev pub place_at : View → ℕ → ℕ
place_at v i = v.start + value_place v.kind v.count i

-- the value at the offset that stands past an entry's type byte
unfoldable pub pointed_at : List ℕ → View → JsonbType → ℕ → Result Value Refusal
pointed_at d v t body =
    cond (ltb (v.start + offset_at d v.kind body (end_of v)) (body + offset_size v.kind)) (Err refusal.Pointer)
    (cond (ltb (end_of v) (v.start + offset_at d v.kind body (end_of v))) (Err refusal.Pointer)
    (read_at d t (v.start + offset_at d v.kind body (end_of v)) (end_of v)))

unfoldable pub typed_entry : List ℕ → View → JsonbType → ℕ → Result Value Refusal
typed_entry d v t body = cond (is_inlined t v.kind.large) (read_at d t body (body + offset_size v.kind)) (pointed_at d v t body)

abbrev pub entry_of : List ℕ → View → Result JsonbType Refusal → ℕ → Result Value Refusal
entry_of d v t body = then t (λ x. typed_entry d v x body)

unfoldable pub entry_at : List ℕ → View → ℕ → Result Value Refusal
entry_at d v i = entry_of d v (type_of (get_or d (place_at v i) 0)) (place_at v i + 1)

-- ---- keys: the offset is at least the header's end, and offset plus length at most the size, else 5
abbrev pub key_offset : List ℕ → View → ℕ → ℕ
key_offset d v place = offset_at d v.kind place (end_of v)

abbrev pub key_length : List ℕ → View → ℕ → ℕ
key_length d v place = le 2 d (place + offset_size v.kind) (end_of v)

unfoldable pub key_of : List ℕ → View → ℕ → Result Span Refusal
key_of d v place =
    cond (ltb (key_offset d v place) (header_size v.kind v.count)) (Err refusal.Key)
    (cond (ltb v.size (key_offset d v place + key_length d v place)) (Err refusal.Key)
    (Ok (span (v.start + key_offset d v place) (key_length d v place))))

-- where key entry i of a view stands
abbrev pub key_place_at : View → ℕ → ℕ
key_place_at v i = v.start + key_place v.kind i

unfoldable pub key_entry_at : List ℕ → View → ℕ → Result Span Refusal
key_entry_at d v i = key_of d v (key_place_at v i)

-- ---- of any view: 1 for a document that is too long, 3 where the view reaches past the document or the entry past the view. An entry of a whole
-- container has neither
abbrev pub value_end : View → ℕ → ℕ
value_end v i = place_at v i + 1 + offset_size v.kind

abbrev pub key_end : View → ℕ → ℕ
key_end v i = key_place_at v i + key_entry v.kind

unfoldable pub entry_read : List ℕ → View → ℕ → Result Value Refusal
entry_read d v i = placed d (value_end v i) (end_of v) (entry_at d v i)

unfoldable pub key_read : List ℕ → View → ℕ → Result Span Refusal
key_read d v i = placed d (key_end v i) (end_of v) (key_entry_at d v i)

-- ---- where the value of entry i starts: in the entry past its type byte, or at its offset
unfoldable pub start_of : List ℕ → View → ℕ → JsonbType → ℕ
start_of d v i t = cond (is_inlined t v.kind.large) (place_at v i + 1) (v.start + offset_at d v.kind (place_at v i + 1) (end_of v))

-- and where it is read up to: the entry's end, or the container's
unfoldable pub end_for : View → ℕ → JsonbType → ℕ
end_for v i t = cond (is_inlined t v.kind.large) (value_end v i) (end_of v)

abbrev pub typed_start : List ℕ → View → ℕ → Result JsonbType Refusal → ℕ
typed_start d v i (Ok t) = start_of d v i t
typed_start d v i (Err r) = 0

unfoldable pub value_start : List ℕ → View → ℕ → ℕ
value_start d v i = typed_start d v i (type_of (get_or d (place_at v i) 0))
