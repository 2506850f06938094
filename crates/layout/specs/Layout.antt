-- A container's layout (json_binary.h of MySQL; document 01, 'Container rules'), over its kind: an object or an array, with offsets of four bytes or
-- of two. The header is the count and the size, an offset each; then for objects a key entry for each member, an offset and two bytes of length;
-- then the value entries, a type byte and an offset or a value. Places count from the header's first byte.
-- Assumes nothing.
use Rattle.std.specs.Prelude.{ℕ, ◌+◌, ◌*◌, cond, List}
use Rattle.raw.specs.Numbers.{le}
use Rattle.layout.specs.declared.Kind.{Kind}

unfoldable pub offset_size : Kind → ℕ
offset_size k = cond k.large 4 2

-- the bytes of a key entry; arrays have none
unfoldable pub key_entry : Kind → ℕ
key_entry k = cond k.object (offset_size k + 2) 0

-- where key entry i stands
unfoldable pub key_place : Kind → ℕ → ℕ
key_place k i = 2 * offset_size k + i * key_entry k

-- where value entry i of n stands
unfoldable pub value_place : Kind → ℕ → ℕ → ℕ
value_place k n i = 2 * offset_size k + n * key_entry k + i * (offset_size k + 1)

-- the header of n entries ends where one more value entry would stand
unfoldable pub header_size : Kind → ℕ → ℕ
header_size k n = value_place k n n

-- an offset, a count or a size at a place of the document, up to an end
unfoldable pub offset_at : List ℕ → Kind → ℕ → ℕ → ℕ
offset_at d k i e = cond k.large (le 4 d i e) (le 2 d i e)
