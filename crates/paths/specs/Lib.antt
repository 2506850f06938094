-- What the walk promises, to be read in this order:
--     Judged            what is said of one path: its event, or its first fault with its number and its place
--     Paths             which paths there are and in which order: the lists of positions that lead from the root along `elem_at` of the crate jsonb
--     Shown             what a walk answers and leaves in the lent list; `Walks` is its whole promise
--     Levels            the same by levels; no promise rests on it
-- The order of faults at one path is document 01's: 11 (`said` of Paths), the key's 5, the key's 9, the value's, a string's 9 (`judged`), and last 12 (`cut` of
-- Shown); the first path in order decides. The place of a 9 is the byte at which the key or string breaks (document 02, W5); that of another fault is the
-- first byte of the key entry for a key's, and of the value entry for all others, and 0 at the root. Places count from the document's first byte.
-- What an event is stands in events/specs/Events: nine numbers, which are the type code (0 small object, 1 large object, 2 small array, 3 large array, else the
-- scalar's own), the depth, the position, the key's start and length (0 and 0 without a key), the value's start and length, a container's count, an
-- opaque value's column type or 0, and the index of the container's event (`parent_in` of Paths; document 02, W6), 0 for the root. A string or an opaque value
-- shows its bytes without the length field; a literal one byte, numbers 2, 4 or 8; a container its header's first byte and its size; the empty document, a null
-- without bytes, 4 and eight zeros. Which parts are text and where others break: events/specs/Text, by RFC 3629. How many events a lent list has room
-- for: events/specs/Lay, `room`, its length divided by nine, rounded down, at most 4,294,967,295.
-- What the root and an element are, or are refused with: jsonb/specs/Views (`root_read`: 1, then 2; `elem_at` and `key_at`), entry/specs/Entries (an entry's 2, then 6; a
-- key's 5), content/specs/Reading (containers 3, 4; literals 3, 7; numbers 3; strings 3, 8, 3; opaque values 3, 10, and then their length field's). `Said` is what
-- one of these answers: a thing, nothing, or a refusal by its number.
-- The theorem that says the same without an order of computing is `WalkTheorem` of walk_laws/specs/Promise.
-- Assumes nothing.
pub mod Judged
pub mod Paths
pub mod Shown
pub mod Levels
