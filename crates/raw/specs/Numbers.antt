-- Little-endian numbers (json_binary.h of MySQL: all numbers are little-endian), at a place of a document and never past an end: a byte that is
-- not there counts as 0. Who needs to know that all bytes are there tests that first.
-- Assumes nothing.
use Rattle.std.specs.Prelude.{ℕ, zero, suc, ◌+◌, ◌*◌, ◌/◌, ◌%◌, List, [], ◌∷◌, take}
use Rattle.std.proofs.Math.Seq.{slice}

-- the number that bytes write, lowest first
unfoldable pub value : List ℕ → ℕ
value [] = 0
value (b ∷ bs) = b + 256 * value bs

-- w bytes that write a number, lowest first; what w bytes cannot hold is left out
unfoldable pub bytes_of : ℕ → ℕ → List ℕ
bytes_of zero n = []
bytes_of (suc w) n = n % 256 ∷ bytes_of w (n / 256)

-- the number of w bytes at a place, up to an end
unfoldable pub le : ℕ → List ℕ → ℕ → ℕ → ℕ
le w doc at end = value (take w (slice at end doc))
