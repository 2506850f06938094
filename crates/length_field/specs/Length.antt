-- The length field (json_binary.h of MySQL; document 01, 'Container rules'): 1 to 5 bytes, seven bits each, lowest first, the top bit set when more
-- follow. Needless groups are accepted. It is 3 where the bytes end early, and 8 where the fifth byte continues or the length is above 4,294,967,295.
-- Assumes nothing.
use Rattle.std.specs.Prelude.{ℕ, zero, suc, ◌+◌, ◌-◌, ◌*◌, cond, List, [], ◌∷◌, ltb, Result, Ok, Err}
use Rattle.std.proofs.Math.Seq.{slice}
use Rattle.refusal.specs.Told.{Told, told_by}
use Rattle.refusal.specs.declared.Refusal.{Refusal}
use Rattle.refusal.specs.declared.Refusal.TheVariants as refusal
use Rattle.length_field.specs.declared.Length.{Length}

-- an answer in numbers: the length, and the place past the field
abbrev pub told : Result Length Refusal → Told
told r = told_by (λ (l : Length). l.length ∷ l.next ∷ []) r

-- a number and its count of bytes; the bytes end early; the last byte that may stand there continues
pub data Groups : Type 0 where
  got : ℕ → ℕ → Groups
  short : Groups
  long : Groups

abbrev pub above : ℕ → Groups → Groups
above low (got v k) = got (low + 128 * v) (k + 1)
above low short = short
above low long = long

-- groups of seven bits, n at most
unfoldable pub groups : ℕ → List ℕ → Groups
groups zero bs = long
groups (suc n) [] = short
groups (suc n) (b ∷ bs) = cond (ltb b 128) (got b 1) (above (b - 128) (groups n bs))

abbrev pub field_of : ℕ → Groups → Result Length Refusal
field_of at (got v k) = cond (ltb v 4294967296) (Ok (record { length = v; next = at + k })) (Err refusal.Length)
field_of at short = Err refusal.Cut
field_of at long = Err refusal.Length

-- the length field at a place, up to an end
unfoldable pub length_at : List ℕ → ℕ → ℕ → Result Length Refusal
length_at doc at end = field_of at (groups 5 (slice at end doc))
