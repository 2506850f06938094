-- Document 01's examples of the length field, computed.
-- Assumes nothing.
use mathlib.Core.Path.{◌≡◌, refl}
use mathlib.Core.List.{[], ◌∷◌}
use Rattle.std.specs.Prelude.{Ok, Err}
use Rattle.refusal.specs.declared.Refusal.TheVariants as refusal
use Rattle.length_field.specs.Length.{groups, length_at}

five-bytes : length_at (0x80 ∷ 0x80 ∷ 0x80 ∷ 0x80 ∷ 0x0F ∷ []) 0 5 ≡ Ok (record { length = 4026531840; next = 5 })
unfolding length_at groups
five-bytes = refl

too_large : length_at (0x80 ∷ 0x80 ∷ 0x80 ∷ 0x80 ∷ 0x10 ∷ []) 0 5 ≡ Err refusal.Length
unfolding length_at groups
too_large = refl

largest : length_at (0xFF ∷ 0xFF ∷ 0xFF ∷ 0xFF ∷ 0x0F ∷ []) 0 5 ≡ Ok (record { length = 4294967295; next = 5 })
unfolding length_at groups
largest = refl

six-bytes : length_at (0x80 ∷ 0x80 ∷ 0x80 ∷ 0x80 ∷ 0x80 ∷ 0x01 ∷ []) 0 6 ≡ Err refusal.Length
unfolding length_at groups
six-bytes = refl

cut : length_at (0x80 ∷ 0x80 ∷ 0x80 ∷ 0x80 ∷ []) 0 4 ≡ Err refusal.Cut
unfolding length_at groups
cut = refl

-- the fifth byte stands at the end
cut-by-end : length_at (0x80 ∷ 0x80 ∷ 0x80 ∷ 0x80 ∷ 0x0F ∷ []) 0 4 ≡ Err refusal.Cut
unfolding length_at groups
cut-by-end = refl

past_all : length_at (0x01 ∷ []) 7 9 ≡ Err refusal.Cut
unfolding length_at groups
past_all = refl

needless : length_at (0x81 ∷ 0x00 ∷ []) 0 2 ≡ Ok (record { length = 1; next = 2 })
unfolding length_at groups
needless = refl

needless-zero : length_at (0x07 ∷ 0x80 ∷ 0x80 ∷ 0x80 ∷ 0x80 ∷ 0x00 ∷ []) 1 6 ≡ Ok (record { length = 0; next = 6 })
unfolding length_at groups
needless-zero = refl
