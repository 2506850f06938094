-- The laws of the bytes of a form: how many they are, and how the first is flipped.
-- Assumes nothing.
use mathlib.Core.Path.{◌≡◌, refl, ◌∙◌}
use mathlib.Core.List.{List, [], ◌∷◌, ◌++◌, map}
use Prim.Native.Nat.{ℕ, ◌<◌}
use native.Mathlib.Nat.{not-suc-le-zero}
use lib.ListN.{length, get_or, set, length-map}
use Rattle.groups.specs.Packed.{flip, flip_first, invert, bytes_of, digits_in}
use Rattle.groups.specs.Layout.{Form, Plain, Inverted, Digits}

pub length-flip : (bs : List ℕ) → length (flip_first bs) ≡ length bs
unfolding flip_first
length-flip [] = refl
length-flip (b ∷ bs) = refl

pub length-in : (F : Form) (bs : List ℕ) → length (digits_in F bs) ≡ length bs
unfolding digits_in
length-in Plain bs = length-flip bs
length-in Inverted bs = length-map (flip_first bs) invert ∙ length-flip bs
length-in Digits bs = refl

pub length-of : (F : Form) (ds : List ℕ) → length (bytes_of F ds) ≡ length ds
unfolding bytes_of
length-of Plain ds = length-flip ds
length-of Inverted ds = length-flip (map invert ds) ∙ length-map ds invert
length-of Digits ds = refl

-- ---- a front
pub flip-front : (M rest : List ℕ) → 0 < length M → flip_first (M ++ rest) ≡ flip_first M ++ rest
unfolding flip_first
flip-front [] rest h = absurd (not-suc-le-zero h)
flip-front (m ∷ M) rest h = refl

pub flip-set : (bs : List ℕ) → 0 < length bs → set bs 0 (flip (get_or bs 0 0)) ≡ flip_first bs
unfolding flip_first
flip-set [] h = absurd (not-suc-le-zero h)
flip-set (b ∷ bs) h = refl
