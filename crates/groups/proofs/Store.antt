-- The laws of writing: how many bytes there are, and how large; what is written after a front.
-- Assumes nothing.
use mathlib.Core.Path.{◌≡◌, refl, ◌∙◌}
use mathlib.Core.List.{List, ◌++◌, append_assoc}
use Prim.Native.Nat.{ℕ, zero, suc, ◌+◌, ◌<◌}
use lib.ListN.{length, take, drop, length-append}
use lib.Seq.{take_at, drop_at, drop-drop}
use Rattle.groups.specs.Layout.{base_of, offset, size_in, Form, Plain, Inverted, Digits}
use lib.Dec.{lit<}
use Rattle.groups.specs.Numbers.{Below}
use Rattle.groups.specs.Write.{digits_to, group_digits, written}
use Rattle.groups.proofs.Radix.{length_digits, below-append, digits-below}
use Rattle.groups.proofs.Marks.{length-of}

pub length_to : (F : Form) (i f : ℕ) (gs : List ℕ) (k : ℕ) → length (digits_to F i f gs k) ≡ offset F i f k
unfolding digits_to offset group_digits
length_to F i f gs zero = refl
length_to F i f gs (suc k) = length-append (digits_to F i f gs k) _ ∙ rw (length_to F i f gs k, length_digits)

-- what is written after a front that is written already
pub join : (A B out : List ℕ) (at w : ℕ) → length A ≡ at
    → take at (A ++ drop at out) ++ (B ++ drop (at + w) (A ++ drop at out)) ≡ (A ++ B) ++ drop (at + w) out
join A B out at w e =
    rw (take_at A (drop at out) at e, ← drop-drop w at (A ++ drop at out), drop_at A (drop at out) at e, drop-drop w at out, append_assoc)

-- the bytes of all groups are as many as their size
pub length-written : (F : Form) (i f : ℕ) (gs : List ℕ) → length (written F i f gs) ≡ size_in F i f
unfolding written
length-written F i f gs = length-of F (digits_to F i f gs 9) ∙ length_to F i f gs 9

-- the digits of all groups are below the base
pub base-pos : (F : Form) → 0 < base_of F
base-pos Plain = lit< tt
base-pos Inverted = lit< tt
base-pos Digits = lit< tt

pub to_below : (F : Form) (i f : ℕ) (gs : List ℕ) (k : ℕ) → Below (base_of F) (digits_to F i f gs k)
unfolding digits_to group_digits
to_below F i f gs zero = λ k. base-pos F
to_below F i f gs (suc k) = below-append (base_of F) (digits_to F i f gs k) _ (to_below F i f gs k) (digits-below (base_of F) _ _ (base-pos F))
