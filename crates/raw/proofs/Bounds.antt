-- What a caller may rely on: where a number's bytes are, and how large it is.
-- Assumes nothing.
use mathlib.Core.Path.{◌≡◌, refl, sym, ap, ◌∙◌}
use mathlib.Core.List.{List, [], ◌∷◌}
use Prim.Native.Nat.{ℕ, zero, suc, ◌+◌, ◌*◌, ◌-◌, ◌^◌, ◌≤◌, ◌<◌, min}
use native.Mathlib.Nat.{min-le_left, min-le_right}
use native.Mathlib.Omega.{arith}
use lib.ListN.{length, take, drop, length-take}
use lib.Seq.{slice, take-take}
use Rattle.std.proofs.lemmas.List.{take_all}
use Rattle.raw.specs.Numbers.{value, le}
use Rattle.raw.proofs.Parts.{slice-bytes, slice-length}
use Rattle.raw.proofs.Values.{value-split, Bytes, bytes_take, value-below}

-- v + w bytes are v, and w above them
pub le_split : (v w : ℕ) (doc : List ℕ) (at end : ℕ) → le (v + w) doc at end ≡ le v doc at end + 256 ^ v * le w doc (at + v) end
unfolding le
le_split v w doc at end = value-split v w at (take end doc)

pub le_below : (w : ℕ) (doc : List ℕ) (at end : ℕ) → Bytes doc → le w doc at end < 256 ^ w
unfolding le
le_below w doc at end p =
    let s = slice at end doc in
    value-below w (take w s) (bytes_take w s (slice-bytes doc at end p)) (rw length-take (min-le_left w (length s)))

pub take-slice : (w at end : ℕ) (doc : List ℕ) → at + w ≤ end → take w (slice at end doc) ≡ take w (drop at doc)
take-slice w zero end doc h = take-take w end doc (omega arith)
take-slice w (suc at) zero doc h = absurd (omega arith)
take-slice w (suc at) (suc end) [] h = refl
take-slice w (suc at) (suc end) (x ∷ doc) h = take-slice w at end doc (omega arith)

-- w bytes before the end are those of the document
pub le-inside : (w : ℕ) (doc : List ℕ) (at end : ℕ) → at + w ≤ end → le w doc at end ≡ value (take w (drop at doc))
unfolding le
le-inside w doc at end h = ap value (take-slice w at end doc h)

-- where fewer are left than w bytes, the number is of those
pub le-part : (w n : ℕ) (doc : List ℕ) (at end : ℕ) → n ≡ min end (length doc) - at → n ≤ w → le w doc at end ≡ value (take n (drop at doc))
unfolding le
le-part w zero doc at end e h =
    let s = slice at end doc in
    let l : length s ≡ 0 = slice-length doc at end ∙ sym e in
    ap value (take_all w s (omega arith) ∙ sym (take_all 0 s (omega arith)))
le-part w (suc n) doc at end e h =
    let s = slice at end doc in
    let l : length s ≡ suc n = slice-length doc at end ∙ sym e in
    ap value (take_all w s (omega arith) ∙ sym (take_all (suc n) s (omega arith)) ∙ take-slice (suc n) at end doc (omega arith))

-- who hands over no more than eight bytes has all of them read
pub first_eight : (w : ℕ) (l : List ℕ) → w ≤ 8 → take 8 (take w l) ≡ take w l
first_eight w l h = take_all 8 (take w l) (rw length-take (omega (arith, min-le_left w (length l))))

-- a part holds no more than its length can, nor do its first eight bytes
pub part_below : (l : List ℕ) → Bytes l → value (take 8 l) < 256 ^ length l
part_below l p = value-below (length l) (take 8 l) (bytes_take 8 l p) (rw length-take (min-le_right 8 (length l)))

-- what stands at the end or past it does not count
pub le_same : (w : ℕ) (a b : List ℕ) (at end : ℕ) → take end a ≡ take end b → le w a at end ≡ le w b at end
unfolding le
le_same w a b at end e = ap (λ (l : List ℕ). value (take w (drop at l))) e
