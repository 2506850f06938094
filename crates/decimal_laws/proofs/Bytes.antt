-- Bytes there and back: flipping and inverting undo themselves, and the first bit tells the sign.
-- Assumes nothing.
use mathlib.Core.Path.{◌≡◌, refl, ap, ◌∙◌}
use mathlib.Core.Bool.{Bool, true, false}
use mathlib.Core.List.{List, [], ◌∷◌, ◌++◌, map, map-append}
use Prim.Native.Nat.{ℕ, zero, suc, ◌<◌}
use native.Mathlib.Nat.{not-suc-le-zero}
use native.Mathlib.Omega.{arith}
use lib.Dec.{ltb}
use lib.ListN.{length, get_or, take, length-map}
use Rattle.groups.specs.Numbers.{Below}
use Rattle.groups.specs.Layout.{form_of}
use Rattle.groups.specs.Packed.{flip, flip_first, invert, bytes_of, digits_in}
use Rattle.std.proofs.lemmas.Bool.Decides.{nat_tests}
use Rattle.groups.proofs.Marks.{flip-front, length-flip}
use Rattle.decimal.specs.Read.{negative}

-- ---- one byte
flip-flip : (b : ℕ) → b < 256 → flip (flip b) ≡ b
unfolding flip
flip-flip b h = grind (arith, nat_tests)

flip-lt : (b : ℕ) → b < 256 → flip b < 256
unfolding flip
flip-lt b h = grind (arith, nat_tests)

-- a first digit below 128 has its first bit set, plain, and clear, inverted
plain-sign : (b : ℕ) → b < 128 → ltb (flip b) 128 ≡ false
unfolding flip
plain-sign b h = grind (arith, nat_tests)

inverted-sign : (b : ℕ) → b < 128 → ltb (flip (invert b)) 128 ≡ true
unfolding flip
inverted-sign b h = grind (arith, nat_tests)

invert-invert : (b : ℕ) → b < 256 → invert (invert b) ≡ b
invert-invert b h = omega arith

-- ---- lists
flip-below : (bs : List ℕ) → Below 256 bs → Below 256 (flip_first bs)
unfolding flip_first
flip-below [] h k = h k
flip-below (b ∷ bs) h zero = flip-lt b (h 0)
flip-below (b ∷ bs) h (suc k) = h (suc k)

invert-below : (bs : List ℕ) → Below 256 bs → Below 256 (map invert bs)
invert-below [] h k = h k
invert-below (b ∷ bs) h zero = let l = h 0 in omega arith
invert-below (b ∷ bs) h (suc k) = invert-below bs (λ j. h (suc j)) k

pub digits-below : (neg : Bool) (bs : List ℕ) → Below 256 bs → Below 256 (digits_in (form_of neg) bs)
unfolding digits_in
digits-below false bs h = flip-below bs h
digits-below true bs h = invert-below (flip_first bs) (flip-below bs h)

flips : (bs : List ℕ) → Below 256 bs → (n : ℕ) → flip_first (take n (flip_first bs)) ≡ take n bs
unfolding flip_first
flips bs h zero = refl
flips [] h (suc n) = refl
flips (b ∷ bs) h (suc n) = rw (flip-flip b (h 0))

inverts : (bs : List ℕ) → Below 256 bs → (n : ℕ) → map invert (take n (map invert bs)) ≡ take n bs
inverts bs h zero = refl
inverts [] h (suc n) = refl
inverts (b ∷ bs) h (suc n) = rw (invert-invert b (h 0), inverts bs (λ j. h (suc j)) n)

-- reading, then writing the first n
pub read-bytes : (neg : Bool) (bs : List ℕ) → Below 256 bs → (n : ℕ) → bytes_of (form_of neg) (take n (digits_in (form_of neg) bs)) ≡ take n bs
unfolding bytes_of digits_in
read-bytes false bs h n = flips bs h n
read-bytes true bs h n = ap flip_first (inverts (flip_first bs) (flip-below bs h) n) ∙ flips bs h n

flip_twice : (bs : List ℕ) → Below 256 bs → flip_first (flip_first bs) ≡ bs
unfolding flip_first
flip_twice [] h = refl
flip_twice (b ∷ bs) h = rw (flip-flip b (h 0))

invert-twice : (bs : List ℕ) → Below 256 bs → map invert (map invert bs) ≡ bs
invert-twice [] h = refl
invert-twice (b ∷ bs) h = rw (invert-invert b (h 0), invert-twice bs (λ j. h (suc j)))

-- writing, then reading with anything after it
abbrev pub after : Bool → List ℕ → List ℕ
after true rest = map invert rest
after false rest = rest

pub write_bytes : (neg : Bool) (ds rest : List ℕ) → 0 < length ds → Below 256 ds → digits_in (form_of neg) (bytes_of (form_of neg) ds ++ rest) ≡ ds ++ after neg rest
unfolding bytes_of digits_in
write_bytes false ds rest l h =
    flip-front (flip_first ds) rest (rw (length-flip ds) l) ∙ ap (λ (x : List ℕ). x ++ rest) (flip_twice ds h)
write_bytes true ds rest l h =
    let m = map invert ds in
    let n : 0 < length (flip_first m) = rw (length-flip m, length-map ds invert) l in
    ap (map invert) (flip-front (flip_first m) rest n ∙ ap (λ (x : List ℕ). x ++ rest) (flip_twice m (invert-below ds h)))
    ∙ map-append invert m rest
    ∙ ap (λ (x : List ℕ). x ++ map invert rest) (invert-twice ds h)

-- the sign of what was written
pub write-sign : (neg : Bool) (ds rest : List ℕ) → 0 < length ds → get_or ds 0 0 < 128 → negative (bytes_of (form_of neg) ds ++ rest) ≡ neg
unfolding bytes_of flip_first negative
write-sign neg [] rest l h = absurd (not-suc-le-zero l)
write-sign false (d ∷ ds) rest l h = plain-sign d h
write-sign true (d ∷ ds) rest l h = inverted-sign d h
