-- When reading groups succeeds and what it then gives; in particular digits below 10 are always read.
-- Assumes nothing.
use mathlib.Core.Path.{◌≡◌, refl}
use mathlib.Core.Bool.{Bool, true, false, cond}
use mathlib.Core.List.{List, [], ◌∷◌}
use Prim.Native.Nat.{ℕ, zero, suc, ◌+◌, ◌-◌, ◌^◌, ◌≤◌, ◌<◌}
use native.Mathlib.Nat.{pow-zero, pow-succ'}
use native.Mathlib.Omega.{arith}
use lib.Dec.{lit<}
use lib.Arith.{digits_lt}
use lib.ListN.{length, take, drop, length-drop}
use lib.Seq.{get_or-drop, length-take-le}
use borrow.Author.Tests.{lt-ltb, le-leb, leb-true}
use Rattle.std.specs.Prelude.{Ok, Err}
use Rattle.refusal.specs.declared.Refusal.{Refusal}
use Rattle.refusal.specs.Told.{answer}
use Rattle.groups.specs.Numbers.{number, tab, all, Below}
use Rattle.groups.specs.Layout.{digits_at, offset, size_in, size, Form, Digits}
use Rattle.groups.specs.Packed.{digits_in}
use Rattle.groups.specs.Read.{in_range, group_at, range_at, stored_at, groups_in, read_groups}
use Rattle.groups.specs.Write.{size_of, well_groups}
use Rattle.groups.proofs.Accept.{well-digits}
use Rattle.groups.proofs.Places.{within}

-- ---- the three tests
three : (a b c : Bool) (gs hs : List ℕ) (x y z : Refusal) → cond a (cond b (cond c (Ok gs) (Err x)) (Err y)) (Err z) ≡ Ok hs
    → (a ≡ true) × ((b ≡ true) × ((c ≡ true) × (hs ≡ gs)))
three true true true gs hs x y z e = (refl, (refl, (refl, cc)))
three true true false gs hs x y z e = absurd (cc)
three true false c gs hs x y z e = absurd (cc)
three false b c gs hs x y z e = absurd (cc)

pub opened : (F : Form) (bs : List ℕ) (p s : ℕ) (gs : List ℕ) → read_groups F bs p s ≡ Ok gs
    → (in_range p s ≡ true) × ((size_in F (p - s) s ≤ length bs) × ((all 9 (range_at F (p - s) s (digits_in F bs)) ≡ true) × (gs ≡ tab 9 (stored_at F (p - s) s (digits_in F bs)))))
unfolding read_groups groups_in
opened F bs p s gs e = let t = three _ _ _ _ _ _ _ _ e in (t.0, (leb-true _ _ t.1.0, t.1.1))

pub reads : (F : Form) (bs : List ℕ) (p s : ℕ) → in_range p s ≡ true → size_in F (p - s) s ≤ length bs → all 9 (range_at F (p - s) s (digits_in F bs)) ≡ true
    → read_groups F bs p s ≡ Ok (tab 9 (stored_at F (p - s) s (digits_in F bs)))
unfolding read_groups groups_in
reads F bs p s r l a = simp (r, le-leb _ _ l, a)

-- ---- an accepted precision and scale, and a decimal's
pub range-of : (i f : ℕ) → f ≤ 30 → i + f ≤ 65 → in_range (i + f) f ≡ true
unfolding in_range
range-of i f hf h = simp (le-leb (i + f) 65 h, le-leb f 30 hf, le-leb f (i + f) (omega arith))

integral : (i f : ℕ) → i + f - f ≡ i
integral i f = omega arith

pub well-size : (i f : ℕ) (gs : List ℕ) → well_groups i f gs ≡ true → size_of (i + f) f ≡ answer (size i f ∷ [])
unfolding size_of
well-size i f gs w = let h = well-digits i f gs w in simp (range-of i f h.1.1 h.1.0, integral i f)

-- ---- digits below the base
pub number_lt : (b : ℕ) (xs : List ℕ) → Below b xs → number b xs < b ^ length xs
unfolding number
number_lt b [] h = rw pow-zero (lit< tt)
number_lt b (x ∷ xs) h = rw pow-succ' (digits_lt (h 0) (number_lt b xs (λ k. h (suc k))))

pub below-take : (b n : ℕ) (xs : List ℕ) → Below b xs → Below b (take n xs)
below-take b zero xs h k = let l = h k in omega arith
below-take b (suc n) [] h k = h k
below-take b (suc n) (x ∷ xs) h zero = h 0
below-take b (suc n) (x ∷ xs) h (suc k) = below-take b n xs (λ j. h (suc j)) k

pub below-drop : (b n : ℕ) (xs : List ℕ) → Below b xs → Below b (drop n xs)
below-drop b n xs h k = rw get_or-drop (h (n + k))

-- digits below 10 are in range at every place
pub digits-range : (i f : ℕ) (ds : List ℕ) → Below 10 ds → size_in Digits i f ≤ length ds → (k : ℕ) → k < 9 → range_at Digits i f ds k ≡ true
unfolding range_at group_at
digits-range i f ds h l k m =
    let d = digits_at i f k in
    let o = offset Digits i f k in
    let w = within Digits i f k m in
    let e : length (take d (drop o ds)) ≡ d = length-take-le d (drop o ds) (simp length-drop (omega arith)) in
    lt-ltb _ _ (rw e at (number_lt 10 (take d (drop o ds)) (below-take 10 d (drop o ds) (below-drop 10 o ds h))))
