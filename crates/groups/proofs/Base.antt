-- The groups of a decimal are below the base, and past the ninth a group reads as 0.
-- Assumes nothing.
use mathlib.Core.Path.{◌≡◌, refl}
use mathlib.Core.Bool.{Bool, true, false}
use mathlib.Core.List.{List}
use Prim.Native.Nat.{ℕ, ◌/◌, ◌%◌, ◌^◌, ◌≤◌, ◌<◌}
use native.Mathlib.Nat.{div-add-mod'}
use native.Mathlib.Omega.{arith}
use lib.Dec.{eqb, ltb, lit<}
use lib.ListN.{length, get_or, get_or-eq_default}
use borrow.Author.Tests.{ltb-true, ltb-false, eqb-true}
use Rattle.groups.specs.Numbers.{all, Below}
use Rattle.groups.specs.Layout.{digits_at}
use Rattle.groups.specs.Read.{unit_of}
use Rattle.groups.specs.Write.{digits_ok, well_at, well_groups}
use Rattle.groups.proofs.Accept.{both_true}
use Rattle.groups.proofs.Tab.{all-each}
use Rattle.groups.proofs.Places.{stored-lt, digits_le}

pub well-below : (i f : ℕ) (gs : List ℕ) → length gs ≡ 9 → well_groups i f gs ≡ true → Below 1000000000 gs
unfolding well_groups well_at
well-below i f gs e h k = go (ltb k 9) refl
  where
    u : ℕ
    u = unit_of i k (digits_at i f k)

    g : ℕ
    g = get_or gs k 0

    go : (t : Bool) → ltb k 9 ≡ t → get_or gs k 0 < 1000000000
    go true q =
        let a = both_true (digits_ok i f) (all 9 (λ j. well_at i f j (get_or gs j 0))) h in
        let w = all-each (λ j. well_at i f j (get_or gs j 0)) 9 a.1 k (ltb-true k 9 q) in
        let b = both_true (eqb (g % u) 0) (ltb (g / u) (10 ^ digits_at i f k)) w in
        let z = eqb-true (g % u) 0 b.0 in
        let m = stored-lt i k (digits_at i f k) (g / u) (digits_le i f k) (ltb-true _ _ b.1) in
        let r = div-add-mod' g u in
        omega arith
    go false q =
        let l : length gs ≤ k = rw e (ltb-false k 9 q) in
        rw (get_or-eq_default gs 0 l) (lit< tt)
