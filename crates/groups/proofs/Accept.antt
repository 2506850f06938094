-- What the tests of a precision and a scale, and of a record's digits, tell; each is read off the definition once.
-- Assumes nothing.
use mathlib.Core.Path.{◌≡◌, refl, sym, subst}
use mathlib.Core.Bool.{Bool, true, false}
use mathlib.Core.List.{List}
use Prim.Native.Nat.{ℕ, ◌+◌, ◌≤◌}
use lib.Dec.{T, leb}
use borrow.Author.Tests.{leb-true}
use Rattle.groups.specs.Numbers.{both}
use Rattle.groups.specs.Read.{in_range}
use Rattle.groups.specs.Write.{digits_ok, well_groups}

pub both_true : (a b : Bool) → both a b ≡ true → (a ≡ true) × (b ≡ true)
both_true true b e = (refl, e)
both_true false b e = absurd (subst T (sym e) tt)

pub both-unit : (a : Bool) → both a true ≡ a
both-unit true = refl
both-unit false = refl

-- a test that is not true is false
pub is_false : (b : Bool) → (b ≡ true → ⊥) → b ≡ false
is_false true h = absurd (h refl)
is_false false h = refl

pub in-range : (p s : ℕ) → in_range p s ≡ true → (p ≤ 65) × ((s ≤ 30) × (s ≤ p))
unfolding in_range
in-range p s e =
    let u = both_true (leb p 65) (both (leb s 30) (leb s p)) e in
    let v = both_true (leb s 30) (leb s p) u.1 in
    (leb-true p 65 u.0, (leb-true s 30 v.0, leb-true s p v.1))

pub digits-ok : (i f : ℕ) → digits_ok i f ≡ true → (1 ≤ i + f) × ((i + f ≤ 65) × (f ≤ 30))
unfolding digits_ok
digits-ok i f e =
    let u = both_true (leb 1 (i + f)) (both (leb (i + f) 65) (leb f 30)) e in
    let v = both_true (leb (i + f) 65) (leb f 30) u.1 in
    (leb-true 1 (i + f) u.0, (leb-true (i + f) 65 v.0, leb-true f 30 v.1))

pub not-ok : (i f : ℕ) → ((1 ≤ i + f) × ((i + f ≤ 65) × (f ≤ 30)) → ⊥) → digits_ok i f ≡ false
not-ok i f h = is_false (digits_ok i f) (λ e. h (digits-ok i f e))

pub well-digits : (i f : ℕ) (gs : List ℕ) → well_groups i f gs ≡ true → (1 ≤ i + f) × ((i + f ≤ 65) × (f ≤ 30))
unfolding well_groups
well-digits i f gs e = digits-ok i f (both_true (digits_ok i f) _ e).0
