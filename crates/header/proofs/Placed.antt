-- A place and an end that the document has or has not, for all that is read at any place.
-- Assumes nothing.
use mathlib.Core.Path.{◌≡◌, refl}
use mathlib.Core.Bool.{Bool, true, false, cond}
use mathlib.Core.List.{List}
use Prim.Native.Nat.{ℕ}
use lib.Dec.{ltb}
use lib.ListN.{length}
use borrow.Author.Tests.{le-ltb, ltb-false}
use Rattle.std.specs.Prelude.{Result, Ok, Err, ⊤}
use Rattle.refusal.specs.declared.Refusal.{Refusal}
use Rattle.refusal.specs.declared.Refusal.TheVariants as refusal
use Rattle.header.specs.Headers.{place_of, placed, then}
use Rattle.header.specs.Course.{Within}

-- what comes first was no refusal where the whole is none
pub then-so : {A B : Type 0} (x : Result A Refusal) (f : A → Result B Refusal) {y : B} → then x f ≡ Ok y → (z : A) × (x ≡ Ok z) × (f z ≡ Ok y)
then-so (Ok z) f q = (z, refl, q)
then-so (Err r) f q = cc

module _ (d : List ℕ) (i e : ℕ) where
  pub right-place : {u : ⊤} → place_of d i e ≡ Ok u → Within (length d) i e
  unfolding place_of
  right-place {u} q = go (ltb 16777216 (length d)) (ltb (length d) e) (ltb e i) refl refl refl q
    where
      go : (a b c : Bool) → ltb 16777216 (length d) ≡ a → ltb (length d) e ≡ b → ltb e i ≡ c →
          cond a (Err refusal.Document) (cond b (Err refusal.Cut) (cond c (Err refusal.Cut) (Ok _))) ≡ Ok u → Within (length d) i e
      go true b c x y w q = cc
      go false true c x y w q = cc
      go false false true x y w q = cc
      go false false false x y w q = record { order = ltb-false e i w; inside = ltb-false (length d) e y; short = ltb-false 16777216 (length d) x }

  -- what is no refusal was read at a place that the document has
  pub placed-so : {A : Type 0} (x : Result A Refusal) {y : A} → placed d i e x ≡ Ok y → (x ≡ Ok y) × Within (length d) i e
  placed-so x q = let s = then-so (place_of d i e) (λ _. x) q in (s.2, right-place s.1)

  pub no-fault : Within (length d) i e → place_of d i e ≡ Ok _
  unfolding place_of
  no-fault w = simp (le-ltb 16777216 (length d) w.short, le-ltb (length d) e w.inside, le-ltb e i w.order)

  -- there the definition is what is read
  pub placed-within : {A : Type 0} {x : Result A Refusal} → Within (length d) i e → placed d i e x ≡ x
  placed-within w = rw (no-fault w) refl
