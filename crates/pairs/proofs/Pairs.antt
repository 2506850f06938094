-- The laws of pairs: what a pair says of its two bytes, and how far a place may be that was reached.
-- Assumes nothing.
use Prim.Native.Nat.{ℕ, ◌-◌, ◌≤◌, ◌<◌}
use mathlib.Core.Path.{◌≡◌, refl, sym, ◌∙◌}
use mathlib.Core.Bool.{Bool, beq, true, false, ◌&&◌}
use mathlib.Core.List.{List}
use native.Mathlib.Omega.{arith}
use lib.Dec.{ltb, leb}
use lib.ListN.{length}
use borrow.Author.Tests.{ltb-true, ltb-false, leb-true, leb-false, le-leb, lt-leb, not-true}
use Rattle.pairs.specs.Pairs.{lead, tail, right, Rights}

pub by : {A : Type 0} (t : Bool) → (t ≡ true → A) → (t ≡ false → A) → A
by true f g = f refl
by false f g = g refl

pub no : {A : Type 0} → false ≡ true → A
no e = absurd (let z : ◌≡◌ {A = ℕ} 0 1 = cc in omega arith)

module _ (b : ℕ) where
  pub lead_low : b < 194 → leb 194 b ≡ lead b
  unfolding lead
  lead_low h = simp (lt-leb 194 b h)

  pub lead_up : 194 ≤ b → leb b 223 ≡ lead b
  unfolding lead
  lead_up h = simp (le-leb 194 b h)

  pub tail-low : b < 128 → leb 128 b ≡ tail b
  unfolding tail
  tail-low h = simp (lt-leb 128 b h)

  pub tail-up : 128 ≤ b → leb b 191 ≡ tail b
  unfolding tail
  tail-up h = simp (le-leb 128 b h)

  pub lead-there : lead b ≡ true → (194 ≤ b) × (b ≤ 223)
  lead-there e =
      by (leb 194 b) (λ t. (leb-true 194 b t, leb-true b 223 (lead_up (leb-true 194 b t) ∙ e)))
      (λ t. no (sym t ∙ lead_low (leb-false 194 b t) ∙ e))

  pub tail-there : tail b ≡ true → (128 ≤ b) × (b ≤ 191)
  tail-there e =
      by (leb 128 b) (λ t. (leb-true 128 b t, leb-true b 191 (tail-up (leb-true 128 b t) ∙ e)))
      (λ t. no (sym t ∙ tail-low (leb-false 128 b t) ∙ e))

-- ---- the code's comparisons
pub compared : (a b : ℕ) → (beq (lead a) (tail b) && beq (lead a) (leb 192 a)) ≡ right a b
unfolding right
compared a b =
    by (lead a)
    (λ l.
    let w = lead-there a l in
    simp (l, le-leb 192 a (omega arith)) (by (tail b) (λ t. simp t) (λ t. simp t)))
    (λ l. by (tail b) (λ t. by (leb 192 a) (λ u. simp (l, t, u)) (λ u. simp (l, t, u))) (λ t. by (leb 192 a) (λ u. simp (l, t, u)) (λ u. simp (l, t, u))))

-- ---- what a pair says
module _ (a b : ℕ) where
  pub behind-lead : right a b ≡ true → lead a ≡ true → tail b ≡ true
  unfolding right
  behind-lead e l = simp l at e

  pub behind-other : right a b ≡ true → lead a ≡ false → (a < 192) × (tail b ≡ false)
  unfolding right
  behind-other e l =
      by (leb 192 a) (λ t. no (simp (l, t) at e))
      (λ t. (leb-false 192 a t, not-true (tail b) (simp (l, t) at e)))

-- ---- a place further back
pub shorter : (s : List ℕ) (at j r : ℕ) → at ≤ j → j ≤ r → Rights s at r → Rights s at j
shorter s at j r g h p = record { on = g; each = λ k a b. p.each k a (omega arith) }

-- a place that was reached is in the text
pub inside : {s : List ℕ} {at r : ℕ} → at < length s → Rights s at r → r < length s
inside {s} {at} {r} h p =
    by (ltb at r) (λ t. let l = ltb-true at r t in omega (arith, (p.each (r - 1) (omega arith) (omega arith)).0))
    (λ t. omega (arith, p.on, ltb-false at r t))
