-- The laws of a well formed group by its place: an integral group is below the power of its digits; a group of the fraction is below 10
-- to the 9 and a multiple of its unit; only the first can have fewer digits, only the last a unit above 1, and past the last all are 0.
-- Assumes nothing.
use mathlib.Core.Path.{◌≡◌, refl, sym, ap, ◌∙◌, subst}
use mathlib.Core.Bool.{Bool, true, false, cond}
use mathlib.Core.List.{List}
use mathlib.Core.Logic.{◌⊎◌, inl, inr, ⊎_elim}
use Prim.Native.Nat.{ℕ, ◌+◌, ◌-◌, ◌*◌, ◌/◌, ◌%◌, ◌^◌, ◌≤◌, ◌<◌}
use native.Mathlib.Nat.{div-lt_iff_lt-mul, mod-one, div-one, pow-le-pow_right, lt_of_lt_of_le, not-le_of_lt, eq-zero-or-pos}
use native.Mathlib.Omega.{arith}
use lib.Dec.{ltb, eqb, lit<}
use lib.ListN.{get_or}
use borrow.Author.Tests.{ltb-true, ltb-false, lt-ltb, le-ltb, eqb-true, eq-eqb}
use Rattle.groups.specs.Numbers.{both, all}
use Rattle.groups.specs.Layout.{groups_of, side, digits_at}
use Rattle.groups.specs.Read.{unit_of}
use Rattle.groups.specs.Write.{digits_ok, well_at, well_groups}
use Rattle.groups.specs.Course.{capped_at}
use Rattle.groups.proofs.Accept.{both_true, is_false}
use Rattle.groups.proofs.Tab.{all_true, all-false, all-each}
use Rattle.groups.proofs.Places.{pow-pos10, nine, digits_le}

-- two tests that follow from each other
pub same_test : (s t : Bool) → (s ≡ true → t ≡ true) → (t ≡ true → s ≡ true) → s ≡ t
same_test true t p q = sym (p refl)
same_test false true p q = q refl
same_test false false p q = refl

pub either : (t : Bool) → (t ≡ true) ⊎ (t ≡ false)
either true = inl refl
either false = inr refl

pub below_or_not : (a b : ℕ) → (a < b) ⊎ (b ≤ a)
below_or_not a b = ⊎_elim (λ e. inl (ltb-true a b e)) (λ e. inr (ltb-false a b e)) (either (ltb a b))

-- ---- the digits at each place
module _ (i f k : ℕ) where
  pub digits-first : k ≡ 0 → k < groups_of i → digits_at i f k ≡ i + 9 - 9 * groups_of i
  unfolding digits_at groups_of side
  digits-first e h = simp (lt-ltb k ((i + 8) / 9) h) (omega arith)

  pub digits-integral : 0 < k → k < groups_of i → digits_at i f k ≡ 9
  unfolding digits_at groups_of side
  digits-integral e h = simp (lt-ltb k ((i + 8) / 9) h) (omega arith)

  pub digits-fraction : groups_of i ≤ k → k + 1 < groups_of i + groups_of f → digits_at i f k ≡ 9
  unfolding digits_at groups_of side
  digits-fraction h l = simp (le-ltb k ((i + 8) / 9) h) (omega arith)

  pub digits_last : groups_of i ≤ k → k + 1 ≡ groups_of i + groups_of f → 9 - digits_at i f k ≡ 9 * groups_of f - f
  unfolding digits_at groups_of side
  digits_last h l = simp (le-ltb k ((i + 8) / 9) h) (omega arith)

  pub digits-none : groups_of i + groups_of f ≤ k → digits_at i f k ≡ 0
  unfolding digits_at groups_of side
  digits-none h = let l : (i + 8) / 9 ≤ k = omega arith in simp (le-ltb k ((i + 8) / 9) l) (omega arith)

-- ---- a well formed group, by its side
nine-lt : (g d : ℕ) → d ≤ 9 → ltb (g / 10 ^ (9 - d)) (10 ^ d) ≡ ltb g 1000000000
nine-lt g d h =
    let i = div-lt_iff_lt-mul {k = 10 ^ (9 - d)} {x = g} {y = 10 ^ d} (pow-pos10 (9 - d)) in
    same_test _ _ (λ e. lt-ltb g 1000000000 (subst (λ (n : ℕ). g < n) (nine d h) (i.0 (ltb-true _ _ e))))
    (λ e. lt-ltb _ _ (i.1 (subst (λ (n : ℕ). g < n) (sym (nine d h)) (ltb-true g 1000000000 e))))

module _ (i f k g : ℕ) where
  pub well-integral : k < groups_of i → well_at i f k g ≡ ltb g (10 ^ digits_at i f k)
  unfolding well_at unit_of
  well-integral h = simp (lt-ltb k (groups_of i) h, mod-one, div-one)

  pub well-fraction : groups_of i ≤ k → well_at i f k g ≡ both (eqb (g % 10 ^ (9 - digits_at i f k)) 0) (ltb g 1000000000)
  unfolding well_at unit_of
  well-fraction h = simp (le-ltb k (groups_of i) h, nine-lt g (digits_at i f k) (digits_le i f k))

  pub capped-used : k < groups_of i + groups_of f → g < 1000000000 → capped_at (groups_of i + groups_of f) k g ≡ true
  unfolding capped_at
  capped-used h l = simp (lt-ltb k (groups_of i + groups_of f) h, lt-ltb g 1000000000 l)

  pub capped-unused : groups_of i + groups_of f ≤ k → g ≡ 0 → capped_at (groups_of i + groups_of f) k g ≡ true
  unfolding capped_at
  capped-unused h e = simp (le-ltb k (groups_of i + groups_of f) h, eq-eqb g 0 e)

  used-capped : k < groups_of i + groups_of f → capped_at (groups_of i + groups_of f) k g ≡ true → g < 1000000000
  unfolding capped_at
  used-capped h e = ltb-true g 1000000000 (simp (lt-ltb k (groups_of i + groups_of f) h) at e)

  unused-capped : groups_of i + groups_of f ≤ k → capped_at (groups_of i + groups_of f) k g ≡ true → g ≡ 0
  unfolding capped_at
  unused-capped h e = eqb-true g 0 (simp (le-ltb k (groups_of i + groups_of f) h) at e)

  -- a group of the fraction, and one past it
  fraction-parts : groups_of i ≤ k → well_at i f k g ≡ true → (g % 10 ^ (9 - digits_at i f k) ≡ 0) × (g < 1000000000)
  fraction-parts h e =
      let b = both_true _ _ (sym (well-fraction h) ∙ e) in
      (eqb-true _ 0 b.0, ltb-true g 1000000000 b.1)

  of-fraction : groups_of i ≤ k → g % 10 ^ (9 - digits_at i f k) ≡ 0 → g < 1000000000 → well_at i f k g ≡ true
  of-fraction h e l = well-fraction h ∙ simp (eq-eqb (g % 10 ^ (9 - digits_at i f k)) 0 e, lt-ltb g 1000000000 l)

  integral-lt : k < groups_of i → well_at i f k g ≡ true → g < 10 ^ digits_at i f k
  integral-lt h e = ltb-true _ _ (sym (well-integral h) ∙ e)

  pub well-capped : well_at i f k g ≡ true → capped_at (groups_of i + groups_of f) k g ≡ true
  well-capped e =
      ⊎_elim
      (λ h. capped-used (omega arith) (lt_of_lt_of_le (integral-lt h e) (pow-le-pow_right (lit< tt) {j = 9} (digits_le i f k))))
      (λ h. ⊎_elim (λ l. capped-used l (fraction-parts h e).1)
      (λ l. let p = rw (digits-none i f k l) at (fraction-parts h e) in capped-unused l (omega arith))
      (below_or_not k (groups_of i + groups_of f)))
      (below_or_not k (groups_of i))

  pub well-of : capped_at (groups_of i + groups_of f) k g ≡ true → (k ≡ 0 → g < 10 ^ (i + 9 - 9 * groups_of i))
      → (k + 1 ≡ groups_of i + groups_of f → g % 10 ^ (9 * groups_of f - f) ≡ 0) → well_at i f k g ≡ true
  well-of e p q =
      ⊎_elim
      (λ h. well-integral h ∙ lt-ltb g (10 ^ digits_at i f k) (⊎_elim (λ z. rw (digits-first i f k z h) (p z)) (λ z. rw (digits-integral i f k z h) (used-capped (omega arith) e)) (eq-zero-or-pos k)))
      (λ h. ⊎_elim
      (λ l. of-fraction h (rw (digits-fraction i f k h l) (mod-one g)) (used-capped (omega arith) e))
      (λ (l : groups_of i + groups_of f ≤ k + 1). ⊎_elim (λ m. let s : k + 1 ≡ groups_of i + groups_of f = omega arith in of-fraction h (rw (digits_last i f k h s) (q s)) (used-capped m e))
      (λ m. let z = unused-capped m e in of-fraction h (rw (digits-none i f k m) (omega arith)) (omega arith))
      (below_or_not k (groups_of i + groups_of f)))
      (below_or_not (k + 1) (groups_of i + groups_of f)))
      (below_or_not k (groups_of i))

  pub well-first : k ≡ 0 → well_at i f k g ≡ true → g < 10 ^ (i + 9 - 9 * groups_of i)
  unfolding groups_of
  well-first z e =
      ⊎_elim (λ h. rw (digits-first i f k z h) at (integral-lt h e))
      (λ h. let s : i + 9 - 9 * ((i + 8) / 9) ≡ 9 = omega arith in rw s (fraction-parts h e).1) (below_or_not k (groups_of i))

  pub well-last : 0 < 9 * groups_of f - f → k + 1 ≡ groups_of i + groups_of f → well_at i f k g ≡ true → g % 10 ^ (9 * groups_of f - f) ≡ 0
  well-last h s e = let l : groups_of i ≤ k = omega arith in rw (digits_last i f k l s) at (fraction-parts l e).0

-- ---- all nine
true-not-false : true ≡ false → ⊥
true-not-false z = let n : ◌≡◌ {A = ℕ} 0 1 = ap (λ (t : Bool). cond t 0 1) z in omega arith

module _ (i f : ℕ) (gs : List ℕ) where
  abbrev capped : ℕ → Bool
  capped = λ k. capped_at (groups_of i + groups_of f) k (get_or gs k 0)

  abbrev well : ℕ → Bool
  well = λ k. well_at i f k (get_or gs k 0)

  -- no group has more than nine digits
  pub well-bound : all 9 well ≡ true → (k : ℕ) → k < 9 → get_or gs k 0 < 1000000000
  well-bound e k h =
      let c = well-capped i f k (get_or gs k 0) (all-each well 9 e k h) in
      ⊎_elim (λ l. used-capped i f k (get_or gs k 0) l c) (λ l. let z = unused-capped i f k (get_or gs k 0) l c in omega arith)
      (below_or_not k (groups_of i + groups_of f))

  pub not-capped : all 9 capped ≡ false → all 9 well ≡ false
  not-capped e =
      is_false (all 9 well)
      (λ w. true-not-false (sym (all_true capped 9 (λ k h. well-capped i f k (get_or gs k 0) (all-each well 9 w k h))) ∙ e))

  pub first-over : 10 ^ (i + 9 - 9 * groups_of i) ≤ get_or gs 0 0 → all 9 well ≡ false
  first-over h = all-false well 9 0 (lit< tt) (is_false (well 0) (λ e. not-le_of_lt (well-first i f 0 (get_or gs 0 0) refl e) h))

  module _ (c : all 9 capped ≡ true) (p : get_or gs 0 0 < 10 ^ (i + 9 - 9 * groups_of i)) where
    pub all_of : get_or gs (groups_of i + groups_of f - 1) 0 % 10 ^ (9 * groups_of f - f) ≡ 0 → all 9 well ≡ true
    all_of q =
        all_true well 9
        (λ k h. well-of i f k (get_or gs k 0) (all-each capped 9 c k h) (λ z. rw z p) (λ s. let e : k ≡ groups_of i + groups_of f - 1 = omega arith in rw e q))

    pub all-is : 0 < 9 * groups_of f - f → groups_of i + groups_of f ≤ 9 → all 9 well ≡ eqb (get_or gs (groups_of i + groups_of f - 1) 0 % 10 ^ (9 * groups_of f - f)) 0
    all-is h l =
        let k = groups_of i + groups_of f - 1 in
        let s : k + 1 ≡ groups_of i + groups_of f = omega arith in
        same_test (all 9 well) (eqb (get_or gs k 0 % 10 ^ (9 * groups_of f - f)) 0)
        (λ w. eq-eqb (get_or gs k 0 % 10 ^ (9 * groups_of f - f)) 0 (well-last i f k (get_or gs k 0) h s (all-each well 9 w k (omega arith)))) (λ e. all_of (eqb-true (get_or gs k 0 % 10 ^ (9 * groups_of f - f)) 0 e))

pub well-groups : (i f : ℕ) (gs : List ℕ) → well_groups i f gs ≡ true → (k : ℕ) → k < 9 → get_or gs k 0 < 1000000000
unfolding well_groups
well-groups i f gs e = well-bound i f gs (both_true (digits_ok i f) (all 9 (well i f gs)) e).1
