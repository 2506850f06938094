-- The laws of the packed groups by side: what is tested and what is stored of the integral rest, the whole groups and the rest of the fraction.
-- Assumes nothing.
use mathlib.Core.Path.{◌≡◌, ◌∙◌, sym, subst}
use mathlib.Core.Bool.{Bool, true, false}
use mathlib.Core.Logic.{⊎_elim}
use mathlib.Core.List.{List}
use Prim.Native.Nat.{ℕ, zero, suc, ◌+◌, ◌-◌, ◌*◌, ◌^◌, ◌≤◌, ◌<◌}
use native.Mathlib.Nat.{mul-lt-mul_of_pos_right, lt_of_mul-lt-mul_right, eq-zero-or-pos}
use native.Mathlib.Omega.{arith}
use lib.Dec.{ltb, lit<}
use lib.ListN.{length, get_or, take, drop, set, replicate}
use lib.Seq.{get_or-set_same, get_or-set_other}
use borrow.Author.Count.{below_more}
use borrow.Author.Tests.{lt-ltb, le-ltb, ltb-true}
use Rattle.std.specs.Prelude.{Ok, Err}
use Rattle.refusal.specs.declared.Refusal.TheVariants as refusal
use Rattle.groups.specs.Numbers.{number}
use Rattle.groups.specs.Layout.{width, form_of, Plain, Inverted}
use Rattle.groups.specs.Sides.{rest, lead_places, wholes}
use Rattle.groups.specs.Read.{range_at, stored_at, groups_in}
use Rattle.groups.proofs.Caps.{same_test, below_or_not}
use Rattle.groups.proofs.Places.{pow-pos10, nine}
use Rattle.groups.proofs.SidesLaws.{lead-range, lead-stored, whole-range, whole-stored, tail-range, tail-stored, past-range, past-stored}
use Rattle.groups.proofs.Tab.{fill_more, filled, all_true, all-false, zeros-at}

-- d digits are below 10 to the d if the group of nine that holds them is below 10 to the 9
pub scaled-lt : (x d : ℕ) → d ≤ 9 → ltb x (10 ^ d) ≡ ltb (x * 10 ^ (9 - d)) 1000000000
scaled-lt x d h =
    same_test _ _ (λ e. lt-ltb (x * 10 ^ (9 - d)) 1000000000 (subst (λ (n : ℕ). x * 10 ^ (9 - d) < n) (nine d h) (mul-lt-mul_of_pos_right (ltb-true x (10 ^ d) e) (pow-pos10 (9 - d)))))
    (λ e. lt-ltb x (10 ^ d) (lt_of_mul-lt-mul_right (10 ^ (9 - d)) (subst (λ (n : ℕ). x * 10 ^ (9 - d) < n) (sym (nine d h)) (ltb-true (x * 10 ^ (9 - d)) 1000000000 e))))

module _ (i f : ℕ) (ds : List ℕ) where
  abbrev pub lead_in : ℕ
  lead_in = number 256 (take (width (rest i)) ds)

  abbrev pub four_in : ℕ → ℕ
  four_in n = number 256 (take 4 (drop (width (rest i) + 4 * n) ds))

  abbrev pub tail_in : ℕ
  tail_in = number 256 (take (width (rest f)) (drop (width (rest i) + 4 * wholes i f) ds)) * 10 ^ (9 - rest f)

  pub lead-in : (v : Bool) (k : ℕ) → k < lead_places i → (range_at (form_of v) i f ds k ≡ ltb lead_in (10 ^ rest i)) × (stored_at (form_of v) i f ds k ≡ lead_in)
  lead-in true k h = (lead-range Inverted i f ds k h, lead-stored Inverted i f ds k h)
  lead-in false k h = (lead-range Plain i f ds k h, lead-stored Plain i f ds k h)

  pub four-in : (v : Bool) (n : ℕ) → n < wholes i f → (range_at (form_of v) i f ds (lead_places i + n) ≡ ltb (four_in n) 1000000000) × (stored_at (form_of v) i f ds (lead_places i + n) ≡ four_in n)
  unfolding width
  four-in true n h = (whole-range Inverted i f ds n h, whole-stored Inverted i f ds n h)
  four-in false n h = (whole-range Plain i f ds n h, whole-stored Plain i f ds n h)

  tail_of : (v : Bool)
      → (range_at (form_of v) i f ds (lead_places i + wholes i f) ≡ ltb (number 256 (take (width (rest f)) (drop (width (rest i) + 4 * wholes i f) ds))) (10 ^ rest f)) × (stored_at (form_of v) i f ds (lead_places i + wholes i f) ≡ tail_in)
  unfolding width
  tail_of true = (tail-range Inverted i f ds, tail-stored Inverted i f ds)
  tail_of false = (tail-range Plain i f ds, tail-stored Plain i f ds)

  pub tail-in : (v : Bool) → (range_at (form_of v) i f ds (lead_places i + wholes i f) ≡ ltb tail_in 1000000000) × (stored_at (form_of v) i f ds (lead_places i + wholes i f) ≡ tail_in)
  tail-in v = ((tail_of v).0 ∙ scaled-lt _ (rest f) (omega arith), (tail_of v).1)

  -- ---- a group that is out of range
  refused : (v : Bool) (k : ℕ) → k < 9 → range_at (form_of v) i f ds k ≡ false → groups_in (form_of v) i f ds ≡ Err refusal.Group
  unfolding groups_in
  refused v k h e = simp (all-false (range_at (form_of v) i f ds) 9 k h e)

  lead-none : rest i ≡ 0 → lead_in ≡ 0
  unfolding width number
  lead-none e = rw e

  pub lead-over : (v : Bool) → 10 ^ rest i ≤ lead_in → groups_in (form_of v) i f ds ≡ Err refusal.Group
  lead-over v h =
      ⊎_elim (λ (e : rest i ≡ 0). absurd (over e (rw (lead-none e, e) at h)))
      (λ (l : 0 < rest i). refused v 0 (omega arith) ((lead-in v 0 (omega arith)).0 ∙ le-ltb lead_in (10 ^ rest i) h)) (eq-zero-or-pos (rest i))
    where
      over : rest i ≡ 0 → 1 ≤ 0 → ⊥
      over e q = omega arith

  module _ (small : i + f ≤ 65) where
    pub four-over : (v : Bool) (n : ℕ) → n < wholes i f → 1000000000 ≤ four_in n → groups_in (form_of v) i f ds ≡ Err refusal.Group
    four-over v n l h = refused v (lead_places i + n) (omega arith) ((four-in v n l).0 ∙ le-ltb (four_in n) 1000000000 h)

    pub tail-over : (v : Bool) → 1000000000 ≤ tail_in → groups_in (form_of v) i f ds ≡ Err refusal.Group
    tail-over v h = refused v (lead_places i + wholes i f) (omega arith) ((tail-in v).0 ∙ le-ltb tail_in 1000000000 h)

  -- ---- the groups before the place k are in range and stored, and those from it on are 0
  abbrev pub Filled : Bool → ℕ → List ℕ → Type 0
  Filled v k gs =
      ((j : ℕ) → j < k → get_or gs j 0 ≡ stored_at (form_of v) i f ds j) × (((j : ℕ) → j < k → range_at (form_of v) i f ds j ≡ true) × ((j : ℕ) → k ≤ j → get_or gs j 0 ≡ 0))

  pub filled-lead : (v : Bool) (x : ℕ) → x ≡ lead_in → x < 10 ^ rest i → Filled v (lead_places i) (set (replicate 9 0) 0 x)
  filled-lead v x e h = (
    λ j l. let z : j ≡ 0 = omega arith in rw z (get_or-set_same (replicate 9 0) 0 x 0 (lit< tt)) ∙ e ∙ sym (lead-in v j l).1,
    (λ j l. (lead-in v j l).0 ∙ lt-ltb lead_in (10 ^ rest i) (rw e at h), none),
  )
    where
      none : (j : ℕ) → lead_places i ≤ j → get_or (set (replicate 9 0) 0 x) j 0 ≡ 0
      none zero l = get_or-set_same (replicate 9 0) 0 x 0 (lit< tt) ∙ e ∙ lead-none (omega arith)
      none (suc j) l = get_or-set_other (replicate 9 0) 0 (suc j) x 0 (λ q. omega arith) ∙ zeros-at 9 (suc j)

  pub filled_more : (v : Bool) (k x : ℕ) (gs : List ℕ) → k < length gs → Filled v k gs → x ≡ stored_at (form_of v) i f ds k → range_at (form_of v) i f ds k ≡ true → Filled v (k + 1) (set gs k x)
  filled_more v k x gs l h e r = (
    fill_more (stored_at (form_of v) i f ds) gs k x l h.0 e,
    (below_more _ k h.1.0 r, λ j m. get_or-set_other gs k j x 0 (λ q. omega arith) ∙ h.1.1 j (omega arith)),
  )

  pub filled-all : (v : Bool) (gs : List ℕ) → length gs ≡ 9 → Filled v (lead_places i + wholes i f + 1) gs → groups_in (form_of v) i f ds ≡ Ok gs
  unfolding groups_in
  filled-all v gs l h =
      let z = lead_places i + wholes i f + 1 in
      let g = filled 9 (stored_at (form_of v) i f ds) gs l
      (λ j m. ⊎_elim (λ (n : j < z). h.0 j n) (λ (n : z ≤ j). h.1.1 j n ∙ sym (past-stored (form_of v) i f ds j (omega arith))) (below_or_not j z)) in
      let t = all_true (range_at (form_of v) i f ds) 9
      (λ j m. ⊎_elim (λ (n : j < z). h.1.0 j n) (λ (n : z ≤ j). past-range (form_of v) i f ds j (omega arith)) (below_or_not j z)) in
      simp (t, g)
