-- Leading zeros as the library counts them, and what is kept where none leads and where some do.
-- Assumes nothing.
use Rattle.std.proofs.Common.{◌≡◌, ℕ, zero, suc, ◌+◌, ◌-◌, ◌*◌, eqb, List, [], ◌∷◌, get_or, take, refl}
use native.Mathlib.Numerals.{one-add}
use borrow.Author.Tests.{eq-eqb, ne_eqb}
use Rattle.std.specs.List.{prefix_len}
use Rattle.groups.specs.Numbers.{tab, leading_in}
use Rattle.groups.specs.Layout.{groups_of}
use Rattle.groups.specs.declared.Parts.{Parts}
use Rattle.kept.specs.Kept.{without, kept_parts}

-- ---- leading zeros
pub leading-prefix : (n : ℕ) (gs : List ℕ) → leading_in n gs ≡ prefix_len (λ g. eqb g 0) (take n gs)
unfolding leading_in
leading-prefix zero gs = refl
leading-prefix (suc n) [] = refl
leading-prefix (suc n) (g ∷ gs) = rw (leading-prefix n gs, one-add) refl

-- ---- what is kept
pub none-leads : (p : Parts) → leading_in (groups_of p.intg) p.groups ≡ 0 → p ≡ kept_parts p
unfolding without
none-leads p e = simp (eq-eqb (leading_in (groups_of p.intg) p.groups) 0 e)

pub some-lead : (p : Parts) (z : ℕ) (left : List ℕ) → z ≡ leading_in (groups_of p.intg) p.groups → (z ≡ 0 → ⊥) → left ≡ tab 9 (λ k. get_or p.groups (k + z) 0)
    → ◌≡◌ {A = Parts} (record { negative = p.negative; intg = 9 * (groups_of p.intg - z); frac = p.frac; groups = left }) (kept_parts p)
unfolding without
some-lead p z left e h q = rw (q, ← e) (simp (ne_eqb z 0 h))
