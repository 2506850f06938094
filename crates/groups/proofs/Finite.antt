-- A test at every number below n, and what it tells at each.
-- Assumes nothing.
use mathlib.Core.Path.{sym, subst}
use mathlib.Core.Logic.{⊎_elim}
use mathlib.Core.Bool.{Bool, true, false}
use Prim.Native.Nat.{ℕ, zero, suc, ◌<◌}
use native.Mathlib.Nat.{le_of_suc-le-suc, not-suc-le-zero, eq-or-lt_of_le}
use lib.Dec.{T}
use Rattle.groups.specs.Numbers.{both, all}

both_left : (a b : Bool) → T (both a b) → T a
both_left true b t = tt
both_left false b t = t

both_right : (a b : Bool) → T (both a b) → T b
both_right true b t = t
both_right false b t = absurd t

pub at : (p : ℕ → Bool) (n : ℕ) → T (all n p) → (k : ℕ) → k < n → T (p k)
at p zero t k h = absurd (not-suc-le-zero h)
at p (suc n) t k h =
    ⊎_elim (λ e. subst (λ (m : ℕ). T (p m)) (sym e) (both_left (p n) (all n p) t)) (λ l. at p n (both_right (p n) (all n p) t) k l)
    (eq-or-lt_of_le (le_of_suc-le-suc h))
