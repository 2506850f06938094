-- How many bytes stand before the first that is looked for, in the library's words.
-- Assumes nothing.
use Prim.Native.Nat.{ℕ, ◌<◌}
use mathlib.Core.Path.{◌≡◌, refl}
use mathlib.Core.Bool.{Bool, true, false, not}
use mathlib.Core.List.{List, [], ◌∷◌}
use native.Mathlib.Omega.{arith}
use lib.Dec.{eqb}
use lib.ListN.{length, drop, drop_of_length-le}
use Rattle.std.specs.List.{prefix_len}
use Rattle.request.specs.Find.{before}

by : {A : Type 0} (t : Bool) → (t ≡ true → A) → (t ≡ false → A) → A
by true f g = f refl
by false f g = g refl

pub before_prefix : (b : ℕ) (xs : List ℕ) → before b xs ≡ prefix_len (λ x. not (eqb x b)) xs
unfolding before
before_prefix b [] = refl
before_prefix b (x ∷ xs) = by (eqb x b) (λ e. simp e) (λ e. simp e (omega (arith, before_prefix b xs)))

pub before_end : (b : ℕ) (t : List ℕ) (at : ℕ) → length t < at → before b (drop at t) ≡ 0
unfolding before
before_end b t at h = rw (drop_of_length-le t {i = at} (omega arith))
