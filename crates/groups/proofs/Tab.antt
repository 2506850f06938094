-- Lists by their elements, and tests at every place: what a loop that fills an array of nine, or tests nine places, shows.
-- Assumes nothing.
use mathlib.Core.Path.{◌≡◌, refl, sym, ap, ◌∙◌, subst}
use mathlib.Core.Bool.{Bool, true, false}
use mathlib.Core.Logic.{⊎_elim}
use mathlib.Core.List.{List, [], ◌∷◌, map}
use Prim.Native.Nat.{ℕ, zero, suc, ◌+◌, ◌<◌}
use native.Mathlib.Nat.{le_of_suc-le-suc, not-suc-le-zero, eq-or-lt_of_le, le_refl, lt_irrefl, le-suc, le_trans}
use lib.ListN.{length, get_or, take, drop, set, replicate}
use lib.Seq.{ext_get_or, get_or-set_same, get_or-set_other}
use borrow.Author.Count.{below_more}
use lib.Dec.{T}
use Rattle.groups.specs.Numbers.{tab, both, all}
use Rattle.groups.proofs.Finite.{at}

pub length-tab : (n : ℕ) (f : ℕ → ℕ) → length (tab n f) ≡ n
unfolding tab
length-tab zero f = refl
length-tab (suc n) f = ap suc (length-tab n (λ k. f (suc k)))

pub tab-at : (n : ℕ) (f : ℕ → ℕ) (k : ℕ) → k < n → get_or (tab n f) k 0 ≡ f k
unfolding tab
tab-at zero f k h = absurd (not-suc-le-zero h)
tab-at (suc n) f zero h = refl
tab-at (suc n) f (suc k) h = tab-at n (λ k. f (suc k)) k (le_of_suc-le-suc h)

-- a list of n elements that are f's
pub filled : (n : ℕ) (f : ℕ → ℕ) (xs : List ℕ) → length xs ≡ n → ((k : ℕ) → k < n → get_or xs k 0 ≡ f k) → xs ≡ tab n f
filled n f xs e h =
    ext_get_or 0 xs (tab n f) (e ∙ sym (length-tab n f))
    (λ k l. let m : k < n = subst (λ (z : ℕ). k < z) e l in h k m ∙ sym (tab-at n f k m))

-- one more element stored
pub fill_more : (f : ℕ → ℕ) (xs : List ℕ) (i v : ℕ) → i < length xs → ((k : ℕ) → k < i → get_or xs k 0 ≡ f k) → v ≡ f i
    → (k : ℕ) → k < i + 1 → get_or (set xs i v) k 0 ≡ f k
fill_more f xs i v l h e =
    below_more (λ k. get_or (set xs i v) k 0 ≡ f k) i
    (λ k m. get_or-set_other xs i k v 0 (λ q. lt_irrefl i (subst (λ (z : ℕ). z < i) q m)) ∙ h k m) (get_or-set_same xs i v 0 l ∙ e)

-- a part of a list, each element mapped
pub take-map : (g : ℕ → ℕ) (n : ℕ) (xs : List ℕ) → take n (map g xs) ≡ map g (take n xs)
take-map g zero xs = refl
take-map g (suc n) [] = refl
take-map g (suc n) (x ∷ xs) = ap (λ (l : List ℕ). g x ∷ l) (take-map g n xs)

pub drop-map : (g : ℕ → ℕ) (n : ℕ) (xs : List ℕ) → drop n (map g xs) ≡ map g (drop n xs)
drop-map g zero xs = refl
drop-map g (suc n) [] = refl
drop-map g (suc n) (x ∷ xs) = drop-map g n xs

pub all_true : (p : ℕ → Bool) (n : ℕ) → ((k : ℕ) → k < n → p k ≡ true) → all n p ≡ true
all_true p zero h = refl
all_true p (suc n) h = simp (h n (le_refl (suc n)), all_true p n (λ k l. h k (le_trans l (le-suc n))))

both_false : (a b : Bool) → b ≡ false → both a b ≡ false
both_false true b e = e
both_false false b e = refl

pub all-false : (p : ℕ → Bool) (n k : ℕ) → k < n → p k ≡ false → all n p ≡ false
all-false p zero k h e = absurd (not-suc-le-zero h)
all-false p (suc n) k h e =
    ⊎_elim (λ q. let r : p n ≡ false = subst (λ (m : ℕ). p m ≡ false) q e in simp r)
    (λ l. both_false (p n) (all n p) (all-false p n k l e)) (eq-or-lt_of_le (le_of_suc-le-suc h))

pub all-each : (p : ℕ → Bool) (n : ℕ) → all n p ≡ true → (k : ℕ) → k < n → p k ≡ true
all-each p n e k h = is_true (p k) (at p n (subst T (sym e) tt) k h)
  where
    is_true : (b : Bool) → T b → b ≡ true
    is_true true t = refl
    is_true false t = absurd t

pub zeros-at : (n j : ℕ) → ◌≡◌ {A = ℕ} (get_or (replicate n 0) j 0) 0
zeros-at zero j = refl
zeros-at (suc n) zero = refl
zeros-at (suc n) (suc j) = zeros-at n j
