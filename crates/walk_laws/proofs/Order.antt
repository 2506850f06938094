-- The order of paths is strict and total. So a list of paths in order names each once, and is determined by which paths it names.
-- Assumes nothing.
use mathlib.Core.Path.{◌≡◌, refl, sym, ap, ◌∙◌, subst}
use mathlib.Core.Logic.{◌⊎◌, inl, inr, ⊎_elim}
use mathlib.Core.List.Memᴰ
use mathlib.Core.List.{List, [], ◌∷◌, ◌++◌, Memᴰ}
use Prim.Native.Nat.{ℕ, ◌<◌}
use native.Mathlib.Omega.{arith}
use lib.Dec.{ltb}
use mathlib.Core.Bool.{Bool, true, false}
use borrow.Author.Tests.{ltb-true, ltb-false}
use Rattle.paths.specs.Paths.{Before, prefix, lower, inside, Item}
use Rattle.walk_laws.specs.Promise.{Ascending, StrictOrder, OneList}

-- ---- a strict and total order
pub differ : {π ρ : List ℕ} → Before π ρ → π ≡ ρ → ⊥
differ prefix e = let z : ◌≡◌ {A = ℕ} 0 1 = cc in omega arith
differ (lower {i = i} {j = j} h) e = let z : i ≡ j = cc in omega arith
differ (inside {π = π} {ρ = ρ} b) e = let z : π ≡ ρ = cc in differ b z

pub irreflexive : (π : List ℕ) → Before π π → ⊥
irreflexive π b = differ b refl

pub transitive : {π ρ σ : List ℕ} → Before π ρ → Before ρ σ → Before π σ
transitive prefix (lower h) = prefix
transitive prefix (inside b) = prefix
transitive (lower {i = i} g) (lower {j = k} h) = let l : i < k = omega arith in lower l
transitive (lower g) (inside b) = lower g
transitive (inside a) (lower h) = lower h
transitive (inside a) (inside b) = inside (transitive a b)

total : (π ρ : List ℕ) → Before π ρ ⊎ ((π ≡ ρ) ⊎ Before ρ π)
total [] [] = inr (inl refl)
total [] (j ∷ ρ) = inl prefix
total (i ∷ π) [] = inr (inr prefix)
total (i ∷ π) (j ∷ ρ) = go (ltb i j) (ltb j i) refl refl (total π ρ)
  where
    same : i ≡ j → Before π ρ ⊎ ((π ≡ ρ) ⊎ Before ρ π) → Before (i ∷ π) (j ∷ ρ) ⊎ ((i ∷ π ≡ j ∷ ρ) ⊎ Before (j ∷ ρ) (i ∷ π))
    same e (inl b) = inl (subst (λ (k : ℕ). Before (i ∷ π) (k ∷ ρ)) e (inside b))
    same e (inr (inl q)) = inr (inl (cc))
    same e (inr (inr b)) = inr (inr (subst (λ (k : ℕ). Before (k ∷ ρ) (i ∷ π)) e (inside b)))

    go : (a b : Bool) → ltb i j ≡ a → ltb j i ≡ b → Before π ρ ⊎ ((π ≡ ρ) ⊎ Before ρ π) →
        Before (i ∷ π) (j ∷ ρ) ⊎ ((i ∷ π ≡ j ∷ ρ) ⊎ Before (j ∷ ρ) (i ∷ π))
    go true b p q t = inl (lower (ltb-true i j p))
    go false true p q t = inr (inr (lower (ltb-true j i q)))
    go false false p q t = let x = ltb-false i j p in let y = ltb-false j i q in same (omega arith) t

-- ---- in a list in order
module _ (x : Item) (xs : List Item) where
  -- the first is not among the others
  not-again : Ascending (x ∷ xs) → Memᴰ x xs → ⊥
  unfolding Ascending
  not-again a m = irreflexive x.path (a.0 x m)

-- no path stands there twice
once : (ws : List Item) (x y : Item) (bs cs : List Item) → Ascending (ws ++ x ∷ (bs ++ y ∷ cs)) → x.path ≡ y.path → ⊥
unfolding Ascending
once [] x y bs cs a e = differ (a.0 y (Memᴰ.append_right bs (Memᴰ.head refl))) e
once (z ∷ ws) x y bs cs a e = once ws x y bs cs a.1 e

pub strict-order : StrictOrder
strict-order = record { irreflexive = irreflexive; transitive = transitive; total = total; once = once }

-- ---- two lists in order that name the same paths are one
abbrev Among : List Item → List Item → Type 0
Among xs ys = (z : Item) → Memᴰ z xs → Memᴰ z ys

-- their first items are one
module _ (x y : Item) (xs ys : List Item) (a : Ascending (x ∷ xs)) (b : Ascending (y ∷ ys)) where
  heads : Among (x ∷ xs) (y ∷ ys) → Among (y ∷ ys) (x ∷ xs) → x ≡ y
  unfolding Ascending
  heads f g =
      ⊎_elim (λ e. e)
      (λ m.
      ⊎_elim (λ e. sym e) (λ n. absurd (irreflexive x.path (transitive (a.0 y n) (b.0 x m)))) (Memᴰ.cases_cons (g y (Memᴰ.head refl))))
      (Memᴰ.cases_cons (f x (Memᴰ.head refl)))

-- and so the others name the same
others : (x y : Item) (xs ys : List Item) → x ≡ y → Ascending (x ∷ xs) → Among (x ∷ xs) (y ∷ ys) → Among xs ys
others x y xs ys e a f z m =
    ⊎_elim (λ q. absurd (not-again x xs a (subst (λ (t : Item). Memᴰ t xs) (q ∙ sym e) m))) (λ n. n)
    (Memᴰ.cases_cons (f z (Memᴰ.tail m)))

same-list : (xs ys : List Item) → Ascending xs → Ascending ys → Among xs ys → Among ys xs → xs ≡ ys
unfolding Ascending
same-list [] [] a b f g = refl
same-list [] (y ∷ ys) a b f g = absurd (Memᴰ.not-nil (g y (Memᴰ.head refl)))
same-list (x ∷ xs) [] a b f g = absurd (Memᴰ.not-nil (f x (Memᴰ.head refl)))
same-list (x ∷ xs) (y ∷ ys) a b f g =
    let e : x ≡ y = heads x y xs ys a b f g in
    ap (λ (z : Item). z ∷ xs) e
    ∙ ap (λ (zs : List Item). y ∷ zs) (same-list xs ys a.1 b.1 (others x y xs ys e a f) (others y x ys xs (sym e) b g))

-- so there is one list of the paths of a kind
pub one_list : OneList
one_list d kind xs ys a b =
    same-list xs ys a.order b.order (λ z m. b.all (a.only z m) (a.those z m)) (λ z m. a.all (b.only z m) (b.those z m))
