-- Events in order name their paths: each path begins with the path before it, up to its own last position.
-- Assumes nothing.
use mathlib.Core.Path.{◌≡◌, refl, ap, ◌∙◌}
use mathlib.Core.Bool.{Bool, false, cond}
use mathlib.Core.List.{List, [], ◌∷◌, ◌++◌, map}
use Prim.Native.Nat.{ℕ, zero, suc, ◌+◌, ◌-◌}
use native.Mathlib.Omega.{arith}
use lib.Dec.{eqb}
use lib.ListN.{length, take, length-append}
use lib.Seq.{take-append_seam}
use borrow.Author.Tests.{ne_eqb}
use Rattle.paths.specs.Judged.{Stand}
use Rattle.paths.specs.Paths.{root_stand, child, view_in, count_in, Item, under, gather, tree, paths, last_of}
use Rattle.paths.proofs.Index.{last_snoc}
use Rattle.walk_laws.specs.Promise.{event_at, name_after, names_after}

-- ---- a path after another
data After : List ℕ → List ℕ → Type 0 where
  first : {π : List ℕ} → After π []
  next : (σ τ : List ℕ) (i : ℕ) → After (σ ++ τ) (σ ++ i ∷ [])

after-under : {π ρ : List ℕ} (i : ℕ) → After π ρ → After (i ∷ π) (i ∷ ρ)
after-under {π} i first = next [] (i ∷ π) i
after-under i (next σ τ j) = next (i ∷ σ) τ j

after-named : {π ρ : List ℕ} → After π ρ → name_after π (length ρ) (last_of ρ) ≡ ρ
after-named first = refl
after-named (next σ τ i) =
    let l : length (σ ++ i ∷ []) ≡ length σ + 1 = length-append σ (i ∷ []) in
    let t : length (σ ++ i ∷ []) - 1 ≡ length σ = omega arith in
    let n : eqb (length (σ ++ i ∷ [])) 0 ≡ false = ne_eqb (length (σ ++ i ∷ [])) 0 (λ e. omega arith) in
    ap (λ (b : Bool). cond b [] (take (length (σ ++ i ∷ []) - 1) (σ ++ τ) ++ last_of (σ ++ i ∷ []) ∷ [])) n
    ∙ ap (λ (m : ℕ). take m (σ ++ τ) ++ last_of (σ ++ i ∷ []) ∷ []) t
    ∙ ap (λ (π : List ℕ). π ++ last_of (σ ++ i ∷ []) ∷ []) (take-append_seam σ τ)
    ∙ ap (λ (j : ℕ). σ ++ j ∷ []) (last_snoc σ i)

-- ---- paths each after the one before
Row : List ℕ → List Item → Type 0
Row π [] = Unit {0}
Row π (x ∷ xs) = After π x.path × Row x.path xs

row_named : (all : List Item) (π : List ℕ) (xs : List Item) → Row π xs → names_after π (map (event_at all) xs) ≡ map (λ x. x.path) xs
unfolding Row names_after
row_named all π [] r = refl
row_named all π (x ∷ xs) r =
    ap (λ (ρ : List ℕ). ρ ∷ names_after ρ (map (event_at all) xs)) (after-named r.0)
    ∙ ap (λ (ρs : List (List ℕ)). x.path ∷ ρs) (row_named all x.path xs r.1)

row-append : (π : List ℕ) (xs ys : List Item) → Row π xs → ((ρ : List ℕ) → Row ρ ys) → Row π (xs ++ ys)
unfolding Row
row-append π [] ys r h = h π
row-append π (x ∷ xs) ys r h = (r.0, row-append x.path xs ys r.1 h)

row_under : (i : ℕ) (π : List ℕ) (xs : List Item) → Row π xs → Row (i ∷ π) (map (under i) xs)
unfolding Row
row_under i π [] r = tt
row_under i π (x ∷ xs) r = (after-under i r.0, row_under i x.path xs r.1)

-- ---- a tree, after any path
module _ (d : List ℕ) where
  -- the trees of a stand's positions
  abbrev below : ℕ → Stand → ℕ → List Item
  below l s i = map (under i) (tree l d (child d (view_in s.value) i))

  tree-under : (i l : ℕ) (s : Stand) → Row [] (tree l d s) → (π : List ℕ) → Row π (map (under i) (tree l d s))
  unfolding Row tree
  tree-under i zero s r π = (next [] π i, tt)
  tree-under i (suc l) s r π = (next [] π i, row_under i [] (gather (below l s) (count_in s.value) 0) r.1)

  gather-row : (g : ℕ → List Item) → ((i : ℕ) (π : List ℕ) → Row π (g i)) → (k i : ℕ) (π : List ℕ) → Row π (gather g k i)
  unfolding Row gather
  gather-row g h zero i π = tt
  gather-row g h (suc k) i π = row-append π (g i) (gather g k (suc i)) (h i π) (λ ρ. gather-row g h k (suc i) ρ)

  tree-row : (l : ℕ) (s : Stand) → Row [] (tree l d s)
  unfolding Row tree
  tree-row zero s = (first, tt)
  tree-row (suc l) s = (
    first,
    gather-row (below l s)
        (λ i π. tree-under i l (child d (view_in s.value) i) (tree-row l (child d (view_in s.value) i)) π) (count_in s.value) 0 [],
  )

pub naming : (d : List ℕ) → names_after [] (map (event_at (paths d)) (paths d)) ≡ map (λ x. x.path) (paths d)
unfolding paths
naming d = row_named (paths d) [] (paths d) (tree-row d 101 (root_stand d))
