-- `paths d` has exactly the paths of at most 101 positions that lead anywhere, with what they lead to, in order.
-- Assumes nothing.
use mathlib.Core.Path.{◌≡◌, refl, sym, ap, subst}
use mathlib.Core.Logic.{⊎_elim}
use mathlib.Core.List.Memᴰ
use mathlib.Core.List.{List, [], ◌∷◌, ◌++◌, map, Memᴰ}
use Prim.Native.Nat.{ℕ, zero, suc, ◌+◌, ◌≤◌, ◌<◌}
use native.Mathlib.Omega.{arith}
use lib.ListN.{length}
use Rattle.paths.specs.Judged.{Stand}
use Rattle.paths.specs.Paths.{root_stand, child, view_in, count_in, Below, here, down, Before, prefix, lower, inside, Item, item, under, gather, tree, paths}
use Rattle.walk_laws.specs.Promise.{Ascending, UpTo101, OnePlace}

-- ---- members of a gathered list
record Found (f : ℕ → List Item) (k i : ℕ) (x : Item) : Type 0 where
  at : ℕ
  from : i ≤ at
  to : at < i + k
  found : Memᴰ x (f at)

gathered : (f : ℕ → List Item) (k i : ℕ) (x : Item) → Memᴰ x (gather f k i) → Found f k i x
unfolding gather
gathered f zero i x m = absurd (Memᴰ.not-nil m)
gathered f (suc k) i x m =
    ⊎_elim (λ a. record { at = i; from = omega arith; to = omega arith; found = a })
    (λ b. let r = gathered f k (suc i) x b in record { at = r.at; from = omega arith; to = omega arith; found = r.found })
    (Memᴰ.append_cases (f i) m)

gathers : (f : ℕ → List Item) (k i j : ℕ) (x : Item) → j < k → Memᴰ x (f (i + j)) → Memᴰ x (gather f k i)
unfolding gather
gathers f zero i j x h m = absurd (omega arith)
gathers f (suc k) i zero x h m = Memᴰ.append_left (gather f k (suc i)) (subst (λ (n : ℕ). Memᴰ x (f n)) (omega arith) m)
gathers f (suc k) i (suc j) x h m =
    Memᴰ.append_right (f i) (gathers f k (suc i) j x (omega arith) (subst (λ (n : ℕ). Memᴰ x (f n)) (omega arith) m))

record From (i : ℕ) (xs : List Item) (y : Item) : Type 0 where
  item : Item
  is : y ≡ under i item
  found : Memᴰ item xs

unders : (i : ℕ) (xs : List Item) (y : Item) → Memᴰ y (map (under i) xs) → From i xs y
unders i [] y m = absurd (Memᴰ.not-nil m)
unders i (x ∷ xs) y m =
    ⊎_elim (λ e. record { item = x; is = e; found = Memᴰ.head refl })
    (λ b. let r = unders i xs y b in record { item = r.item; is = r.is; found = Memᴰ.tail r.found })
    (Memᴰ.cases_cons m)

under-mem : (i : ℕ) {x : Item} {xs : List Item} → Memᴰ x xs → Memᴰ (under i x) (map (under i) xs)
under-mem i (Memᴰ.head e) = Memᴰ.head (ap (under i) e)
under-mem i (Memᴰ.tail m) = Memᴰ.tail (under-mem i m)

-- ---- exactly the paths
record Reached (d : List ℕ) (l : ℕ) (s : Stand) (x : Item) : Type 0 where
  leads : Below d s x.path x.stand
  short : length x.path ≤ l

module _ (d : List ℕ) where
  reached-here : (l : ℕ) (s : Stand) (x : Item) → x ≡ item [] s → Reached d l s x
  reached-here l s x e = subst (Reached d l s) (sym e) (record { leads = here; short = omega arith })

  reached-down : (l : ℕ) (s : Stand) (i : ℕ) (x y : Item) → i < count_in s.value → y ≡ under i x →
      Reached d l (child d (view_in s.value) i) x → Reached d (suc l) s y
  reached-down l s i x y h e r = subst (Reached d (suc l) s) (sym e) (record { leads = down h r.leads; short = omega (arith, r.short) })

  -- the tree of a position
  abbrev below : ℕ → Stand → ℕ → List Item
  below l s i = tree l d (child d (view_in s.value) i)

  sound : (l : ℕ) (s : Stand) (x : Item) → Memᴰ x (tree l d s) → Reached d l s x
  unfolding tree
  sound zero s x m = ⊎_elim (λ e. reached-here zero s x e) (λ b. absurd (Memᴰ.not-nil b)) (Memᴰ.cases_cons m)
  sound (suc l) s x m =
      ⊎_elim (λ e. reached-here (suc l) s x e)
      (λ b.
      let g = gathered (λ i. map (under i) (below l s i)) (count_in s.value) 0 x b in
      let u = unders g.at (below l s g.at) x g.found in
      reached-down l s g.at u.item x (omega arith) u.is (sound l (child d (view_in s.value) g.at) u.item u.found))
      (Memᴰ.cases_cons m)

  head-mem : (l : ℕ) (s : Stand) → Memᴰ (item [] s) (tree l d s)
  unfolding tree
  head-mem zero s = Memᴰ.head refl
  head-mem (suc l) s = Memᴰ.head refl

  complete : {s t : Stand} {π : List ℕ} (l : ℕ) → Below d s π t → length π ≤ l → Memᴰ (item π t) (tree l d s)
  unfolding tree
  complete {s = s} l here h = head-mem l s
  complete zero (down b r) h = absurd (omega arith)
  complete {s = s} {t = t} (suc l) (down {i = i} {π = π} b r) h =
      Memᴰ.tail
      (gathers (λ j. map (under j) (below l s j)) (count_in s.value) 0 i (item (i ∷ π) t) b
      (subst (λ (n : ℕ). Memᴰ (item (i ∷ π) t) (map (under n) (below l s n))) (omega arith) (under-mem i (complete l r (omega arith)))))

-- ---- in order
asc-append : (xs ys : List Item) → Ascending xs → Ascending ys → ((x y : Item) → Memᴰ x xs → Memᴰ y ys → Before x.path y.path) →
    Ascending (xs ++ ys)
unfolding Ascending
asc-append [] ys a b h = b
asc-append (x ∷ xs) ys a b h = (
  λ y m. ⊎_elim (λ n. a.0 y n) (λ n. h x y (Memᴰ.head refl) n) (Memᴰ.append_cases xs m),
  asc-append xs ys a.1 b (λ z y m n. h z y (Memᴰ.tail m) n),
)

asc-under : (i : ℕ) (xs : List Item) → Ascending xs → Ascending (map (under i) xs)
unfolding Ascending
asc-under i [] a = tt
asc-under i (x ∷ xs) a = (
  λ y m. let u = unders i xs y m in subst (λ (z : Item). Before (i ∷ x.path) z.path) (sym u.is) (inside (a.0 u.item u.found)),
  asc-under i xs a.1,
)

module _ (g : ℕ → List Item) where
  abbrev trees : ℕ → List Item
  trees j = map (under j) (g j)

  -- trees under rising positions
  asc-gather : ((j : ℕ) → Ascending (g j)) → (k i : ℕ) → Ascending (gather trees k i)
  unfolding gather Ascending
  asc-gather a zero i = tt
  asc-gather a (suc k) i =
      asc-append (trees i) (gather trees k (suc i)) (asc-under i (g i) (a i)) (asc-gather a k (suc i))
      λ x y m n.
      let u = unders i (g i) x m in
      let r = gathered trees k (suc i) y n in
      let w = unders r.at (g r.at) y r.found in
      subst (λ (z : Item). Before z.path y.path) (sym u.is)
      (subst (λ (z : Item). Before (i ∷ u.item.path) z.path) (sym w.is) (lower (omega arith)))

  -- the root's path is before every path below it
  root-first : (k i : ℕ) (y : Item) → Memᴰ y (gather trees k i) → Before [] y.path
  root-first k i y m =
      let r = gathered trees k i y m in
      let w = unders r.at (g r.at) y r.found in
      subst (λ (z : Item). Before [] z.path) (sym w.is) prefix

ascending : (d : List ℕ) (l : ℕ) (s : Stand) → Ascending (tree l d s)
unfolding tree Ascending
ascending d zero s = (λ y m. absurd (Memᴰ.not-nil m), tt)
ascending d (suc l) s = (
  λ y m. root-first (below d l s) (count_in s.value) 0 y m,
  asc-gather (below d l s) (λ i. ascending d l (child d (view_in s.value) i)) (count_in s.value) 0,
)

-- ---- of a document
pub reach : (d : List ℕ) → UpTo101 d (paths d)
unfolding paths
reach d =
    record {
      all = λ b h. complete d 101 b h;
      only = λ x m. (sound d 101 (root_stand d) x m).leads;
      those = λ x m. (sound d 101 (root_stand d) x m).short;
      order = ascending d 101 (root_stand d);
    }

-- a path leads to one place only, from anywhere
leads-once : {d : List ℕ} {s t u : Stand} {π : List ℕ} → Below d s π t → Below d s π u → t ≡ u
leads-once here here = refl
leads-once (down a b) (down c e) = leads-once b e

pub one_place : OnePlace
one_place d π s t a b = leads-once a b
