-- Paths (document 01, 'The walk'). A path is a list of positions from the root, each below the count of the container that those before it reach; the
-- empty list is the root's. What stands at a position is what `elem_at` and `key_at` of the crate jsonb answer there, so that elements define paths.
-- Assumes nothing.
use Rattle.std.specs.Prelude.{Bool, true, false, cond, List, [], ◌∷◌, ◌++◌, map, ℕ, zero, suc, ◌<◌, ltb, eqb, length}
use Rattle.value.specs.declared.View.{View}
use Rattle.value.specs.declared.Value.{Value}
use Rattle.value.specs.declared.Value.TheVariants as value
use Rattle.content.specs.Reading.{kind, view}
use Rattle.entry.specs.Entries.{place_at, key_place_at, value_start}
use Rattle.gate.specs.Said.{Said, says, nothing, refuses, read_said}
use Rattle.jsonb.specs.Views.{root_read, elem_at, key_at}
use Rattle.events.specs.Events.{no_key}
use Rattle.paths.specs.Judged.{Stand, Judged, bad, judged, node}
use Rattle.events.specs.Listing.{Listing, end}

-- ---- what stands at the root and at a position of a container. The root has no entry: its place is 0, and its value
-- starts past its type byte; the empty document has neither, and its null starts at 0
abbrev pub root_stand : List ℕ → Stand
root_stand d = record { place = 0; key_place = 0; key = says no_key; value = read_said (root_read d); from = cond (eqb (length d) 0) 0 1 }

abbrev pub child : List ℕ → View → ℕ → Stand
child d v i =
    record {
      place = place_at v i;
      key_place = key_place_at v i;
      key = cond v.kind.object (key_at d v i) (says no_key);
      value = elem_at d v i;
      from = value_start d v i;
    }

-- ---- the container that a value is, and how many positions it has; a scalar has none
abbrev pub view_of : Value → View
view_of (value.Scalar t s) = view 0 0 0 (kind false false)
view_of (value.Container v) = v

abbrev pub count_of : Value → ℕ
count_of (value.Scalar t s) = 0
count_of (value.Container v) = v.count

abbrev pub view_in : Said Value → View
view_in (says x) = view_of x
view_in nothing = view 0 0 0 (kind false false)
view_in (refuses n) = view 0 0 0 (kind false false)

abbrev pub count_in : Said Value → ℕ
count_in (says x) = count_of x
count_in nothing = 0
count_in (refuses n) = 0

-- ---- what a path is, and their order. The promise goes by `paths` below, which the theorem of walk_laws shows to be all paths in this sense and order
-- from what stands at s, the path leads to what stands at t
pub data Below (d : List ℕ) : Stand → List ℕ → Stand → Type 0 where
  here : {s : Stand} → Below d s [] s
  down : {s t : Stand} {i : ℕ} {π : List ℕ} → i < count_in s.value → Below d (child d (view_in s.value) i) π t → Below d s (i ∷ π) t

-- a path comes before its extensions, and otherwise the lower position decides
pub data Before : List ℕ → List ℕ → Type 0 where
  prefix : {i : ℕ} {π : List ℕ} → Before [] (i ∷ π)
  lower : {i j : ℕ} {π ρ : List ℕ} → i < j → Before (i ∷ π) (j ∷ ρ)
  inside : {i : ℕ} {π ρ : List ℕ} → Before π ρ → Before (i ∷ π) (i ∷ ρ)

-- ---- all paths in order, faulty ones too. Paths of 101 positions are there to be refused
pub record Item : Type 0 where
  pub path : List ℕ
  pub stand : Stand

abbrev pub item : List ℕ → Stand → Item
item π s = record { path = π; stand = s }

-- an item seen from one level up
abbrev pub under : ℕ → Item → Item
under i x = item (i ∷ x.path) x.stand

unfoldable pub gather : (ℕ → List Item) → ℕ → ℕ → List Item
gather f zero i = []
gather f (suc k) i = f i ++ gather f k (suc i)

-- what stands at s and all below it, with paths of at most so many positions
unfoldable pub tree : ℕ → List ℕ → Stand → List Item
tree zero d s = item [] s ∷ []
tree (suc l) d s = item [] s ∷ gather (λ i. map (under i) (tree l d (child d (view_in s.value) i))) (count_in s.value) 0

unfoldable pub paths : List ℕ → List Item
paths d = tree 101 d (root_stand d)

-- ---- a path's last position, and the path without it, which is that of the container; the root's is its own
unfoldable pub last_of : List ℕ → ℕ
last_of [] = 0
last_of (i ∷ []) = i
last_of (i ∷ j ∷ π) = last_of (j ∷ π)

unfoldable pub above : List ℕ → List ℕ
above [] = []
above (i ∷ []) = []
above (i ∷ j ∷ π) = i ∷ above (j ∷ π)

-- ---- the index of a path in a list: how many items stand before it
unfoldable pub is_same : List ℕ → List ℕ → Bool
is_same [] [] = true
is_same [] (j ∷ ρ) = false
is_same (i ∷ π) [] = false
is_same (i ∷ π) (j ∷ ρ) = cond (eqb i j) (is_same π ρ) false

unfoldable pub index_of : List ℕ → List Item → ℕ
index_of π [] = 0
index_of π (x ∷ xs) = cond (is_same π x.path) 0 (suc (index_of π xs))

-- the index of the container (document 02, W6). An event is listed for each item, in their order, so that this is the index of the container's event
abbrev pub parent_in : List Item → Item → ℕ
parent_in xs x = index_of (above x.path) xs

-- ---- what is said of a path among all, 11 before all else, and of paths in order up to the first fault
unfoldable pub said : List ℕ → List Item → Item → Judged
said d all x =
    cond (ltb 100 (length x.path)) (bad 11 x.stand.place) (judged d (length x.path) (last_of x.path) (parent_in all x) x.stand)

unfoldable pub scan : List ℕ → List Item → List Item → Listing
scan d all [] = end
scan d all (x ∷ xs) = node (said d all x) x.stand.place (λ w. scan d all xs)
