-- The walk by levels lists what a scan of all paths lists: `listing d ≡ scan d (paths d) (paths d)`, by induction on the levels left. What is below a value
-- is told by the value that its path was judged by, and the index of its event by what stands before it: an event for each item, unless there is a fault,
-- and then nothing follows.
-- Assumes nothing.
use mathlib.Core.Path.{◌≡◌, refl, sym, ap, subst, ◌∙◌}
use mathlib.Core.Bool.{Bool, cond}
use mathlib.Core.List.{List, [], ◌∷◌, ◌++◌, map, map-append, append-nil, append_assoc}
use Prim.Native.Nat.{ℕ, zero, suc, ◌+◌, ◌-◌, ◌≤◌, ◌<◌}
use native.Mathlib.Omega.{arith}
use lib.ListN.{length, length-append}
use lib.Seq.{append_snoc}
use borrow.Author.Tests.{le-ltb, lt-ltb}
use Rattle.value.specs.declared.View.{View}
use Rattle.value.specs.declared.Span.{Span}
use Rattle.value.specs.declared.Value.{Value}
use Rattle.entry.specs.Entries.{place_at}
use Rattle.gate.specs.Said.{Said, says, nothing, refuses}
use Rattle.events.specs.Events.{event_of}
use Rattle.paths.specs.Judged.{Stand, Judged, bad, good, spot, text_then, value_judged, key_judged, judged, node}
use Rattle.std.specs.Prelude.{Result, Ok, Err, ⊤}
use Rattle.events.specs.Text.{text_at, value_text}
use Rattle.events.specs.declared.Spot.{Spot}
use Rattle.events.specs.Listing.{Listing, end, fault, event}
use Rattle.paths.specs.Levels.{◌then◌, size, entries, entry_stand, entry_listing, children, listing}
use Rattle.paths.specs.Paths.{root_stand, child, view_in, count_in, Item, item, under, gather, tree, paths, last_of, above, is_same, index_of, parent_in, said, scan}
use Rattle.paths.proofs.Index.{behind, Past, past-none, past_one, past-append, past-behind, index_at, last_snoc, above-snoc, longer, same_next}
use Rattle.paths.proofs.Whole.{SaidStands, root_stands, elem-stands, entry-child}

-- ---- listings one after the other: what follows counts where there is no fault before it
Unbroken : Listing → Type 0
Unbroken end = Unit {0}
Unbroken (fault n p) = ⊥
Unbroken (event e p l) = Unbroken l

then_same : (l m k : Listing) → (Unbroken l → m ≡ k) → l then m ≡ l then k
unfolding ◌then◌ Unbroken
then_same end m k h = h tt
then_same (fault n p) m k h = refl
then_same (event e p l) m k h = ap (event e p) (then_same l m k h)

-- ---- a scan of two lists
node-then : (j : Judged) (p : ℕ) (l m : Listing) → node j p (λ w. l) then m ≡ node j p (λ w. l then m)
unfolding ◌then◌
node-then (bad n q) p l m = refl
node-then (good e x) p l m = refl

node-size : (j : Judged) (p : ℕ) (l : Listing) (k : ℕ) → (Unbroken l → size l ≡ k) → Unbroken (node j p (λ w. l)) → size (node j p (λ w. l)) ≡ suc k
unfolding Unbroken size
node-size (bad n q) p l k h u = absurd u
node-size (good e x) p l k h u = ap suc (h u)

module _ (d : List ℕ) (all : List Item) where
  scan-append : (xs ys : List Item) → scan d all (xs ++ ys) ≡ scan d all xs then scan d all ys
  unfolding scan ◌then◌
  scan-append [] ys = refl
  scan-append (x ∷ xs) ys =
      ap (λ (l : Listing). node (said d all x) x.stand.place (λ w. l)) (scan-append xs ys)
      ∙ sym (node-then (said d all x) x.stand.place (scan d all xs) (scan d all ys))

  -- an event for each item
  scan-size : (xs : List Item) → Unbroken (scan d all xs) → size (scan d all xs) ≡ length xs
  unfolding scan size
  scan-size [] u = refl
  scan-size (x ∷ xs) u = node-size (said d all x) x.stand.place (scan d all xs) (length xs) (scan-size xs) u

behind-under : (π : List ℕ) (i : ℕ) (xs : List Item) → map (behind π) (map (under i) xs) ≡ map (behind (π ++ i ∷ [])) xs
behind-under π i [] = refl
behind-under π i (x ∷ xs) =
    ap (λ (ρ : List ℕ). item ρ x.stand ∷ map (behind π) (map (under i) xs)) (sym (append_snoc π i x.path))
    ∙ ap (λ (ys : List Item). behind (π ++ i ∷ []) x ∷ ys) (behind-under π i xs)

behind-nil : (xs : List Item) → map (behind []) xs ≡ xs
behind-nil [] = refl
behind-nil (x ∷ xs) = ap (λ (ys : List Item). x ∷ ys) (behind-nil xs)

-- ---- what is said of a path that is too long, and of one that is not
module _ (d : List ℕ) (all : List Item) (x : Item) where
  abbrev by : Bool → Judged
  by b = cond b (bad 11 x.stand.place) (judged d (length x.path) (last_of x.path) (parent_in all x) x.stand)

  pub said-deep : 100 < length x.path → said d all x ≡ bad 11 x.stand.place
  unfolding said
  said-deep h = ap by (lt-ltb 100 (length x.path) h)

  pub said-near : length x.path ≤ 100 → said d all x ≡ judged d (length x.path) (last_of x.path) (parent_in all x) x.stand
  unfolding said
  said-near h = ap by (le-ltb 100 (length x.path) h)

-- ---- what is below a path may be told by the value that stands there
module _ (d : List ℕ) (p : ℕ) (f g : Value → Listing) where
  -- below a text that breaks nothing is listed
  node-text : (t : Result ⊤ ℕ) (j : Judged) → node j p f ≡ node j p g → node (text_then t j) p f ≡ node (text_then t j) p g
  node-text (Ok u) j h = h
  node-text (Err q) j h = refl

  node-value : (s : Spot) (x : Said Value) → ((y : Value) → x ≡ says y → f y ≡ g y) → node (value_judged d s x) p f ≡ node (value_judged d s x) p g
  node-value s (says y) h = node-text (value_text d y) (good (event_of s y) y) (ap (event (event_of s y) p) (h y refl))
  node-value s nothing h = refl
  node-value s (refuses n) h = refl

  node-key : (depth i m : ℕ) (s : Stand) (k : Said Span) → ((y : Value) → s.value ≡ says y → f y ≡ g y) →
      node (key_judged d depth i m s k) p f ≡ node (key_judged d depth i m s k) p g
  node-key depth i m s (says k) h =
      node-text (text_at d k) (value_judged d (spot depth i m s.place k s.from) s.value)
      (node-value (spot depth i m s.place k s.from) s.value h)
  node-key depth i m s nothing h = refl
  node-key depth i m s (refuses n) h = refl

-- ---- a scan of a tree that stands among all items, behind items that are not in it
module _ (d : List ℕ) (all : List Item) where
  -- what stands at the end of a path, in the container of event m and at event n, with so many levels left for it and what is below
  top : ℕ → List ℕ → Stand → ℕ → ℕ → Listing
  top zero π s m n = fault 11 s.place
  top (suc l) π s m n = node (judged d (length π) (last_of π) m s) s.place (children l d n)

  top-entry : (v : View) (π : List ℕ) (i l m n : ℕ) → length π + suc l ≡ 101 → entry_stand d v i ≡ child d v i →
      top l (π ++ i ∷ []) (child d v i) m n ≡ entry_listing l d v m i n
  unfolding top entry_listing children
  top-entry v π i zero m n h e = refl
  top-entry v π i (suc l) m n h e =
      let g : length (π ++ i ∷ []) ≡ length π + 1 = length-append π (i ∷ []) in
      let f : length (π ++ i ∷ []) ≡ 100 - l = omega arith in
      ap (λ (k : ℕ). node (judged d k (last_of (π ++ i ∷ [])) m (child d v i)) (place_at v i) (children l d n)) f
      ∙ ap (λ (j : ℕ). node (judged d (100 - l) j m (child d v i)) (place_at v i) (children l d n)) (last_snoc π i)
      ∙ ap (λ (s : Stand). node (judged d (100 - l) i m s) (place_at v i) (children l d n)) (sym e)

  -- what holds of the trees with so many levels left
  abbrev Scanned : ℕ → Type 0
  Scanned l = (π : List ℕ) (s : Stand) (bs zs : List Item) → SaidStands d s.value → length π + l ≡ 101 →
      all ≡ bs ++ (map (behind π) (tree l d s) ++ zs) → ((ρ : List ℕ) → Past bs (π ++ ρ)) →
      scan d all (map (behind π) (tree l d s)) ≡ top l π s (index_of (above π) all) (length bs)

  -- one level more
  module _ (l : ℕ) (ih : Scanned l) (π : List ℕ) (s : Stand) (bs zs : List Item) (w : SaidStands d s.value) (h : length π + suc l ≡ 101)
      (past : (ρ : List ℕ) → Past bs (π ++ ρ)) where
    abbrev view : View
    view = view_in s.value

    abbrev count : ℕ
    count = count_in s.value

    abbrev subtree : ℕ → List Item
    subtree i = tree l d (child d view i)

    abbrev kids : ℕ → List Item
    kids i = map (under i) (subtree i)

    -- the path's own index
    own-index : (xs : List Item) → all ≡ bs ++ item π s ∷ xs → index_of π all ≡ length bs
    own-index xs e =
        ap (index_of π) e ∙ index_at bs (item π s) xs (λ ys. ap (λ (σ : List ℕ). index_of σ (bs ++ ys)) (sym (append-nil π)) ∙ past [] ys ∙ ap (λ (σ : List ℕ). length bs + index_of σ ys) (append-nil π))

    module _ (own : index_of π all ≡ length bs) where
      abbrev entry : ℕ → ℕ → Listing
      entry = entry_listing l d view (length bs)

      -- the tree of a position, behind cs
      each : (i : ℕ) (cs ys : List Item) → i < count → all ≡ cs ++ (map (behind π) (kids i) ++ ys) → ((ρ : List ℕ) → Past cs (π ++ i ∷ ρ)) →
          scan d all (map (behind π) (kids i)) ≡ entry i (length cs)
      each i cs ys b e p =
          let g : length (π ++ i ∷ []) ≡ length π + 1 = length-append π (i ∷ []) in
          let u : map (behind π) (kids i) ≡ map (behind (π ++ i ∷ [])) (subtree i) = behind-under π i (subtree i) in
          ap (scan d all) u
          ∙ ih (π ++ i ∷ []) (child d view i) cs ys (elem-stands d view i) (omega arith) (e ∙ ap (λ (xs : List Item). cs ++ (xs ++ ys)) u)
          (λ ρ. subst (Past cs) (sym (append_snoc π i ρ)) (p ρ))
          ∙ ap (λ (m : ℕ). top l (π ++ i ∷ []) (child d view i) m (length cs)) (ap (λ (ρ : List ℕ). index_of ρ all) (above-snoc π i) ∙ own)
          ∙ top-entry view π i l (length bs) (length cs) h (entry-child d s.value w i b)

      -- the trees of k positions from i on
      trees : (k i : ℕ) (cs : List Item) → i + k ≡ count → all ≡ cs ++ (map (behind π) (gather kids k i) ++ zs) →
          ((j : ℕ) → i ≤ j → (ρ : List ℕ) → Past cs (π ++ j ∷ ρ)) → scan d all (map (behind π) (gather kids k i)) ≡ entries entry k i (length cs)
      unfolding scan gather entries
      trees zero i cs q e p = refl
      trees (suc k) i cs q e p =
          let first : List Item = map (behind π) (kids i) in
          let others : List Item = map (behind π) (gather kids k (suc i)) in
          let a : map (behind π) (kids i ++ gather kids k (suc i)) ≡ first ++ others = map-append (behind π) (kids i) (gather kids k (suc i)) in
          let f : all ≡ cs ++ (first ++ (others ++ zs)) = e ∙ ap (λ (ys : List Item). cs ++ (ys ++ zs)) a ∙ ap (λ (ys : List Item). cs ++ ys) (append_assoc first others zs) in
          let c : scan d all first ≡ entry i (length cs) = each i cs (others ++ zs) (omega arith) f (p i (omega arith)) in
          let n : length (cs ++ first) ≡ length cs + length first = length-append cs first in
          let m : Unbroken (entry i (length cs)) → length (cs ++ first) ≡ length cs + size (entry i (length cs)) =
          λ u. n ∙ ap (λ (z : ℕ). length cs + z) (sym (scan-size d all first (subst Unbroken (sym c) u)) ∙ ap size c) in
          ap (scan d all) a
          ∙ scan-append d all first others
          ∙ ap (λ (x : Listing). x then scan d all others) c
          ∙ ap (λ (x : Listing). entry i (length cs) then x)
          (trees k (suc i) (cs ++ first) (omega arith) (f ∙ sym (append_assoc cs first (others ++ zs)))
          (λ j b ρ. past-append cs first (π ++ j ∷ ρ) (p j (omega arith) ρ) (passed i j b ρ)))
          ∙ then_same (entry i (length cs)) (entries entry k (suc i) (length (cs ++ first))) (entries entry k (suc i) (length cs + size (entry i (length cs))))
          (λ u. ap (entries entry k (suc i)) (m u))
        where
          passed : (i j : ℕ) → suc i ≤ j → (ρ : List ℕ) → Past (map (behind π) (kids i)) (π ++ j ∷ ρ)
          passed i j b ρ =
              subst (λ (ys : List Item). Past ys (π ++ j ∷ ρ)) (sym (behind-under π i (subtree i)))
              (past-behind (π ++ i ∷ []) (π ++ j ∷ ρ)
              (λ σ x. let y : j ≡ i = same_next π j i ρ σ (x ∙ append_snoc π i σ) in omega arith) (subtree i))

    below : (e : all ≡ bs ++ item π s ∷ (map (behind π) (gather kids count 0) ++ zs)) → (y : Value) → s.value ≡ says y →
        scan d all (map (behind π) (gather kids count 0)) ≡ children l d (length bs) y
    unfolding children
    below e y q =
        let c : length (bs ++ item π s ∷ []) ≡ length bs + 1 = length-append bs (item π s ∷ []) in
        trees (own-index (map (behind π) (gather kids count 0) ++ zs) e) count 0 (bs ++ item π s ∷ []) (omega arith)
        (e ∙ sym (append_snoc bs (item π s) (map (behind π) (gather kids count 0) ++ zs)))
        (λ j b ρ. past-append bs (item π s ∷ []) (π ++ j ∷ ρ) (past (j ∷ ρ)) (past_one (item π s) [] (π ++ j ∷ ρ) (longer π j ρ) (past-none (π ++ j ∷ ρ))))
        ∙ ap (entries (entry_listing l d view (length bs)) count 0) c
        ∙ ap (λ (x : Said Value). entries (entry_listing l d (view_in x) (length bs)) (count_in x) 0 (length bs + 1)) q

    scan-more : all ≡ bs ++ (map (behind π) (tree (suc l) d s) ++ zs) →
        scan d all (map (behind π) (tree (suc l) d s)) ≡ top (suc l) π s (index_of (above π) all) (length bs)
    unfolding tree top scan
    scan-more e =
        let rest : List Item = map (behind π) (gather kids count 0) in
        let f : all ≡ bs ++ item π s ∷ (rest ++ zs) = e ∙ ap (λ (ρ : List ℕ). bs ++ item ρ s ∷ (rest ++ zs)) (append-nil π) in
        ap (λ (ρ : List ℕ). node (said d all (item ρ s)) s.place (λ y. scan d all rest)) (append-nil π)
        ∙ ap (λ (j : Judged). node j s.place (λ y. scan d all rest)) (said-near d all (item π s) (omega arith))
        ∙ node-key d s.place (λ y. scan d all rest) (children l d (length bs)) (length π) (last_of π) (index_of (above π) all) s s.key (below f)

  scan-tree : (l : ℕ) → Scanned l
  unfolding tree top scan
  scan-tree zero π s bs zs w h e p =
      ap (λ (ρ : List ℕ). node (said d all (item ρ s)) s.place (λ y. end)) (append-nil π)
      ∙ ap (λ (j : Judged). node j s.place (λ y. end)) (said-deep d all (item π s) (omega arith))
  scan-tree (suc l) π s bs zs w h e p = scan-more l (scan-tree l) π s bs zs w h p e

-- the root is first
pub root-index : (d : List ℕ) → index_of [] (paths d) ≡ 0
unfolding paths tree index_of is_same
root-index d = refl

pub listing-scan : (d : List ℕ) → listing d ≡ scan d (paths d) (paths d)
unfolding listing paths top last_of above
listing-scan d =
    let t : List Item = tree 101 d (root_stand d) in
    let n : map (behind []) t ≡ t = behind-nil t in
    sym
    (ap (scan d t) (sym n)
    ∙ scan-tree d t 101 [] (root_stand d) [] [] (root_stands d) refl (sym (append-nil (map (behind []) t) ∙ n)) (λ ρ. past-none ρ)
    ∙ ap (λ (m : ℕ). node (judged d 0 0 m (root_stand d)) 0 (children 100 d 0)) (root-index d))
