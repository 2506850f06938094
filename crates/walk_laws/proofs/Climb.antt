-- From each event that stands one climbs to the root. Paths stand in order, and a path's container is a path too and comes before it; so it stands among the
-- events before, once, and its index is the number that the event shows.
--     prefix-events      the events of the first paths are the same among these and among all
--     climbs-up          from each of them one climbs to the root
-- Assumes nothing.
use mathlib.Core.Path.{◌≡◌, refl, sym, ap, ◌∙◌, subst}
use mathlib.Core.List.{List, [], ◌∷◌, ◌++◌, append_assoc, Memᴰ}
use mathlib.Core.Logic.{⊎_elim}
use Prim.Native.Nat.{ℕ, zero, suc, ◌+◌, ◌*◌, ◌≤◌, ◌<◌}
use native.Mathlib.Omega.{arith}
use lib.ListN.{length, get_or, length-append, get_or-append}
use lib.Seq.{append_snoc, get_or-append-add}
use Rattle.events.specs.declared.Event.{Event}
use Rattle.events.specs.Events.{event_of, numbers, wide}
use Rattle.paths.specs.Judged.{Stand, spot}
use Rattle.paths.specs.Paths.{root_stand, child, view_in, Below, here, down, Before, prefix, inside, Item, item, tree, paths, last_of, above, index_of, parent_in}
use Rattle.paths.proofs.Scan.{root-index}
use Rattle.paths.proofs.Index.{Past, past-none, past_one, index_at, snoc_of}
use Rattle.walk_laws.specs.Promise.{Ascending, key_in, value_in, event_at, events_in, depth_in, position_in, climb, climbs, path_at, Climbs}
use Rattle.walk_laws.proofs.Order.{differ, irreflexive, transitive}
use Rattle.walk_laws.proofs.Reach.{reach}
use Rattle.walk_laws.proofs.Stops.{events-length}

-- ---- where an item stands
record At (xs : List Item) (k : ℕ) : Type 0 where
  before : List Item
  item : Item
  after : List Item
  split : xs ≡ before ++ item ∷ after
  count : length before ≡ k

at : (xs : List Item) (k : ℕ) → k < length xs → At xs k
at [] k h = absurd (omega arith)
at (x ∷ xs) zero h = record { before = []; item = x; after = xs; split = refl; count = refl }
at (x ∷ xs) (suc k) h =
    let r = at xs k (omega arith) in
    record { before = x ∷ r.before; item = r.item; after = r.after; split = ap (λ (ys : List Item). x ∷ ys) r.split; count = ap suc r.count }

-- an item that is among some
among : (y : Item) {xs : List Item} → Memᴰ y xs → (bs : List Item) × ((cs : List Item) × (xs ≡ bs ++ y ∷ cs))
among y {xs = []} m = elim m [ ]
among y {xs = x ∷ xs} (mathlib.Core.List.Memᴰ.head e) = ([], (xs, ap (λ (z : Item). z ∷ xs) (sym e)))
among y {xs = x ∷ xs} (mathlib.Core.List.Memᴰ.tail m) = let (bs, (cs, e)) = among y m in (x ∷ bs, (cs, ap (λ (ys : List Item). x ∷ ys) e))

path-there : (bs : List Item) (x : Item) (cs : List Item) → path_at (bs ++ x ∷ cs) (length bs) ≡ x.path
unfolding path_at
path-there [] x cs = refl
path-there (b ∷ bs) x cs = path-there bs x cs

-- ---- the container's path leads somewhere, and comes before
leads-up : {d : List ℕ} {s t : Stand} (π : List ℕ) (i : ℕ) → Below d s (π ++ i ∷ []) t → (u : Stand) × Below d s π u
leads-up {s = s} [] i b = (s, here)
leads-up {d = d} {s = s} {t = t} (j ∷ π) i (down h b) =
    let (u, c) = leads-up {d = d} {s = child d (view_in s.value) j} {t = t} π i b in (u, down h c)

before-snoc : (π : List ℕ) (i : ℕ) → Before π (π ++ i ∷ [])
before-snoc [] i = prefix
before-snoc (j ∷ π) i = inside (before-snoc π i)

-- ---- in a list in order
past-ascending : (bs : List Item) (y : Item) (cs : List Item) → Ascending (bs ++ y ∷ cs) → Past bs y.path
unfolding Ascending
past-ascending [] y cs a = past-none y.path
past-ascending (b ∷ bs) y cs a =
    past_one b bs y.path (λ e. differ (a.0 y (mathlib.Core.List.Memᴰ.append_right bs (mathlib.Core.List.Memᴰ.head refl))) (sym e)) (past-ascending bs y cs a.1)

-- what is before an item stands in front of it
in-front : (bs : List Item) (x : Item) (cs : List Item) → Ascending (bs ++ x ∷ cs) → (y : Item) → Before y.path x.path → Memᴰ y (bs ++ x ∷ cs) →
    Memᴰ y bs
unfolding Ascending
in-front [] x cs a y b m =
    ⊎_elim (λ e. absurd (differ b (ap (λ (z : Item). z.path) e))) (λ n. absurd (irreflexive x.path (transitive (a.0 y n) b))) (mathlib.Core.List.Memᴰ.cases_cons m)
in-front (z ∷ bs) x cs a y b m =
    ⊎_elim (λ e. mathlib.Core.List.Memᴰ.head e) (λ n. mathlib.Core.List.Memᴰ.tail (in-front bs x cs a.1 y b n)) (mathlib.Core.List.Memᴰ.cases_cons m)

-- ---- the container of an item among the paths of a document
record Parent (π : List ℕ) (bs : List Item) : Type 0 where
  front : List Item
  item : Item
  back : List Item
  split : bs ≡ front ++ item ∷ back
  path : item.path ≡ π
  past : Past front π

-- its index, whatever stands behind
parent-at : {π : List ℕ} {bs : List Item} (r : Parent π bs) (ys : List Item) → index_of π (bs ++ ys) ≡ length r.front
parent-at {π} {bs} r ys =
    ap (λ (zs : List Item). index_of π (zs ++ ys)) r.split
    ∙ ap (index_of π) (append_assoc r.front (r.item ∷ r.back) ys)
    ∙ ap (λ (σ : List ℕ). index_of σ (r.front ++ r.item ∷ (r.back ++ ys))) (sym r.path)
    ∙ index_at r.front r.item (r.back ++ ys) (subst (Past r.front) (sym r.path) r.past)

module _ (d : List ℕ) (bs : List Item) (x : Item) (cs : List Item) (e : paths d ≡ bs ++ x ∷ cs) where
  order : Ascending (bs ++ x ∷ cs)
  order = subst Ascending e (reach d).order

  is-path : Memᴰ x (paths d)
  is-path = subst (λ (xs : List Item). Memᴰ x xs) (sym e) (mathlib.Core.List.Memᴰ.append_right bs (mathlib.Core.List.Memᴰ.head refl))

  parted : (y : Item) (fs gs : List Item) → bs ≡ fs ++ y ∷ gs → Parent y.path bs
  parted y fs gs f =
      let g : bs ++ x ∷ cs ≡ fs ++ y ∷ (gs ++ x ∷ cs) = ap (λ (xs : List Item). xs ++ x ∷ cs) f ∙ append_assoc fs (y ∷ gs) (x ∷ cs) in
      record { front = fs; item = y; back = gs; split = f; path = refl; past = past-ascending fs y (gs ++ x ∷ cs) (subst Ascending g order) }

  parent : (π : List ℕ) (i : ℕ) → x.path ≡ π ++ i ∷ [] → Parent π bs
  parent π i q =
      let l : length x.path ≡ length π + 1 = ap length q ∙ length-append π (i ∷ []) in
      let (u, b) = leads-up π i (subst (λ (ρ : List ℕ). Below d (root_stand d) ρ x.stand) q ((reach d).only x is-path)) in
      let y : Item = item π u in
      let m : Memᴰ y (paths d) = (reach d).all b (omega (arith, (reach d).those x is-path)) in
      let n : Memᴰ y bs =
      in-front bs x cs order y (subst (Before π) (sym q) (before-snoc π i)) (subst (λ (xs : List Item). Memᴰ y xs) e m) in
      let (fs, (gs, f)) = among y n in
      parted y fs gs f

  -- the root's own index is its container's
  root-parent : x.path ≡ [] → (ys : List Item) → parent_in (bs ++ x ∷ ys) x ≡ length bs
  unfolding above
  root-parent q ys =
      ap (λ (σ : List ℕ). index_of (above σ) (bs ++ x ∷ ys)) q
      ∙ ap (λ (σ : List ℕ). index_of σ (bs ++ x ∷ ys)) (sym q)
      ∙ index_at bs x ys (past-ascending bs x cs order)

  -- a container's index is the same in any list that goes on behind the item
  parent-index : (n : ℕ) × ((ys : List Item) → parent_in (bs ++ x ∷ ys) x ≡ n)
  parent-index = go x.path refl
    where
      go : (ρ : List ℕ) → x.path ≡ ρ → (n : ℕ) × ((ys : List Item) → parent_in (bs ++ x ∷ ys) x ≡ n)
      go [] q = (length bs, root-parent q)
      go (i ∷ π) q =
          let r = parent (above (i ∷ π)) (last_of (i ∷ π)) (q ∙ snoc_of i π) in
          (length r.front, λ ys. ap (λ (σ : List ℕ). index_of (above σ) (bs ++ x ∷ ys)) q ∙ parent-at r (x ∷ ys))

-- ---- the numbers of an event
events-append : (all xs ys : List Item) → events_in all (xs ++ ys) ≡ events_in all xs ++ events_in all ys
unfolding events_in
events-append all [] ys = refl
events-append all (x ∷ xs) ys =
    ap (λ (ns : List ℕ). numbers (event_at all x) ++ ns) (events-append all xs ys)
    ∙ sym (append_assoc (numbers (event_at all x)) (events_in all xs) (events_in all ys))

number_of : (all bs : List Item) (x : Item) (cs : List Item) (rest : List ℕ) (j : ℕ) → j < wide →
    get_or (events_in all (bs ++ x ∷ cs) ++ rest) (wide * length bs + j) 0 ≡ get_or (numbers (event_at all x)) j 0
unfolding events_in
number_of all bs x cs rest j h =
    let front : List ℕ = events_in all bs in
    let own : List ℕ = numbers (event_at all x) in
    let f : length front ≡ wide * length bs = events-length all bs in
    ap (λ (ns : List ℕ). get_or (ns ++ rest) (wide * length bs + j) 0) (events-append all bs (x ∷ cs))
    ∙ ap (λ (ns : List ℕ). get_or ns (wide * length bs + j) 0)
    (append_assoc front (own ++ events_in all cs) rest ∙ ap (λ (ns : List ℕ). front ++ ns) (append_assoc own (events_in all cs) rest))
    ∙ ap (λ (i : ℕ). get_or (front ++ (own ++ (events_in all cs ++ rest))) (i + j) 0) (sym f)
    ∙ get_or-append-add front (own ++ (events_in all cs ++ rest)) j 0
    ∙ get_or-append own (events_in all cs ++ rest) 0 j h

-- ---- the first paths of a document, whose events stand
first-path : (d : List ℕ) → path_at (paths d) 0 ≡ []
unfolding paths tree path_at
first-path d = refl

first-listed : (d : List ℕ) (xs zs : List Item) → 1 ≤ length xs → paths d ≡ xs ++ zs → path_at xs 0 ≡ []
unfolding path_at
first-listed d [] zs h e = absurd (omega arith)
first-listed d (x ∷ xs) zs h e = sym (ap (λ (ys : List Item). path_at ys 0) e) ∙ first-path d

nothing-long : (π : List ℕ) → length π ≡ 0 → π ≡ []
nothing-long [] h = refl
nothing-long (i ∷ π) h = absurd (omega arith)

module _ (d : List ℕ) (xs zs : List Item) (e : paths d ≡ xs ++ zs) where
  -- among these and among all a path has the same container
  same-event : (bs : List Item) (x : Item) (cs : List Item) → xs ≡ bs ++ x ∷ cs → event_at (paths d) x ≡ event_at xs x
  same-event bs x cs f =
      let g : paths d ≡ bs ++ x ∷ (cs ++ zs) = e ∙ ap (λ (ys : List Item). ys ++ zs) f ∙ append_assoc bs (x ∷ cs) zs in
      let (n, p) = parent-index d bs x (cs ++ zs) g in
      let q : parent_in (paths d) x ≡ parent_in xs x =
      ap (λ (ys : List Item). parent_in ys x) g ∙ p (cs ++ zs) ∙ sym (ap (λ (ys : List Item). parent_in ys x) f ∙ p cs) in
      ap (λ (m : ℕ). event_by m) q
    where
      event_by : ℕ → Event
      event_by m = event_of (spot (length x.path) (last_of x.path) m x.stand.place (key_in x.stand.key) x.stand.from) (value_in x.stand.value)

  same-events : (bs cs : List Item) → xs ≡ bs ++ cs → events_in (paths d) cs ≡ events_in xs cs
  unfolding events_in
  same-events bs [] f = refl
  same-events bs (x ∷ cs) f =
      ap (λ (v : Event). numbers v ++ events_in (paths d) cs) (same-event bs x cs f)
      ∙ ap (λ (ns : List ℕ). numbers (event_at xs x) ++ ns) (same-events (bs ++ x ∷ []) cs (f ∙ sym (append_snoc bs x cs)))

  pub prefix-events : events_in (paths d) xs ≡ events_in xs xs
  prefix-events = same-events [] xs refl

  module _ (rest : List ℕ) where
    abbrev left : List ℕ
    left = events_in xs xs ++ rest

    -- event k
    module _ (k : ℕ) (h : k < length xs) where
      there : At xs k
      there = at xs k h

      number : (j : ℕ) → j < wide → get_or left (wide * k + j) 0 ≡ get_or (numbers (event_at xs there.item)) j 0
      number j b =
          ap (λ (n : ℕ). get_or left (wide * n + j) 0) (sym there.count)
          ∙ ap (λ (ys : List Item). get_or (events_in xs ys ++ rest) (wide * length there.before + j) 0) there.split
          ∙ number_of xs there.before there.item there.after rest j b

      path-is : path_at xs k ≡ there.item.path
      path-is =
          ap (path_at xs) (sym there.count)
          ∙ ap (λ (ys : List Item). path_at ys (length there.before)) there.split
          ∙ path-there there.before there.item there.after

      depth_is : depth_in left k ≡ length (path_at xs k)
      depth_is = number 1 (omega arith) ∙ ap length (sym path-is)

      among-all : paths d ≡ there.before ++ there.item ∷ (there.after ++ zs)
      among-all = e ∙ ap (λ (ys : List Item). ys ++ zs) there.split ∙ append_assoc there.before (there.item ∷ there.after) zs

      -- the root stands first
      root-first : path_at xs k ≡ [] → k ≡ 0
      unfolding above
      root-first q =
          let p : there.item.path ≡ [] = sym path-is ∙ q in
          let n = root-parent d there.before there.item (there.after ++ zs) among-all p (there.after ++ zs) in
          let z : parent_in (paths d) there.item ≡ 0 = ap (λ (σ : List ℕ). index_of (above σ) (paths d)) p ∙ root-index d in
          omega (arith, there.count, ap (λ (ys : List Item). parent_in ys there.item) among-all)

      climb-root : path_at xs k ≡ [] → climb left k ≡ 0
      climb-root q =
          number 8 (omega arith)
          ∙ ap (λ (ys : List Item). parent_in ys there.item) there.split
          ∙ root-parent d there.before there.item (there.after ++ zs) among-all (sym path-is ∙ q) there.after
          ∙ there.count
          ∙ root-first q

      -- one climbs to the container
      module _ (i : ℕ) (π : List ℕ) (q : path_at xs k ≡ i ∷ π) where
        container : Parent (above (i ∷ π)) there.before
        container = parent d there.before there.item (there.after ++ zs) among-all (above (i ∷ π)) (last_of (i ∷ π)) (sym path-is ∙ q ∙ snoc_of i π)

        climbed : climb left k ≡ length container.front
        climbed =
            number 8 (omega arith)
            ∙ ap (λ (σ : List ℕ). index_of (above σ) xs) (sym path-is ∙ q)
            ∙ ap (index_of (above (i ∷ π))) there.split
            ∙ parent-at container (there.item ∷ there.after)

        earlier : climb left k < k
        earlier =
            let l : length there.before ≡ length container.front + suc (length container.back) =
            ap length container.split ∙ length-append container.front (container.item ∷ container.back) in
            omega (arith, climbed, there.count)

        climbed-path : path_at xs (climb left k) ≡ above (i ∷ π)
        climbed-path =
            ap (path_at xs) climbed
            ∙ ap (λ (ys : List Item). path_at ys (length container.front))
            (there.split
            ∙ ap (λ (ys : List Item). ys ++ there.item ∷ there.after) container.split
            ∙ append_assoc container.front (container.item ∷ container.back) (there.item ∷ there.after))
            ∙ path-there container.front container.item (container.back ++ there.item ∷ there.after)
            ∙ container.path

        climbed-less : length (path_at xs k) ≡ suc (length (path_at xs (climb left k)))
        climbed-less =
            ap length (q ∙ snoc_of i π) ∙ length-append (above (i ∷ π)) (last_of (i ∷ π) ∷ []) ∙ omega (arith, ap length climbed-path)

        last-is : path_at xs k ≡ path_at xs (climb left k) ++ position_in left k ∷ []
        last-is =
            let p : position_in left k ≡ last_of (i ∷ π) = number 2 (omega arith) ∙ ap last_of (sym path-is ∙ q) in
            q
            ∙ snoc_of i π
            ∙ ap (λ (ρ : List ℕ). ρ ++ last_of (i ∷ π) ∷ []) (sym climbed-path)
            ∙ ap (λ (j : ℕ). path_at xs (climb left k) ++ j ∷ []) (sym p)

    -- ---- one climb, and then to the root
    record Up (k : ℕ) : Type 0 where
      before : climb left k < k
      less : length (path_at xs k) ≡ suc (length (path_at xs (climb left k)))
      last : path_at xs k ≡ path_at xs (climb left k) ++ position_in left k ∷ []

    one_up : (k : ℕ) → k < length xs → 1 ≤ length (path_at xs k) → Up k
    one_up k h b = go (path_at xs k) refl
      where
        go : (ρ : List ℕ) → path_at xs k ≡ ρ → Up k
        go [] q = absurd (omega (arith, ap length q))
        go (i ∷ π) q = record { before = earlier k h i π q; less = climbed-less k h i π q; last = last-is k h i π q }

    ends-at-root : (n k : ℕ) → k < length xs → length (path_at xs k) ≡ n → climbs left n k ≡ 0
    unfolding climbs
    ends-at-root zero k h l = root-first k h (nothing-long (path_at xs k) l)
    ends-at-root (suc n) k h l =
        let u = one_up k h (omega arith) in
        ends-at-root n (climb left k) (omega (arith, u.before)) (omega (arith, u.less))

    not-sooner : (t k : ℕ) → k < length xs → t < length (path_at xs k) → climbs left t k ≡ 0 → ⊥
    unfolding climbs
    not-sooner zero k h l z =
        let p : path_at xs k ≡ [] = ap (path_at xs) z ∙ first-listed d xs zs (omega arith) e in
        omega (arith, ap length p)
    not-sooner (suc t) k h l z =
        let u = one_up k h (omega arith) in
        not-sooner t (climb left k) (omega (arith, u.before)) (omega (arith, u.less)) z

    pub climbs-up : (k : ℕ) → k < length xs → Climbs xs left k
    climbs-up k h =
        record {
          depth = depth_is k h;
          up = λ b. let u = one_up k h (omega (arith, depth_is k h)) in (u.before, u.last);
          ends = ap (λ (n : ℕ). climbs left n k) (depth_is k h) ∙ ends-at-root (length (path_at xs k)) k h refl;
          sooner = λ t b z. not-sooner t k h (omega (arith, depth_is k h)) z;
          root = λ z. climb-root k h (nothing-long (path_at xs k) (sym (depth_is k h) ∙ z));
        }
