-- A walk over the entries of a container, as its loop goes: what is left to list, laid over the present list, is the whole, laid over the first.
--     Going                  the loop's invariant, for arrays and objects
--     start, over, deep      the loop begins, ends, and has no level left
--     stopped, on            it stops at an entry or below it, and takes a turn
-- Assumes nothing.
use mathlib.Core.Path.{◌≡◌, refl, sym, ap, ◌∙◌}
use mathlib.Core.List.{List}
use Prim.Native.Nat.{ℕ, zero, suc, ◌+◌, ◌-◌, ◌≤◌, ◌<◌}
use native.Mathlib.Omega.{arith}
use native.Mathlib.Nat.{sub-zero, sub-eq-zero_of_le}
use native.Mathlib.Numerals.{add-one, sub-one}
use lib.ListN.{length}
use Rattle.std.specs.Prelude.{Option}
use Rattle.value.specs.declared.View.{View}
use Rattle.value.specs.declared.Value.TheVariants.{Container}
use Rattle.entry.specs.Entries.{place_at, entry_read}
use Rattle.events.specs.Walked.{Done, Stopped}
use Rattle.paths.specs.Judged.{judged, node, childless}
use Rattle.events.specs.Listing.{Listing}
use Rattle.paths.specs.Levels.{◌then◌, size, entries, entry_stand, entry_listing, children}
use Rattle.events.specs.Lay.{Laid, laid, lay}
use Rattle.root_event.specs.Root.{leads_to}
use Rattle.walk.specs.Course.{below}
use Rattle.walk.proofs.Node.{next, lay-then, done-size, apart}

-- with l levels left, the walk of v, whose own event is the one before, began at event n₀ with the list out₀, and stands before entry i, at event n, with
-- the list out
pub record Going (l : ℕ) (d : List ℕ) (v : View) (out₀ : List ℕ) (n₀ : ℕ) (out : List ℕ) (n i : ℕ) : Type 0 where
  pub within : i ≤ v.count
  pub same : length out ≡ length out₀
  pub left : lay (entries (entry_listing l d v (n₀ - 1)) (v.count - i) i n) out n ≡ lay (children l d (n₀ - 1) (Container v)) out₀ n₀

one_more : (f : ℕ → ℕ → Listing) (k i n : ℕ) → i < k → entries f (k - i) i n ≡ f i n then entries f (k - (i + 1)) (i + 1) (n + size (f i n))
unfolding entries
one_more f k i n h =
    let e : k - i ≡ suc (k - (i + 1)) = omega arith in
    ap (λ (m : ℕ). entries f m i n) e ∙ ap (λ (j : ℕ). f i n then entries f (k - (i + 1)) j (n + size (f i n))) (sym (add-one i))

-- an entry where a level is left
entry-with : (d : List ℕ) (v : View) (m i n l : ℕ) → (l ≡ 0 → ⊥) → l ≤ 100 →
    entry_listing l d v m i n ≡ node (judged d (101 - l) i m (entry_stand d v i)) (place_at v i) (children (l - 1) d n)
unfolding entry_listing children
entry-with d v m i n zero f h = absurd (f refl)
entry-with d v m i n (suc k) f h =
    let e : 100 - k ≡ 101 - suc k = omega arith in
    ap (λ (a : ℕ). node (judged d a i m (entry_stand d v i)) (place_at v i) (children k d n)) e
    ∙ ap (λ (j : ℕ). node (judged d (101 - suc k) i m (entry_stand d v i)) (place_at v i) (children j d n)) (sym (sub-one (suc k)))

-- where a walk stops, by parts
pub told : {f g p q n m : ℕ} {o : List ℕ} → f ≡ g → p ≡ q → n ≡ m → laid (Stopped f p n) o ≡ laid (Stopped g q m) o
told {f} {g} {p} {q} {n} {m} {o} a b c = ap (λ (x : ℕ). laid (Stopped x p n) o) a ∙ ap (λ (x : ℕ). laid (Stopped g x n) o) b ∙ ap (λ (x : ℕ). laid (Stopped g q x) o) c

module _ {l : ℕ} {d : List ℕ} {v : View} {out₀ : List ℕ} {n₀ : ℕ} where
  pub start : 1 ≤ n₀ → Going l d v out₀ n₀ out₀ n₀ 0
  unfolding children
  start h =
      let e : n₀ ≡ n₀ - 1 + 1 = omega arith in
      record {
        within = omega arith;
        same = refl;
        left =
            ap (λ (k : ℕ). lay (entries (entry_listing l d v (n₀ - 1)) k 0 n₀) out₀ n₀) (sub-zero v.count)
            ∙ ap (λ (k : ℕ). lay (entries (entry_listing l d v (n₀ - 1)) v.count 0 k) out₀ n₀) e;
      }

  module _ {out : List ℕ} {n i : ℕ} (g : Going l d v out₀ n₀ out n i) where
    -- the container's event
    abbrev m : ℕ
    m = n₀ - 1

    abbrev entry : ℕ → ℕ → Listing
    entry = entry_listing l d v m

    abbrev whole : Laid
    whole = lay (children l d m (Container v)) out₀ n₀

    pub over : v.count ≤ i → whole ≡ laid (Done n) out
    unfolding lay entries
    over h = sym g.left ∙ ap (λ (k : ℕ). lay (entries entry k i n) out n) (sub-eq-zero_of_le h)

    -- what follows entry i
    abbrev rest : List ℕ → ℕ → Laid
    rest = lay (entries entry (v.count - (i + 1)) (i + 1) (n + size (entry i n)))

    module _ (h : i < v.count) where
      goes : {x : Laid} → lay (entry i n) out n ≡ x → whole ≡ next x rest
      goes e =
          sym g.left
          ∙ ap (λ (x : Listing). lay x out n) (one_more entry v.count i n h)
          ∙ lay-then (entry i n) (entries entry (v.count - (i + 1)) (i + 1) (n + size (entry i n))) out n
          ∙ ap (λ (x : Laid). next x rest) e

      pub deep : l ≡ 0 → whole ≡ laid (Stopped 11 (place_at v i) n) out
      unfolding lay entry_listing
      deep z = goes (ap (λ (k : ℕ). lay (entry_listing k d v m i n) out n) z)

      -- what the entry by itself was laid to
      module _ (f : l ≡ 0 → ⊥) (b : l ≤ 100) {x : Laid} (a : lay (node (judged d (101 - l) i m (entry_stand d v i)) (place_at v i) childless) out n ≡ x) where
        entered : lay (entry i n) out n ≡ next x (lay (below (l - 1) d n (leads_to (entry_read d v i))))
        entered =
            ap (λ (x : Listing). lay x out n) (entry-with d v m i n l f b)
            ∙ apart (l - 1) d (place_at v i) n (101 - l) i m (entry_stand d v i) (entry_read d v i) refl out a

        -- it stops there
        pub stopped : {q p k : ℕ} {o : List ℕ} → x ≡ laid (Stopped q p k) o → whole ≡ laid (Stopped q p k) o
        stopped e = goes (entered ∙ ap (λ (x : Laid). next x (lay (below (l - 1) d n (leads_to (entry_read d v i))))) e)

        -- it was listed, and what is below it was laid to y; n + 1 - 1 is its event as the callee counts it
        module _ {o : List ℕ} (e : x ≡ laid (Done (n + 1)) o) {u : Option View} (ue : u ≡ leads_to (entry_read d v i)) {y : Laid}
            (c : lay (below (l - 1) d (n + 1 - 1) u) o (n + 1) ≡ y) where
          came : lay (entry i n) out n ≡ y
          came =
              let k : n ≡ n + 1 - 1 = omega arith in
              entered ∙ ap (λ (x : Laid). next x (lay (below (l - 1) d n (leads_to (entry_read d v i))))) e
              ∙ ap (λ (w : Option View). lay (below (l - 1) d n w) o (n + 1)) (sym ue)
              ∙ ap (λ (j : ℕ). lay (below (l - 1) d j u) o (n + 1)) k
              ∙ c

          pub stopped-below : {q p k : ℕ} {z : List ℕ} → y ≡ laid (Stopped q p k) z → whole ≡ laid (Stopped q p k) z
          stopped-below e = goes came ∙ ap (λ (x : Laid). next x rest) e

          pub on : {k : ℕ} {z : List ℕ} → y ≡ laid (Done k) z → length z ≡ length out → Going l d v out₀ n₀ z k (i + 1)
          on {k} {z} e s =
              let counted : k ≡ n + size (entry i n) = done-size (entry i n) out n (came ∙ e) in
              record {
                within = omega arith;
                same = s ∙ g.same;
                left =
                    ap (λ (j : ℕ). lay (entries entry (v.count - (i + 1)) (i + 1) j) z k) counted
                    ∙ sym (goes came ∙ ap (λ (x : Laid). next x rest) e);
              }
