-- What the theorem shuts out: a walk that refuses all, one that lists only the root, one that reports an invented count (document 01, 'How tight the
-- promises are'). Then paths that share bytes, a document above the length limit, the length of the lent list, and climbing by the numbers of the list alone.
-- Assumes nothing.
use mathlib.Core.Path.{◌≡◌, refl, ap, ◌∙◌, subst}
use mathlib.Core.List.Memᴰ
use mathlib.Core.List.{List, [], ◌∷◌, ◌++◌, map, Memᴰ}
use Prim.Native.Nat.{ℕ, zero, suc, ◌+◌, ◌*◌, ◌-◌, ◌≤◌, ◌<◌}
use native.Mathlib.Omega.{arith}
use lib.ListN.{length, drop, length-append, length-drop, length-map}
use borrow.Author.Tests.{lt-ltb}
use Rattle.rfc3629.specs.Grammar.{none}
use Rattle.codes.specs.declared.types.JsonbType.TheVariants as type
use Rattle.value.specs.declared.Scalar.TheVariants as scalar
use Rattle.value.specs.declared.Value.TheVariants as value
use Rattle.std.specs.Prelude.{Err}
use Rattle.refusal.specs.declared.Refusal.TheVariants as refusals
use Rattle.gate.specs.Said.{read_said}
use Rattle.jsonb.specs.Views.{root_read}
use Rattle.events.specs.Walked.{Walked, Done, Stopped}
use Rattle.events.specs.Events.{no_key, wide}
use Rattle.paths.specs.Judged.{Stand}
use Rattle.events.specs.Lay.{room}
use Rattle.paths.specs.Paths.{root_stand, child, view_in, count_in, here, down, Item, item, under, gather, tree, paths}
use Rattle.paths.specs.Shown.{Walks}
use Rattle.events.proofs.Room.{room_fits}
use Rattle.walk_laws.specs.Promise.{IsUtf8, Leads, Readable, AllRead, Everything, UpTo101, events_in, written, depth_in, position_in, climb, climbs, path_at, Climbs, value-refused, wrong, Halt, Room}
use Rattle.walk_laws.specs.Promise.{Standing, every, before}
use Rattle.walk_laws.proofs.Reach.{reach}
use Rattle.walk_laws.proofs.Stops.{events-length, stop-room}
use Rattle.walk_laws.proofs.Theorem.{everything, done-read, events-left, success, listing, refusal, untouched, climbing}

no-key-utf8 : (d : List ℕ) → IsUtf8 d no_key
no-key-utf8 d = record { inside = omega arith; octets = none }

-- ---- a walk that refuses all: where every path can be read and has room, a walk is not refused
pub not-refused : (d out : List ℕ) (r : Walked) (left : List ℕ) → Walks d out r left → AllRead d → Room d out → (f p n : ℕ) → r ≡ Stopped f p n → ⊥
not-refused d out r left w a m f p n e = let s = (success d out r left w).1 (a, m) in let q = s.1 in let z : ◌≡◌ {A = ℕ} 0 1 = cc in omega arith

-- and there are such documents: the empty one is null, and has one path
module _ where
  empty-readable : Readable [] (root_stand [])
  unfolding root_read
  empty-readable =
      record {
        key = no_key;
        key_said = refl;
        key_utf8 = no-key-utf8 [];
        value = value.Scalar type.Literal scalar.Null;
        value_said = refl;
        value_utf8 = tt;
      }

  empty-leads : {π : List ℕ} {s : Stand} → Leads [] π s → (root_stand [] ≡ s) × (length π ≡ 0)
  unfolding root_read
  empty-leads here = (refl, refl)
  empty-leads (down h b) = absurd (omega arith)

  pub empty-read : AllRead []
  empty-read =
      record {
        readable = λ b. subst (Readable []) (empty-leads b).0 empty-readable;
        near = λ b. let h = (empty-leads b).1 in omega arith;
      }

  pub empty-done : (out : List ℕ) (r : Walked) (left : List ℕ) → 1 ≤ room out → Walks [] out r left → r ≡ Done 1
  unfolding paths tree gather root_read
  empty-done out r left h w =
      let m : Room [] out = record { paths = paths []; every = everything [] empty-read; fits = h } in
      let s = (success [] out r left w).1 (empty-read, m) in
      let n : s.0 ≡ 1 = (listing [] out s.0 left (subst (λ (q : Walked). Walks [] out q left) s.1 w) (paths []) (everything [] empty-read)).count in
      s.1 ∙ ap Done n

-- ---- a walk that lists only the root: a walk that succeeds has an event for the root and one for each of its positions at least
long-gather : (f : ℕ → List Item) → ((j : ℕ) → 1 ≤ length (f j)) → (k i : ℕ) → k ≤ length (gather f k i)
unfolding gather
long-gather f h zero i = omega arith
long-gather f h (suc k) i =
    let e : length (f i ++ gather f k (suc i)) ≡ length (f i) + length (gather f k (suc i)) = length-append (f i) (gather f k (suc i)) in
    let a = h i in
    let b = long-gather f h k (suc i) in
    omega arith

some : (l : ℕ) (d : List ℕ) (s : Stand) → 1 ≤ length (tree l d s)
unfolding tree
some zero d s = omega arith
some (suc l) d s = omega arith

long-paths : (d : List ℕ) → 1 + count_in (root_stand d).value ≤ length (paths d)
unfolding paths tree
long-paths d =
    let kids : ℕ → List Item = λ i. map (under i) (tree 100 d (child d (view_in (root_stand d).value) i)) in
    let h : (j : ℕ) → 1 ≤ length (kids j) =
    λ j.
    let e : length (kids j) ≡ length (tree 100 d (child d (view_in (root_stand d).value) j)) =
    length-map (tree 100 d (child d (view_in (root_stand d).value) j)) (under j) in
    let a = some 100 d (child d (view_in (root_stand d).value) j) in
    omega arith in
    let b = long-gather kids h (count_in (root_stand d).value) 0 in
    omega arith

pub not-root-alone : (d out : List ℕ) (n : ℕ) (left : List ℕ) → Walks d out (Done n) left → 1 + count_in (root_stand d).value ≤ n
not-root-alone d out n left w =
    let e : n ≡ length (paths d) = (listing d out n left w (paths d) (everything d (done-read d out (Done n) left w n refl))).count in
    let h = long-paths d in
    omega arith

-- ---- a walk that reports an invented count: it is the number of paths, or of those before the one where it stops
pub done-count : (d out : List ℕ) (n : ℕ) (left : List ℕ) → Walks d out (Done n) left → (xs : List Item) → Everything d xs → n ≡ length xs
done-count d out n left w xs v = (listing d out n left w xs v).count

pub stopped-count : (d out : List ℕ) (f p n : ℕ) (left : List ℕ) → Walks d out (Stopped f p n) left → (xs : List Item) → UpTo101 d xs →
    (h : Halt d xs (room out) f p n) × (n ≡ length h.before) × (n < length xs) × (n ≤ room out)
stopped-count d out f p n left w xs v =
    let h = (refusal d out (Stopped f p n) left w xs v f p n).0 refl in
    let e : length xs ≡ length (h.before ++ h.at ∷ h.after) = ap length h.split in
    let s : length (h.before ++ h.at ∷ h.after) ≡ length h.before + length (h.at ∷ h.after) = length-append h.before (h.at ∷ h.after) in
    let c = h.count in
    let l = stop-room d h.stops in
    (h, c, omega arith, omega arith)

-- ---- different paths are both listed, whatever bytes, keys or values they share
pub shared-bytes : (d : List ℕ) (xs : List Item) → Everything d xs → (π ρ : List ℕ) (s t : Stand) → Leads d π s → Leads d ρ t → (π ≡ ρ → ⊥) →
    Memᴰ (item π s) xs × (Memᴰ (item ρ t) xs × (item π s ≡ item ρ t → ⊥))
shared-bytes d xs v π ρ s t a b n = (v.all a tt, (v.all b tt, λ e. n (ap (λ (x : Item). x.path) e)))

-- ---- a document above the length limit is refused at once, and the lent list is as it was
module _ (d : List ℕ) (h : 16777216 < length d) where
  long-read : root_read d ≡ Err refusals.Document
  unfolding root_read
  long-read = rw (lt-ltb 16777216 (length d) h)

  long-halt : (k : ℕ) → Halt d (paths d) k 1 0 0
  unfolding paths tree
  long-halt k =
      record {
        before = [];
        at = item [] (root_stand d);
        after = gather (λ i. map (under i) (tree 100 d (child d (view_in (root_stand d).value) i))) (count_in (root_stand d).value) 0;
        split = refl;
        count = refl;
        good = λ y m. absurd (Memᴰ.not-nil m);
        stops = wrong (omega arith) (value-refused {k = no_key} (omega arith) refl (no-key-utf8 d) (ap read_said long-read));
      }

  pub too_long : (out : List ℕ) (r : Walked) (left : List ℕ) → Walks d out r left → (r ≡ Stopped 1 0 0) × (left ≡ out)
  unfolding events_in long-halt
  too_long out r left w =
      let e = (refusal d out r left w (paths d) (reach d) 1 0 0).1 (long-halt (room out)) in
      let u = subst (λ (q : Walked). Walks d out q left) e w in
      (e, untouched d out 1 0 0 left u (paths d) (reach d) (long-halt (room out)))

-- ---- the lent list keeps its length
pub same_length : (d out : List ℕ) (r : Walked) (left : List ℕ) → Walks d out r left → length left ≡ length out
same_length d out r left w =
    let (xs, (h, e)) = events-left d out r left w in
    let a : length left ≡ length (written xs out) = ap length e in
    let b : length (written xs out) ≡ length (events_in xs xs) + length (drop (wide * length xs) out) = length-append (events_in xs xs) (drop (wide * length xs) out) in
    let c : length (events_in xs xs) ≡ wide * length xs = events-length xs xs in
    let f : length (drop (wide * length xs) out) ≡ length out - wide * length xs = length-drop (wide * length xs) out in
    let g = room_fits out in
    omega arith

-- ---- from each of the events that a walk counts one climbs to the root, whether it succeeds or is refused
abbrev pub event_count : Walked → ℕ
event_count (Done n) = n
event_count (Stopped f p n) = n

pub stands : (d out : List ℕ) (r : Walked) (left : List ℕ) → Walks d out r left → (xs : List Item) × (Standing d out r xs × (event_count r ≡ length xs))
stands d out (Done n) left w =
    let v = everything d (done-read d out (Done n) left w n refl) in
    (paths d, (every v, (listing d out n left w (paths d) v).count))
stands d out (Stopped f p n) left w =
    let h = (refusal d out (Stopped f p n) left w (paths d) (reach d) f p n).0 refl in
    (h.before, (before (reach d) h, h.count))

-- what that means by the numbers of the list alone: unless it is the root, an event names one that stands before it and whose depth is one less; as many
-- climbs as the depth lead to event 0, fewer do not; and event 0 names itself
pub record Home (left : List ℕ) (k : ℕ) : Type 0 where
  pub earlier : 1 ≤ depth_in left k → climb left k < k
  pub shallower : 1 ≤ depth_in left k → depth_in left k ≡ depth_in left (climb left k) + 1
  pub ends : climbs left (depth_in left k) k ≡ 0
  pub sooner : (t : ℕ) → t < depth_in left k → climbs left t k ≡ 0 → ⊥
  pub root : k ≡ 0 → climb left k ≡ 0

-- from event 0 no climb is needed
shallow : (left : List ℕ) (k : ℕ) → k ≡ 0 → ((t : ℕ) → t < depth_in left k → climbs left t k ≡ 0 → ⊥) → depth_in left k ≡ 0
unfolding climbs
shallow left k z f = go (depth_in left k) refl
  where
    go : (n : ℕ) → depth_in left k ≡ n → depth_in left k ≡ 0
    go zero q = q
    go (suc n) q = absurd (f 0 (omega arith) z)

pub climbs-home : (d out : List ℕ) (r : Walked) (left : List ℕ) → Walks d out r left → (k : ℕ) → k < event_count r → Home left k
climbs-home d out r left w k h =
    let (xs, (s, e)) = stands d out r left w in
    let each : (j : ℕ) → j < event_count r → Climbs xs left j = λ j b. climbing d out r left w xs s j (omega arith) in
    let c = each k h in
    record {
      earlier = λ b. (c.up b).0;
      shallower =
          λ b.
          let u = c.up b in
          let v = each (climb left k) (omega (arith, u.0)) in
          omega (arith, c.depth, v.depth, ap length u.1, length-append (path_at xs (climb left k)) (position_in left k ∷ []));
      ends = c.ends;
      sooner = c.sooner;
      root = λ z. c.root (shallow left k z c.sooner);
    }
