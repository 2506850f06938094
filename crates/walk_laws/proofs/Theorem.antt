-- The theorem of the walk: each statement of specs/Promise.antt, from the promise `Walks` alone.
-- Assumes nothing.
use mathlib.Core.Path.{◌≡◌, refl, sym, ap, ◌∙◌, subst}
use mathlib.Core.Logic.{◌⊎◌, inl, inr}
use mathlib.Core.List.{List, [], ◌∷◌, ◌++◌, map, append-nil, Memᴰ}
use Prim.Native.Nat.{ℕ, zero, suc, ◌*◌, ◌≤◌}
use native.Mathlib.Omega.{arith}
use native.Mathlib.Decide.{dec_le}
use lib.ListN.{length, drop}
use Rattle.events.specs.Walked.{Walked, Done, Stopped}
use Rattle.events.specs.Events.{wide}
use Rattle.paths.specs.Judged.{Stand}
use Rattle.events.specs.Listing.{Listing as Laying, end, fault}
use Rattle.events.specs.Lay.{room}
use Rattle.paths.specs.Paths.{child, view_in, Below, here, down, Item, item, paths}
use Rattle.paths.specs.Shown.{flat, over, shown, Walks}
use Rattle.paths.proofs.Laid.{walked, walked-told, told_same}
use Rattle.walk_laws.specs.Promise.{Leads, AllRead, Everything, UpTo101, event_at, events_in, names_after, written, Climbs, Good, Halt}
use Rattle.walk_laws.specs.Promise.{Success, Listing, Refusal, Untouched, every, before, Climbing, Paths, OneAnswer, WalkTheorem}
use Rattle.walk_laws.proofs.Order.{strict-order, one_list}
use Rattle.walk_laws.proofs.Reach.{reach, one_place}
use Rattle.walk_laws.proofs.Names.{naming}
use Rattle.walk_laws.proofs.Entry.{texts-inside}
use Rattle.walk_laws.proofs.Text.{text-test}
use Rattle.walk_laws.proofs.Judge.{leads-answered}
use Rattle.walk_laws.proofs.Climb.{prefix-events, climbs-up}
use Rattle.walk_laws.proofs.Stops.{chain, chain-ends, chain-over, Fine, fine-shown, stop-room, halt-shown, Halted, decided}

pub one_answer : OneAnswer
one_answer d out r q left rest a b = (told_same r q (a.answer ∙ sym b.answer), a.leaves ∙ sym b.leaves)

-- ---- a path that is too long has a beginning of each length
record Cut (d : List ℕ) (s : Stand) (k : ℕ) : Type 0 where
  path : List ℕ
  stand : Stand
  leads : Below d s path stand
  long : length path ≡ k

begins : {d : List ℕ} {s t : Stand} {π : List ℕ} (k : ℕ) → Below d s π t → k ≤ length π → Cut d s k
begins {s = s} zero b h = record { path = []; stand = s; leads = here; long = refl }
begins (suc k) here h = absurd (omega arith)
begins {d = d} {s = s} {t = t} (suc k) (down {i = i} {π = π} a b) h =
    let r = begins {d = d} {s = child d (view_in s.value) i} {t = t} {π = π} k b (omega arith) in
    record { path = i ∷ r.path; stand = r.stand; leads = down a r.leads; long = ap suc r.long }

-- ---- all paths are read exactly where all items are good
module _ (d : List ℕ) where
  abbrev AllGood : Type 0
  AllGood = (x : Item) → Memᴰ x (paths d) → Good d x

  -- with no good item of 101 positions no path has more than 100
  good-near : AllGood → {π : List ℕ} {s : Stand} → Leads d π s → length π ≤ 100
  good-near g {π} b = go (dec_le (length π) 100)
    where
      go : Dec (length π ≤ 100) → length π ≤ 100
      go (yes h) = h
      go (no h) =
          let r = begins 101 b (omega arith) in
          let l = r.long in
          let m = (g (item r.path r.stand) ((reach d).all r.leads (omega arith))).near in
          absurd (omega arith)

  good-read : AllGood → AllRead d
  good-read g =
      record {
        readable = λ {π} {s} b. let h : length π ≤ 100 = good-near g b in (g (item π s) ((reach d).all b (omega arith))).readable;
        near = good-near g;
      }

  read-good : AllRead d → AllGood
  read-good a x m = let b = (reach d).only x m in record { near = a.near b; readable = a.readable b }

  pub everything : AllRead d → Everything d (paths d)
  everything a =
      record {
        all = λ {π} b u. let h : length π ≤ 100 = a.near b in (reach d).all b (omega arith);
        only = λ x m. (reach d).only x m;
        those = λ x m. tt;
        order = (reach d).order;
      }

  one_of : (k : ℕ) → Fine d (paths d) k ⊎ Halted d (paths d) k
  one_of k = decided d (paths d) k (λ x m. leads-answered d ((reach d).only x m))

pub lists : Paths
lists d = ((paths d, reach d), λ a. (paths d, everything d a))

-- ---- what the promise says in each case
module _ (d out : List ℕ) (r : Walked) (left : List ℕ) (w : Walks d out r left) where
  by-shown : (xs : List Item) (l : Laying) → shown d (room out) ≡ chain (paths d) xs l →
      (r ≡ walked l (length xs)) × (flat l ≡ [] → left ≡ events_in (paths d) xs ++ drop (wide * length xs) out)
  by-shown xs l e = (
    told_same r (walked (shown d (room out)) 0) (w.answer ∙ sym (walked-told (shown d (room out)) 0))
        ∙ ap (λ (y : Laying). walked y 0) e
        ∙ chain-ends (paths d) xs l 0
        ∙ ap (walked l) (omega arith),
    λ f. w.leaves ∙ ap (λ (y : Laying). over y out) e ∙ chain-over (paths d) xs l out f,
  )

  fine-done : Fine d (paths d) (room out) → (r ≡ Done (length (paths d))) × (left ≡ written (paths d) out)
  unfolding shown walked flat
  fine-done f = let s = by-shown (paths d) end (fine-shown d (paths d) (paths d) (room out) f) in (s.0, s.1 refl)

  halt-stopped : (f p n : ℕ) (h : Halt d (paths d) (room out) f p n) → (r ≡ Stopped f p n) × (left ≡ written h.before out)
  unfolding shown walked flat
  halt-stopped f p n h =
      let s = by-shown h.before (fault f p) (halt-shown d (paths d) (paths d) (room out) f p n h) in (
        s.0 ∙ ap (Stopped f p) (sym h.count),
        s.1 refl ∙ ap (λ (ns : List ℕ). ns ++ drop (wide * length h.before) out) (prefix-events d h.before (h.at ∷ h.after) h.split),
      )

  -- ---- and so, by what it answered
  apart : {A : Type 0} {n f p m : ℕ} → r ≡ Done n → r ≡ Stopped f p m → A
  apart a b = let z : ◌≡◌ {A = ℕ} 0 1 = cc in absurd (omega arith)

  done-fine : (n : ℕ) → r ≡ Done n → Fine d (paths d) (room out)
  done-fine n e = go (one_of d (room out))
    where
      go : Fine d (paths d) (room out) ⊎ Halted d (paths d) (room out) → Fine d (paths d) (room out)
      go (inl f) = f
      go (inr (f, (p, (m, h)))) = apart e (halt-stopped f p m h).0

  stopped-halt : (f p n : ℕ) → r ≡ Stopped f p n → Halt d (paths d) (room out) f p n
  stopped-halt f p n e = go (one_of d (room out))
    where
      go : Fine d (paths d) (room out) ⊎ Halted d (paths d) (room out) → Halt d (paths d) (room out) f p n
      go (inl h) = apart (fine-done h).0 e
      go (inr (g, (q, (m, h)))) =
          let s = (halt-stopped g q m h).0 in
          let a : g ≡ f = cc in
          let b : q ≡ p = cc in
          let c : m ≡ n = cc in
          subst (λ (i : ℕ). Halt d (paths d) (room out) f p i) c
          (subst (λ (i : ℕ). Halt d (paths d) (room out) f i m) b (subst (λ (i : ℕ). Halt d (paths d) (room out) i q m) a h))

  -- what is left is always the events of some paths, for which there is room
  pub events-left : (xs : List Item) × ((length xs ≤ room out) × (left ≡ written xs out))
  events-left = go (one_of d (room out))
    where
      go : Fine d (paths d) (room out) ⊎ Halted d (paths d) (room out) →
          (xs : List Item) × ((length xs ≤ room out) × (left ≡ written xs out))
      go (inl h) = (paths d, (h.fits, (fine-done h).1))
      go (inr (f, (p, (n, h)))) =
          let l = stop-room d h.stops in
          let c = h.count in
          (h.before, (omega arith, (halt-stopped f p n h).1))

  pub done-read : (n : ℕ) → r ≡ Done n → AllRead d
  done-read n e = good-read d (done-fine n e).good

-- ---- the statements
pub success : Success
success d out r left w = (
  λ (n, e).
      let f = done-fine d out r left w n e in
      let a = good-read d f.good in
      (a, record { paths = paths d; every = everything d a; fits = f.fits }),
  λ (a, m).
      let e : m.paths ≡ paths d = one_list d (λ π. Unit {0}) m.paths (paths d) m.every (everything d a) in
      let h : length (paths d) ≤ room out = subst (λ (xs : List Item). length xs ≤ room out) e m.fits in
      (length (paths d), (fine-done d out r left w (record { good = read-good d a; fits = h })).0),
)

pub listing : Listing
listing d out n left w xs v =
    let a = done-read d out (Done n) left w n refl in
    let e : paths d ≡ xs = one_list d (λ π. Unit {0}) (paths d) xs (everything d a) v in
    let s = fine-done d out (Done n) left w (done-fine d out (Done n) left w n refl) in
    let q : n ≡ length (paths d) = cc s.0 in
    record {
      count = q ∙ ap length e;
      leaves = s.1 ∙ ap (λ (ys : List Item). written ys out) e;
      names = subst (λ (ys : List Item). names_after [] (map (event_at ys) ys) ≡ map (λ x. x.path) ys) e (naming d);
    }

-- any list of the paths of at most 101 positions is the one
is-paths : (d : List ℕ) (xs : List Item) → UpTo101 d xs → xs ≡ paths d
is-paths d xs v = one_list d (λ π. length π ≤ 101) xs (paths d) v (reach d)

pub refusal : Refusal
refusal d out r left w xs v f p n = (
  λ e. subst (λ (ys : List Item). Halt d ys (room out) f p n) (sym (is-paths d xs v)) (stopped-halt d out r left w f p n e),
  λ h. (halt-stopped d out r left w f p n (subst (λ (ys : List Item). Halt d ys (room out) f p n) (is-paths d xs v) h)).0,
)

-- a path at which it stops in any such list is one of the document's
abbrev paths-halt : (d out : List ℕ) (xs : List Item) → UpTo101 d xs → {f p n : ℕ} (h : Halt d xs (room out) f p n) → Halt d (paths d) (room out) f p n
paths-halt d out xs v h =
    record {
      before = h.before;
      at = h.at;
      after = h.after;
      split = sym (is-paths d xs v) ∙ h.split;
      count = h.count;
      good = h.good;
      stops = h.stops;
    }

pub untouched : Untouched
untouched d out f p n left w xs v h = (halt-stopped d out (Stopped f p n) left w f p n (paths-halt d out xs v h)).1

pub climbing : Climbing
climbing d out r left w xs (every {n = n} {xs = ys} v) k h =
    let a = done-read d out (Done n) left w n refl in
    let e : paths d ≡ ys ++ [] = one_list d (λ π. Unit {0}) (paths d) ys (everything d a) v ∙ sym (append-nil ys) in
    subst (λ (l : List ℕ). Climbs ys l k) (sym (listing d out n left w ys v).leaves) (climbs-up d ys [] e (drop (wide * length ys) out) k h)
climbing d out r left w xs (before {f = f} {p = p} {n = n} {xs = ys} v s) k h =
    let e : paths d ≡ s.before ++ s.at ∷ s.after = (paths-halt d out ys v s).split in
    subst (λ (l : List ℕ). Climbs s.before l k) (sym (untouched d out f p n left w ys v s))
    (climbs-up d s.before (s.at ∷ s.after) e (drop (wide * length s.before) out) k h)

pub walk-theorem : WalkTheorem
walk-theorem =
    record {
      success = success;
      listing = listing;
      refusal = refusal;
      untouched = untouched;
      climbing = climbing;
      promised = reach;
      lists = lists;
      one_list = one_list;
      one_place = one_place;
      strict-order = strict-order;
      one_answer = one_answer;
      text-test = text-test;
      texts-inside = texts-inside;
    }
