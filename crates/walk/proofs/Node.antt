-- One path and what is below it: what is judged there is laid by itself, and from where it ends what is below the value that was read.
--     next, lay-then          a listing after another is laid where the first ends
--     done-size, done-one     one that is done has counted its events; a path has one
--     apart                   a path, and then what is below the container that its value is
-- Assumes nothing.
use mathlib.Core.Path.{◌≡◌, refl, sym, ap, ◌∙◌}
use mathlib.Core.Bool.{Bool, true, false, cond}
use mathlib.Core.List.{List}
use Prim.Native.Nat.{ℕ, suc, ◌+◌}
use native.Mathlib.Omega.{arith}
use lib.Dec.{ltb}
use Rattle.std.specs.Prelude.{Result, Ok, Err, ⊤}
use Rattle.refusal.specs.declared.Refusal.{Refusal}
use Rattle.value.specs.declared.Span.{Span}
use Rattle.value.specs.declared.Value.{Value}
use Rattle.value.specs.declared.Value.TheVariants as value
use Rattle.gate.specs.Said.{Said, says, nothing, refuses, read_said}
use Rattle.events.specs.declared.Spot.{Spot}
use Rattle.events.specs.Walked.{Done, Stopped}
use Rattle.events.specs.Events.{event_of}
use Rattle.events.specs.Text.{text_at, value_text}
use Rattle.paths.specs.Judged.{Stand, Judged, good, spot, text_then, value_judged, key_judged, judged, node, childless}
use Rattle.events.specs.Listing.{Listing, end, fault, event}
use Rattle.paths.specs.Levels.{◌then◌, size, entries, children}
use Rattle.events.specs.Lay.{Laid, laid, lay, put, room}
use Rattle.root_event.specs.Root.{leads_of, leads_to}
use Rattle.walk.specs.Course.{below}

-- go on where a listing ended well
abbrev pub next : Laid → (List ℕ → ℕ → Laid) → Laid
next (laid (Done m) o) f = f o m
next (laid (Stopped r p m) o) f = laid (Stopped r p m) o

next-cond : (t : Bool) (x y : Laid) (f : List ℕ → ℕ → Laid) → cond t (next x f) (next y f) ≡ next (cond t x y) f
next-cond true x y f = refl
next-cond false x y f = refl

pub lay-then : (a b : Listing) (out : List ℕ) (n : ℕ) → lay (a then b) out n ≡ next (lay a out n) (lay b)
unfolding lay ◌then◌
lay-then end b out n = refl
lay-then (fault r p) b out n = refl
lay-then (event e p l) b out n =
    ap (λ (x : Laid). cond (ltb n (room out)) x (laid (Stopped 12 p n) out)) (lay-then l b (put out n e) (n + 1))
    ∙ next-cond (ltb n (room out)) (lay l (put out n e) (n + 1)) (laid (Stopped 12 p n) out) (lay b)

-- a listing that is done has counted its events
pub done-size : (l : Listing) (out : List ℕ) (n : ℕ) {m : ℕ} {o : List ℕ} → lay l out n ≡ laid (Done m) o → m ≡ n + size l
unfolding lay size
done-size end out n {m} e = let h : m ≡ n = cc in omega arith
done-size (fault r p) out n e = let z : ◌≡◌ {A = ℕ} 0 1 = cc in absurd (omega arith)
done-size (event x p l) out n {m} {o} e = go (ltb n (room out)) e (λ f. done-size l (put out n x) (n + 1) f)
  where
    go : (b : Bool) → cond b (lay l (put out n x) (n + 1)) (laid (Stopped 12 p n) out) ≡ laid (Done m) o →
        (lay l (put out n x) (n + 1) ≡ laid (Done m) o → m ≡ n + 1 + size l) → m ≡ n + suc (size l)
    go true f h = omega (arith, h f)
    go false f h = let z : ◌≡◌ {A = ℕ} 0 1 = cc in absurd (omega arith)

-- what is below a value is what is below the container that it is
children-below : (l : ℕ) (d : List ℕ) (n : ℕ) (x : Value) → children l d n x ≡ below l d n (leads_of x)
unfolding children entries
children-below l d n (value.Scalar t s) = refl
children-below l d n (value.Container v) = refl

module _ (l : ℕ) (d : List ℕ) (p n : ℕ) where
  -- a text that breaks comes before all that is below
  by-text : (t : Result ⊤ ℕ) (j : Judged) (b : Listing) → node j p (children l d n) ≡ node j p childless then b →
      node (text_then t j) p (children l d n) ≡ node (text_then t j) p childless then b
  unfolding ◌then◌
  by-text (Ok u) j b h = h
  by-text (Err q) j b h = refl

  -- a path that is judged by a value that was read, and by its key
  by_value : (s : Spot) (r : Result Value Refusal) →
      node (value_judged d s (read_said r)) p (children l d n) ≡ node (value_judged d s (read_said r)) p childless then below l d n (leads_to r)
  unfolding ◌then◌
  by_value s (Ok x) = by-text (value_text d x) (good (event_of s x) x) (below l d n (leads_of x)) (ap (event (event_of s x) p) (children-below l d n x))
  by_value s (Err f) = refl

  module _ (depth i m : ℕ) (s : Stand) (r : Result Value Refusal) (e : s.value ≡ read_said r) where
    abbrev at : Span → Said Value → Judged
    at k x = value_judged d (spot depth i m s.place k s.from) x

    by_key : (k : Said Span) → node (key_judged d depth i m s k) p (children l d n) ≡ node (key_judged d depth i m s k) p childless then below l d n (leads_to r)
    unfolding ◌then◌
    by_key (says k) =
        by-text (text_at d k) (at k s.value) (below l d n (leads_to r))
        (ap (λ (x : Said Value). node (at k x) p (children l d n)) e
        ∙ by_value (spot depth i m s.place k s.from) r
        ∙ ap (λ (x : Said Value). node (at k x) p childless then below l d n (leads_to r)) (sym e))
    by_key nothing = refl
    by_key (refuses f) = refl

    -- x is what the path alone was laid to
    pub apart : (out : List ℕ) {x : Laid} → lay (node (judged d depth i m s) p childless) out n ≡ x →
        lay (node (judged d depth i m s) p (children l d n)) out n ≡ next x (lay (below l d n (leads_to r)))
    apart out a =
        ap (λ (y : Listing). lay y out n) (by_key s.key)
        ∙ lay-then (node (judged d depth i m s) p childless) (below l d n (leads_to r)) out n
        ∙ ap (λ (x : Laid). next x (lay (below l d n (leads_to r)))) a
