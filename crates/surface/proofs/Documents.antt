-- What a walk answers fits into 32 bits and is told whole, from each of its events one climbs to the root, and a view of no kind is no document's.
-- Assumes nothing.
use mathlib.Core.Path.{◌≡◌, refl, ap, ◌∙◌}
use mathlib.Core.Bool.{Bool, true, false}
use mathlib.Core.List.{List, [], ◌∷◌}
use Prim.Native.Nat.{ℕ, ◌≤◌, ◌<◌}
use native.Mathlib.Omega.{arith}
use lib.ListN.{length}
use borrow.Author.Tests.{lt-ltb, le-ltb}
use Rattle.refusal.specs.Told.{Told, answer}
use Rattle.layout.proofs.Cond.{yes, no}
use Rattle.header.specs.Headers.{place_of, header_read}
use Rattle.gate.specs.Said.{Said, refuses}
use Rattle.gate.specs.Before.{matches, gated}
use Rattle.events.specs.Walked.{Walked, Done, Stopped}
use Rattle.events.specs.Lay.{room}
use Rattle.paths.specs.Shown.{Walks, told, shown}
use Rattle.paths.proofs.Laid.{walked as Walked-as, walked-told}
use Rattle.walk_laws.proofs.Corollaries.{event_count, Home, climbs-home}
use Rattle.walk_laws.proofs.Small.{done-small, stopped-small, stopped-near}
use Rattle.value.specs.declared.View.{View}
use Rattle.lent.specs.Layout.{low}
use Rattle.lent.proofs.Puts.{low_small}
use Rattle.small_rows.specs.SmallRows.{walked_told}
use Rattle.surface.specs.Documents.{kind_by, nowhere, view_by, end_told, walk_told, walk_leaves}

-- ---- a view by its numbers
module _ (c start size count : ℕ) where
  pub no_kind : 3 < c → nowhere ≡ view_by c start size count
  unfolding view_by
  no_kind h = yes _ (lt-ltb 3 c h) refl

  pub a-kind : {v : View} → c ≤ 3 → v ≡ record { start = start; size = size; count = count; kind = kind_by c } → v ≡ view_by c start size count
  unfolding view_by
  a-kind h e = no _ (le-ltb 3 c h) e

-- one of no kind is refused by 13 in every document within the limit, whatever is asked
pub nowhere-matches : (d : List ℕ) → length d ≤ 16777216 → matches d nowhere ≡ false
unfolding matches header_read place_of
nowhere-matches d h = rw (le-ltb 16777216 (length d) h, le-ltb (length d) (length d) (omega arith), lt-ltb (length d) 4294967295 (omega arith))

pub nowhere-13 : {A : Type 0} (d : List ℕ) (asked : Bool) (i : ℕ) (x : Said A) → length d ≤ 16777216 → gated d nowhere asked i x ≡ refuses 13
unfolding gated
nowhere-13 d true i x h = rw (le-ltb 16777216 (length d) h, nowhere-matches d h)
nowhere-13 d false i x h = rw (le-ltb 16777216 (length d) h)

-- ---- a walk
abbrev ended : ℕ → ℕ → ℕ → Told
ended f n p = record { number = f; values = n ∷ p ∷ [] }

module _ (d out : List ℕ) where
  pub walk-told : (w : Walked) (left : List ℕ) → Walks d out w left → walked_told w ≡ walk_told d out
  unfolding walk_told
  walk-told (Done n) left p =
      ap (λ (m : ℕ). answer (m ∷ 0 ∷ [])) (low_small n (omega (arith, done-small d out n left p))) ∙ ap end_told p.answer
  walk-told (Stopped f q n) left p =
      ap (λ (m : ℕ). ended f m (low q)) (low_small n (omega (arith, stopped-small d out f q n left p)))
      ∙ ap (ended f n) (low_small q (omega (arith, stopped-near d out f q n left p)))
      ∙ ap end_told p.answer

  pub walked : {w : Walked} {left : List ℕ} → Walks d out w left → left ≡ walk_leaves d out
  unfolding walk_leaves
  walked p = p.leaves

  -- what is told and left is a walk's, so that all that the theorem of the walk says is said of it
  pub shown-walk : Walks d out (Walked-as (shown d (room out)) 0) (walk_leaves d out)
  unfolding walk_leaves
  shown-walk = record { answer = walked-told (shown d (room out)) 0; leaves = refl }

  -- from each of the events that it counts, n of them, one climbs to the root, also where a refusal is told
  pub walk-climbs : (f n p : ℕ) → walk_told d out ≡ ended f n p → (k : ℕ) → k < n → Home (walk_leaves d out) k
  unfolding walk_told
  walk-climbs f n p e k h = climbs-home d out r (walk_leaves d out) shown-walk k (omega (arith, counted r (ap end_told shown-walk.answer ∙ e)))
    where
      r : Walked
      r = Walked-as (shown d (room out)) 0

      first : List ℕ → ℕ
      first [] = 0
      first (m ∷ ms) = m

      counted : (q : Walked) → end_told (told q) ≡ ended f n p → event_count q ≡ n
      counted (Done m) x = ap (λ (t : Told). first t.values) x
      counted (Stopped g y m) x = ap (λ (t : Told). first t.values) x
