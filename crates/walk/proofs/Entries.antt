-- What is laid of an entry in the shape of the code is what is judged of it, laid by itself.
-- Assumes nothing.
use mathlib.Core.Path.{◌≡◌, refl, sym, ap, subst, ◌∙◌}
use mathlib.Core.Bool.{Bool, true, false, cond}
use mathlib.Core.List.{List}
use Prim.Native.Nat.{ℕ, ◌+◌, ◌<◌}
use native.Mathlib.Omega.{arith}
use lib.ListN.{length}
use Rattle.std.specs.Prelude.{Result, Ok, Err, Option, None, ⊤}
use Rattle.refusal.specs.declared.Refusal.{Refusal}
use Rattle.layout.specs.Layout.{key_entry}
use Rattle.layout.proofs.Inside.{key-inside}
use Rattle.header.specs.Course.{Within}
use Rattle.header.proofs.Placed.{placed-within}
use Rattle.value.specs.declared.Span.{Span}
use Rattle.value.specs.declared.View.{View}
use Rattle.value.specs.declared.Value.{Value}
use Rattle.value.specs.declared.Value.TheVariants as value
use Rattle.entry.specs.Entries.{end_of, place_at, key_place_at, key_end, key_of, key_entry_at, key_read, entry_read, value_start}
use Rattle.gate.specs.Said.{Said, says, read_said}
use Rattle.events.specs.declared.Spot.{Spot}
use Rattle.events.specs.Events.{no_key}
use Rattle.events.specs.Text.{text_at}
use Rattle.events.specs.Lay.{Laid, lay}
use Rattle.texts.proofs.Parts.{no-key-text}
use Rattle.sight.specs.declared.Sight.{Sight}
use Rattle.sight.specs.Sights.{sight_of}
use Rattle.sight.specs.Course.{Fit}
use Rattle.sight.proofs.Laws.{sight-entry, entry-sound, entry-fit}
use Rattle.paths.specs.Judged.{Stand, spot, text_then, value_judged, key_judged, judged, node, childless}
use Rattle.paths.specs.Levels.{entry_stand}
use Rattle.root_event.specs.Root.{leads_to}
use Rattle.walk.specs.declared.Level.{Level}
use Rattle.walk.specs.Tested.{Fits}
use Rattle.walk.specs.Course.{seen_text, container_in, entry_sight, by_text, by_sight, by_key_text, by_key}
use Rattle.walk.proofs.Values.{value-refused, value-breaks, value-fits, value-leads}

pub within : (d : List ℕ) (v : View) (i : ℕ) → Fit d v → i < v.count → Within (length d) (key_place_at v i + key_entry v.kind) (end_of v)
within d v i f h = record { order = omega (arith, key-inside v.kind v.count i h, f.header); inside = f.inside; short = f.short }

module _ (d : List ℕ) (e : Level) (i : ℕ) (out : List ℕ) (n : ℕ) where
  abbrev v : View
  v = e.view

  abbrev p : ℕ
  p = place_at v i

  abbrev r : Result Value Refusal
  r = entry_read d v i

  abbrev stand : Stand
  stand = entry_stand d v i

  abbrev all : Laid
  all = lay (node (judged d e.depth i e.parent stand) p childless) out n

  abbrev at : Span → Spot
  at key = spot e.depth i e.parent p key (value_start d v i)

  -- the value, by what is seen of it
  value-laid : (key : Span) → lay (node (value_judged d (at key) (read_said r)) p childless) out n ≡ by_sight d e i key p out n (entry_sight d e p)
  value-laid key = go (sight_of r (value_start d v i)) refl ∙ ap (by_sight d e i key p out n) (sym (sight-entry d v i))
    where
      by : (x : Sight) → sight_of r (value_start d v i) ≡ Ok x → (t : Result ⊤ ℕ) → seen_text d x ≡ t →
          lay (node (value_judged d (at key) (read_said r)) p childless) out n ≡ by_text e i key p out n x t
      by x q (Ok u) t = value-fits d out n (at key) r (entry-sound d v i) q t
      by x q (Err b) t = value-breaks d out n (at key) r (entry-sound d v i) q t

      go : (y : Result Sight Refusal) → sight_of r (value_start d v i) ≡ y →
          lay (node (value_judged d (at key) (read_said r)) p childless) out n ≡ by_sight d e i key p out n y
      go (Ok x) q = by x q (seen_text d x) refl
      go (Err f) q = value-refused d out n (at key) r q

  -- the container that is seen is the one that is read
  pub leads-same : container_in (entry_sight d e p) ≡ leads_to r
  leads-same = ap container_in (sight-entry d v i) ∙ go (sight_of r (value_start d v i)) refl
    where
      none : (r : Result Value Refusal) {f : Refusal} → sight_of r (value_start d v i) ≡ Err f → None ≡ leads_to r
      none (Ok x) q = cc
      none (Err g) q = refl

      go : (y : Result Sight Refusal) → sight_of r (value_start d v i) ≡ y → container_in y ≡ leads_to r
      go (Ok x) q = value-leads d out n (at no_key) r (entry-sound d v i) q
      go (Err f) q = none r q

  -- its key
  abbrev by-said : Said Span → Laid
  by-said k = lay (node (key_judged d e.depth i e.parent stand k) p childless) out n

  abbrev by-text : Span → Result ⊤ ℕ → Laid
  by-text key t = lay (node (text_then t (value_judged d (at key) (read_said r))) p childless) out n

  key-text : (key : Span) (t : Result ⊤ ℕ) → by-text key t ≡ by_key_text d e i key p out n t
  unfolding lay
  key-text key (Ok u) = value-laid key
  key-text key (Err b) = refl

  pub element-laid : v.kind.object ≡ false → all ≡ by_sight d e i no_key p out n (entry_sight d e p)
  element-laid o =
      ap (λ (b : Bool). by-said (cond b (read_said (key_read d v i)) (says no_key))) o
      ∙ ap (by-text no_key) (no-key-text d) ∙ value-laid no_key

  key-laid : (k : Result Span Refusal) → by-said (read_said k) ≡ by_key d e i (key_place_at v i) p out n k
  unfolding lay
  key-laid (Ok key) = key-text key (text_at d key)
  key-laid (Err g) = refl

  pub member-laid : v.kind.object ≡ true → Fit d v → i < v.count → all ≡ by_key d e i (key_place_at v i) p out n (key_of d v (key_place_at v i))
  unfolding key_read key_entry_at
  member-laid o f h =
      ap (λ (b : Bool). by-said (cond b (read_said (key_read d v i)) (says no_key))) o
      ∙ ap (λ (k : Result Span Refusal). by-said (read_said k)) (placed-within d (key_end v i) (end_of v) (within d v i f h))
      ∙ key-laid (key_of d v (key_place_at v i))

-- a container that an entry leads to fits the document
pub fits-so : (d : List ℕ) (y : Result Value Refusal) → ((u : View) → y ≡ Ok (value.Container u) → Fit d u) → Fits d (leads_to y)
fits-so d (Ok (value.Scalar t s)) h = tt
fits-so d (Ok (value.Container u)) h = h u refl
fits-so d (Err f) h = tt

pub entry-fits : (d : List ℕ) (w : View) (j : ℕ) {u : Option View} → u ≡ leads_to (entry_read d w j) → Fits d u
entry-fits d w j e = subst (Fits d) (sym e) (fits-so d (entry_read d w j) (λ u q. entry-fit d w j q))
