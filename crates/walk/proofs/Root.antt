-- The root, listed by itself and then below: together the listing of the document.
-- Assumes nothing.
use mathlib.Core.Path.{◌≡◌, refl, sym, ap, subst, ◌∙◌}
use mathlib.Core.Bool.{Bool, true, false, cond}
use mathlib.Core.List.{List}
use Prim.Native.Nat.{ℕ, ◌+◌, ◌-◌}
use native.Mathlib.Omega.{arith}
use lib.Dec.{ltb, eqb}
use lib.ListN.{length, get_or}
use borrow.Author.Tests.{ltb-true}
use Rattle.std.specs.Prelude.{Result, Ok, Err, Option, ⊤}
use Rattle.refusal.specs.declared.Refusal.{Refusal}
use Rattle.refusal.specs.declared.Refusal.TheVariants as refusal
use Rattle.codes.specs.Types.{type_of}
use Rattle.codes.specs.declared.types.JsonbType.TheVariants as type
use Rattle.value.specs.declared.View.{View}
use Rattle.value.specs.declared.Value.{Value}
use Rattle.value.specs.declared.Scalar.TheVariants as scalar
use Rattle.content.specs.Reading.{scalar_of}
use Rattle.gate.specs.Said.{read_said}
use Rattle.jsonb.specs.Views.{typed_at, root_read}
use Rattle.events.specs.declared.Event.{Event}
use Rattle.events.specs.Walked.{Done, Stopped}
use Rattle.events.specs.Events.{no_key, event_of}
use Rattle.events.specs.Text.{value_text}
use Rattle.events.specs.Listing.{end, event}
use Rattle.events.specs.Lay.{Laid, laid, lay, put, room}
use Rattle.texts.proofs.Parts.{no-key-text}
use Rattle.sight.specs.Course.{Sound, SoundValue}
use Rattle.sight.proofs.Good.{Good, then-good, type-numbered, read-good}
use Rattle.sight.proofs.Laws.{good-sound}
use Rattle.paths.specs.Judged.{spot, good, text_then, value_judged, judged, node, childless}
use Rattle.paths.specs.Paths.{root_stand}
use Rattle.paths.specs.Levels.{listing}
use Rattle.root_event.specs.Root.{leads_to, first_byte, spot_of, text_node, value_node, read_node, root_node}
use Rattle.walk.specs.Course.{below}
use Rattle.walk.specs.Tested.{Last, Fits}
use Rattle.walk.proofs.Node.{next, apart}
use Rattle.walk.proofs.Entries.{fits-so}
use Rattle.walk.proofs.Values.{event-last, code-text}

-- ---- what is read at the root
root-good : (d : List ℕ) → Good d (root_read d)
unfolding root_read
root-good d = go (ltb 16777216 (length d)) (eqb (length d) 0)
  where
    go : (a b : Bool) →
        Good d (cond a (Err refusal.Document) (cond b (scalar_of type.Literal scalar.Null) (typed_at d (type_of (get_or d 0 0)) 1 (length d))))
    go true b = (omega arith, omega arith)
    go false true = (omega arith, λ c from. refl)
    go false false = then-good d (type_of (get_or d 0 0)) _ (type-numbered (get_or d 0 0)) (λ t. read-good d t 1 (length d))

pub root-fits : (d : List ℕ) {u : Option View} → u ≡ leads_to (root_read d) → Fits d u
root-fits d e = subst (Fits d) (sym e) (fits-so d (root_read d) (λ u q. subst (Good d) q (root-good d)))

module _ (d out : List ℕ) where
  abbrev root : Laid
  root = lay (node (judged d 0 0 0 (root_stand d)) 0 childless) out 0

  abbrev root-at : Result Value Refusal → Laid
  root-at y = lay (node (value_judged d (spot 0 0 0 0 no_key (root_stand d).from) (read_said y)) 0 childless) out 0

  -- it has no key
  root_by : root ≡ root-at (root_read d)
  root_by =
      ap (λ (t : Result ⊤ ℕ). lay (node (text_then t (value_judged d (spot 0 0 0 0 no_key (root_stand d).from) (read_said (root_read d)))) 0 childless) out 0) (no-key-text d)

  -- and is listed as the crate root_event lists it
  root-read : (y : Result Value Refusal) → root-at y ≡ lay (read_node d y) out 0
  unfolding value_node first_byte
  root-read (Ok x) = go (value_text d x)
    where
      shown : Event
      shown = event_of (spot 0 0 0 0 no_key (root_stand d).from) x

      go : (t : Result ⊤ ℕ) → lay (node (text_then t (good shown x)) 0 childless) out 0 ≡ lay (text_node t (event shown 0 end)) out 0
      go (Ok u) = refl
      go (Err q) = refl
  root-read (Err f) = refl

  root-laid : {x : Laid} → lay (root_node d) out 0 ≡ x → root ≡ x
  unfolding root_node
  root-laid e = root_by ∙ root-read (root_read d) ∙ e

  whole : {x : Laid} → lay (root_node d) out 0 ≡ x → lay (listing d) out 0 ≡ next x (lay (below 100 d 0 (leads_to (root_read d))))
  unfolding listing
  whole e = apart 100 d 0 0 0 0 0 (root_stand d) (root_read d) refl out (root-laid e)

  pub root-stopped : {q p m : ℕ} {o : List ℕ} → lay (root_node d) out 0 ≡ laid (Stopped q p m) o → lay (listing d) out 0 ≡ laid (Stopped q p m) o
  root-stopped e = whole e

  -- what is below it begins behind its event; 1 - 1 is its event as the callee counts it
  pub root-done : {o : List ℕ} {u : Option View} {x : Laid} → lay (root_node d) out 0 ≡ laid (Done (0 + 1)) o → u ≡ leads_to (root_read d) →
      lay (below 100 d (1 - 1) u) o 1 ≡ x → lay (listing d) out 0 ≡ x
  root-done {o} e ue c = whole e ∙ ap (λ (w : Option View). lay (below 100 d 0 w) o 1) (sym ue) ∙ c

  -- a root that was listed was tested
  pub root-last : {o : List ℕ} → lay (root_node d) out 0 ≡ laid (Done (0 + 1)) o → Last d o 1
  unfolding root_node value_node lay
  root-last {o} e = go (root_read d) (good-sound d (root_read d) (root-good d)) e
    where
      fit : (x : Value) → SoundValue x → value_text d x ≡ Ok _ → (b : Bool) → ltb 0 (room out) ≡ b →
          cond b (laid (Done (0 + 1)) (put out 0 (event_of (spot_of d) x))) (laid (Stopped 12 0 0) out) ≡ laid (Done (0 + 1)) o → Last d o 1
      fit x h t true q c =
          let s : put out 0 (event_of (spot_of d) x) ≡ o = cc in
          subst (λ (l : List ℕ). Last d l 1) s
          (event-last d out 0 (event_of (spot_of d) x) (ltb-true 0 (room out) q) (no-key-text d) (code-text d (first_byte d) x h t))
      fit x h t false q c = cc

      text : (x : Value) → SoundValue x → (t : Result ⊤ ℕ) → value_text d x ≡ t →
          lay (text_node t (event (event_of (spot_of d) x) 0 end)) out 0 ≡ laid (Done (0 + 1)) o → Last d o 1
      text x h (Ok u) t c = fit x h t (ltb 0 (room out)) refl c
      text x h (Err q) t c = cc

      go : (y : Result Value Refusal) → Sound y → lay (read_node d y) out 0 ≡ laid (Done (0 + 1)) o → Last d o 1
      go (Ok x) h c = text x h (value_text d x) refl c
      go (Err f) h c = cc
