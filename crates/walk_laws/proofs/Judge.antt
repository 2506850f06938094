-- What is said of a path: its event where it is good, and otherwise its first fault in document 01's order. Of a path that leads anywhere one of the two
-- is so, since below a container's count there is no nothing, and its texts lie in the document.
-- Assumes nothing.
use mathlib.Core.Path.{◌≡◌, refl, sym, ap, ◌∙◌, subst}
use mathlib.Core.Bool.{Bool, true, false, cond}
use mathlib.Core.Logic.{◌⊎◌, inl, inr}
use mathlib.Core.List.{List}
use Prim.Native.Nat.{ℕ, ◌≤◌}
use native.Mathlib.Omega.{arith}
use lib.Dec.{ltb}
use lib.ListN.{length}
use borrow.Author.Tests.{ltb-true, ltb-false}
use Rattle.std.specs.Prelude.{Result, Ok, Err, ⊤}
use Rattle.refusal.specs.declared.Refusal.{Refusal}
use Rattle.value.specs.declared.View.{View}
use Rattle.value.specs.declared.Span.{Span}
use Rattle.value.specs.declared.Value.{Value}
use Rattle.entry.specs.Entries.{entry_read, key_read}
use Rattle.gate.specs.Said.{Said, says, nothing, refuses, read_said}
use Rattle.jsonb.specs.Views.{root_read}
use Rattle.events.specs.declared.Spot.{Spot}
use Rattle.events.specs.Events.{no_key, event_of}
use Rattle.events.specs.Text.{text_at, value_text}
use Rattle.paths.specs.Judged.{Stand, Judged, bad, good, spot, text_then, value_judged, key_judged, judged}
use Rattle.paths.specs.Paths.{view_in, Below, here, down, Item, last_of, parent_in, said}
use Rattle.paths.specs.Levels.{entry_stand}
use Rattle.paths.proofs.Whole.{SaidStands, root_stands, elem-stands, entry-child}
use Rattle.paths.proofs.Scan.{said-deep, said-near}
use Rattle.walk_laws.specs.Promise.{Leads, key_in, value_in, event_at, Good, Wrong, deep, key-refused, key-octets, value-refused, value-octets, TextInside}
use Rattle.walk_laws.proofs.Entry.{texts-inside}
use Rattle.walk_laws.proofs.Text.{text-test, value-test, value-breaks, breaks-value}

-- ---- a path by its key and its value
module _ (d : List ℕ) (depth i m : ℕ) (s : Stand) where
  abbrev of-key : Said Span → Judged
  of-key k = key_judged d depth i m s k

  judged-no-key : {f : ℕ} → s.key ≡ refuses f → judged d depth i m s ≡ bad f s.key_place
  judged-no-key e = ap of-key e

  module _ {k : Span} (ke : s.key ≡ says k) where
    abbrev at : Spot
    at = spot depth i m s.place k s.from

    by_key : {r : Result ⊤ ℕ} → text_at d k ≡ r → judged d depth i m s ≡ text_then r (value_judged d at s.value)
    by_key t = ap of-key ke ∙ ap (λ (c : Result ⊤ ℕ). text_then c (value_judged d at s.value)) t

    module _ (t : text_at d k ≡ Ok _) where
      judged-no-value : {f : ℕ} → s.value ≡ refuses f → judged d depth i m s ≡ bad f s.place
      judged-no-value e = by_key t ∙ ap (value_judged d at) e

      by_value : {y : Value} {r : Result ⊤ ℕ} → s.value ≡ says y → value_text d y ≡ r → judged d depth i m s ≡ text_then r (good (event_of at y) y)
      by_value {y} e u = by_key t ∙ ap (value_judged d at) e ∙ ap (λ (c : Result ⊤ ℕ). text_then c (good (event_of at y) y)) u

-- ---- what is said of a path among all
module _ (d : List ℕ) (all : List Item) (x : Item) where
  abbrev long : ℕ
  long = length x.path

  abbrev last : ℕ
  last = last_of x.path

  abbrev parent : ℕ
  parent = parent_in all x

  pub good-said : Good d x → said d all x ≡ good (event_at all x) (value_in x.stand.value)
  good-said g =
      let r = g.readable in
      let e : says r.key ≡ x.stand.key = sym r.key_said in
      let f : says r.value ≡ x.stand.value = sym r.value_said in
      said-near d all x g.near
      ∙ by_value d long last parent x.stand r.key_said ((text-test.valid d r.key).1 r.key_utf8) r.value_said ((value-test d r.value).1 r.value_utf8)
      ∙ ap (λ (k : Said Span). good (event_of (spot long last parent x.stand.place (key_in k) x.stand.from) r.value) r.value) e
      ∙ ap (λ (y : Said Value).
      good (event_of (spot long last parent x.stand.place (key_in x.stand.key) x.stand.from) (value_in y)) (value_in y)) f

  pub wrong-said : {f p : ℕ} → Wrong d x f p → said d all x ≡ bad f p
  wrong-said (deep h) = said-deep d all x h
  wrong-said (key-refused h e) = said-near d all x h ∙ judged-no-key d long last parent x.stand e
  wrong-said (key-octets {k = k} p h e b) = said-near d all x h ∙ by_key d long last parent x.stand e ((text-test.breaks d k p b.inside).1 b)
  wrong-said (value-refused {k = k} h e u q) = said-near d all x h ∙ judged-no-value d long last parent x.stand e ((text-test.valid d k).1 u) q
  wrong-said (value-octets {k = k} {y = y} p h e u q b) =
      said-near d all x h ∙ by_value d long last parent x.stand e ((text-test.valid d k).1 u) q (breaks-value d y p b)

-- ---- every path that leads anywhere is good or wrong
pub record Told (s : Stand) : Type 0 where
  pub key : s.key ≡ nothing → ⊥
  pub value : s.value ≡ nothing → ⊥

pub record Answered (d : List ℕ) (s : Stand) : Type 0 where
  pub told : Told s
  pub inside : TextInside d s

abbrev Verdict : List ℕ → Item → Type 0
Verdict d x = Good d x ⊎ ((f : ℕ) × ((p : ℕ) × Wrong d x f p))

module _ (d : List ℕ) (x : Item) (a : Answered d x.stand) (h : length x.path ≤ 100) where
  module _ (k : Span) (ke : x.stand.key ≡ says k) (t : text_at d k ≡ Ok _) where
    by-text : (y : Value) → x.stand.value ≡ says y → (r : Result ⊤ ℕ) → value_text d y ≡ r → Verdict d x
    by-text y e (Ok v) u =
        inl
        record {
          near = h;
          readable =
              record {
                key = k;
                key_said = ke;
                key_utf8 = (text-test.valid d k).0 t;
                value = y;
                value_said = e;
                value_utf8 = (value-test d y).0 u;
              };
        }
    by-text y e (Err p) u =
        inr (9, (p, value-octets p h ke ((text-test.valid d k).0 t) e (value-breaks d y p (λ w z q. a.inside.string (e ∙ ap says q)) u)))

    by_said : (y : Said Value) → x.stand.value ≡ y → Verdict d x
    by_said (says y) e = by-text y e (value_text d y) refl
    by_said nothing e = absurd (a.told.value e)
    by_said (refuses n) e = inr (n, (x.stand.place, value-refused h ke ((text-test.valid d k).0 t) e))

  by-key-text : (k : Span) → x.stand.key ≡ says k → (r : Result ⊤ ℕ) → text_at d k ≡ r → Verdict d x
  by-key-text k ke (Ok v) t = by_said k ke t x.stand.value refl
  by-key-text k ke (Err p) t = inr (9, (p, key-octets p h ke ((text-test.breaks d k p (a.inside.key ke)).0 t)))

  by-key-said : (k : Said Span) → x.stand.key ≡ k → Verdict d x
  by-key-said (says k) e = by-key-text k e (text_at d k) refl
  by-key-said nothing e = absurd (a.told.key e)
  by-key-said (refuses n) e = inr (n, (x.stand.key_place, key-refused h e))

pub verdict : (d : List ℕ) (x : Item) → Answered d x.stand → Good d x ⊎ ((f : ℕ) × ((p : ℕ) × Wrong d x f p))
verdict d x a = go (ltb 100 (length x.path)) refl
  where
    go : (b : Bool) → ltb 100 (length x.path) ≡ b → Verdict d x
    go true q = inr (11, (x.stand.place, deep (ltb-true 100 (length x.path) q)))
    go false q = by-key-said d x a (ltb-false 100 (length x.path) q) x.stand.key refl

-- ---- a path that leads anywhere is answered
read-answered : {A : Type 0} (r : Result A Refusal) → read_said r ≡ nothing → ⊥
read-answered (Ok x) e = cc
read-answered (Err f) e = cc

says-answered : {A : Type 0} (x : A) → says x ≡ nothing → ⊥
says-answered x e = let z : ◌≡◌ {A = ℕ} 0 1 = cc in omega arith

module _ (d : List ℕ) where
  entry-answered : (v : View) (i : ℕ) → Told (entry_stand d v i)
  entry-answered v i = record { key = go v.kind.object; value = read-answered (entry_read d v i) }
    where
      go : (b : Bool) → cond b (read_said (key_read d v i)) (says no_key) ≡ nothing → ⊥
      go true e = read-answered (key_read d v i) e
      go false e = says-answered no_key e

  below-answered : {s t : Stand} {π : List ℕ} → SaidStands d s.value → Told s → Below d s π t → Told t
  below-answered w a here = a
  below-answered {s = s} w a (down {i = i} h b) =
      below-answered (elem-stands d (view_in s.value) i)
      (subst Told (entry-child d s.value w i h) (entry-answered (view_in s.value) i)) b

  pub leads-answered : {π : List ℕ} {s : Stand} → Leads d π s → Answered d s
  leads-answered {π} {s} b =
      record {
        told = below-answered (root_stands d) (record { key = says-answered no_key; value = read-answered (root_read d) }) b;
        inside = texts-inside d π s b;
      }
