-- A value that is judged by what is seen of it: refused, no text, without room, or listed; and what the event says that is then laid.
-- Assumes nothing.
use mathlib.Core.Path.{◌≡◌, refl, sym, ap, subst, ◌∙◌}
use mathlib.Core.Bool.{Bool, true, false, cond}
use mathlib.Core.List.{List}
use Prim.Native.Nat.{ℕ, ◌+◌, ◌*◌, ◌-◌, ◌%◌, ◌≤◌, ◌<◌}
use native.Mathlib.Omega.{arith}
use lib.Dec.{ltb, eqb}
use lib.ListN.{length, get_or}
use lib.Seq.{length-sets}
use borrow.Author.Tests.{lt-ltb, eq-eqb}
use Rattle.std.specs.Prelude.{Result, Ok, Err, Some, None, ⊤}
use Rattle.refusal.specs.declared.Refusal.{Refusal}
use Rattle.refusal.specs.Refusals.{number_of}
use Rattle.codes.specs.Types.{code_of as type_code}
use Rattle.layout.specs.declared.Kind.{Kind}
use Rattle.value.specs.declared.Span.{Span}
use Rattle.value.specs.declared.View.{View}
use Rattle.value.specs.declared.Value.{Value}
use Rattle.value.specs.declared.Value.TheVariants as value
use Rattle.content.specs.Reading.{kind, view}
use Rattle.gate.specs.Said.{read_said}
use Rattle.events.specs.declared.Event.{Event}
use Rattle.events.specs.declared.Spot.{Spot}
use Rattle.events.specs.Walked.{Done, Stopped}
use Rattle.events.specs.Events.{span, numbers, wide, kind_code, code_of, part_of, extra_of, event_of}
use Rattle.events.specs.Text.{text_at, value_text}
use Rattle.events.specs.Lay.{Laid, laid, lay, put, room}
use Rattle.events.proofs.Cases.{put-number}
use Rattle.events.proofs.Room.{room_for, room-same}
use Rattle.sight.specs.declared.Sight.{Sight}
use Rattle.sight.specs.Sights.{sight, sight_of}
use Rattle.sight.specs.Course.{Sound, SoundValue}
use Rattle.paths.specs.Judged.{Judged, good, text_then, value_judged, node, childless}
use Rattle.root_event.specs.Root.{leads_of, leads_to}
use Rattle.walk.specs.Course.{seen_text, container_by, seen_container, listed_container}
use Rattle.walk.specs.Tested.{Last}

-- ---- what is seen of a value is text exactly when the value is, and breaks where it breaks
no-string : (k : Kind) → eqb (kind_code k) 12 ≡ false
unfolding kind_code
no-string k = go k.object k.large
  where
    go : (a b : Bool) → eqb (cond a (cond b 1 0) (cond b 3 2)) 12 ≡ false
    go true true = refl
    go true false = refl
    go false true = refl
    go false false = refl

abbrev seen : Value → ℕ → Sight
seen x from = sight (code_of x) (part_of x from) (extra_of x)

seen-value : (d : List ℕ) (from : ℕ) (x : Value) → SoundValue x → seen_text d (seen x from) ≡ value_text d x
unfolding seen_text
seen-value d from (value.Scalar t s) h = h.1 d from
seen-value d from (value.Container v) h = ap (λ (b : Bool). cond b (text_at d (span v.start v.size)) (Ok _)) (no-string v.kind)

-- ---- the container that is seen is the one that the value is
container-seen : (v : View) → container_by (kind_code v.kind) v.start v.size v.count ≡ Some v
unfolding kind_code
container-seen v = go v.kind.object v.kind.large
  where
    go : (a b : Bool) → container_by (cond a (cond b 1 0) (cond b 3 2)) v.start v.size v.count ≡ Some (view v.start v.size v.count (kind a b))
    go true true = refl
    go true false = refl
    go false true = refl
    go false false = refl

seen-leads : (x : Value) (from : ℕ) → SoundValue x → seen_container (seen x from) ≡ leads_of x
unfolding seen_container
seen-leads (value.Scalar t s) from h = ap (λ (b : Bool). cond b None (Some (view (part_of (value.Scalar t s) from).start (part_of (value.Scalar t s) from).len (extra_of (value.Scalar t s)) (kind (ltb (type_code t) 2) (eqb (type_code t % 2) 1))))) (lt-ltb 3 (type_code t) h.0)
seen-leads (value.Container v) from h = container-seen v

-- ---- what was read, by what is seen of it
record Seen (r : Result Value Refusal) (from : ℕ) (x : Sight) : Type 0 where
  value : Value
  read : r ≡ Ok value
  shows : x ≡ seen value from

seen-so : (r : Result Value Refusal) (from : ℕ) {x : Sight} → sight_of r from ≡ Ok x → Seen r from x
seen-so (Ok y) from {x} e = record { value = y; read = refl; shows = cc }
seen-so (Err f) from e = cc

put-length : (out : List ℕ) (n : ℕ) (e : Event) → length (put out n e) ≡ length out
unfolding put
put-length out n e = length-sets out (wide * n) (numbers e)

module _ (d out : List ℕ) (n : ℕ) (s : Spot) where
  abbrev one : Judged → Laid
  one j = lay (node j s.place childless) out n

  abbrev judged_as : Result Value Refusal → Laid
  judged_as r = one (value_judged d s (read_said r))

  abbrev shown : Sight → Event
  shown x = record { code = x.code; depth = s.depth; position = s.position; key = s.key; part = x.part; extra = x.extra; parent = s.parent }

  pub value-refused : (r : Result Value Refusal) {f : Refusal} → sight_of r s.from ≡ Err f → judged_as r ≡ laid (Stopped (number_of f) s.place n) out
  unfolding lay
  value-refused (Ok x) e = cc
  value-refused (Err g) {f} e = let q : g ≡ f = cc in ap (λ (a : Refusal). laid (Stopped (number_of a) s.place n) out) q

  module _ (r : Result Value Refusal) (h : Sound r) {x : Sight} (xe : sight_of r s.from ≡ Ok x) where
    abbrev so : Seen r s.from x
    so = seen-so r s.from xe

    sound : SoundValue so.value
    sound = subst Sound so.read h

    text : seen_text d x ≡ value_text d so.value
    text = ap (seen_text d) so.shows ∙ seen-value d s.from so.value sound

    -- by what is said of its text
    abbrev by : Result ⊤ ℕ → Laid
    by t = one (text_then t (good (event_of s so.value) so.value))

    by-text : {t : Result ⊤ ℕ} → seen_text d x ≡ t → judged_as r ≡ by t
    by-text e = ap judged_as so.read ∙ ap by (sym text ∙ e)

    pub value-breaks : {q : ℕ} → seen_text d x ≡ Err q → judged_as r ≡ laid (Stopped 9 q n) out
    unfolding lay
    value-breaks e = by-text e

    -- whether there is room decides then
    pub value-fits : {u : ⊤} → seen_text d x ≡ Ok u →
        judged_as r ≡ cond (ltb n (room out)) (laid (Done (n + 1)) (put out n (shown x))) (laid (Stopped 12 s.place n) out)
    unfolding lay
    value-fits e = by-text e ∙ ap (λ (y : Sight). cond (ltb n (room out)) (laid (Done (n + 1)) (put out n (shown y))) (laid (Stopped 12 s.place n) out)) (sym so.shows)

    pub value-leads : seen_container x ≡ leads_to r
    value-leads = ap seen_container so.shows ∙ seen-leads so.value s.from sound ∙ sym (ap leads_to so.read)

-- ---- an event whose key and whose string are text was tested
module _ (d out : List ℕ) (n : ℕ) (e : Event) (f : n < room out) (kt : text_at d e.key ≡ Ok _) (vt : e.code ≡ 12 → text_at d e.part ≡ Ok _) where
  abbrev o : List ℕ
  o = put out n e

  there : wide * (n + 1) - wide ≡ wide * n
  there = omega arith

  within : wide * n + wide ≤ length out
  within = room_for out n f

  number : (k : ℕ) → k < wide → get_or o (wide * (n + 1) - wide + k) 0 ≡ get_or (numbers e) k 0
  number k h = ap (λ (a : ℕ). get_or o (a + k) 0) there ∙ put-number out n e within k h

  first : get_or o (wide * (n + 1) - wide) 0 ≡ e.code
  first =
      let z : wide * (n + 1) - wide ≡ wide * n + 0 = omega arith in
      ap (λ (a : ℕ). get_or o a 0) z ∙ put-number out n e within 0 (omega arith)

  pub event-last : Last d o (n + 1)
  event-last =
      record {
        some = omega arith;
        fits = omega (arith, room-same o out (put-length out n e));
        inside = omega (arith, put-length out n e, within);
        key =
            ap (λ (a : ℕ). text_at d (span a (get_or o (wide * (n + 1) - wide + 4) 0))) (number 3 (omega arith))
            ∙ ap (λ (a : ℕ). text_at d (span e.key.start a)) (number 4 (omega arith)) ∙ kt;
        text =
            λ q. ap (λ (a : ℕ). text_at d (span a (get_or o (wide * (n + 1) - wide + 6) 0))) (number 5 (omega arith))
            ∙ ap (λ (a : ℕ). text_at d (span e.part.start a)) (number 6 (omega arith)) ∙ vt (sym first ∙ q);
      }

-- the container that an event shows is the one that was seen, where the event shows what was seen
pub put-leads : (out : List ℕ) (n : ℕ) (e : Event) (x : Sight) → n < room out → e.code ≡ x.code → e.part ≡ x.part → e.extra ≡ x.extra →
    listed_container (put out n e) n ≡ seen_container x
unfolding listed_container seen_container
put-leads out n e x f ce pe xe =
    let w : wide * n + wide ≤ length out = room_for out n f in
    let z : wide * n ≡ wide * n + 0 = omega arith in
    let o : List ℕ = put out n e in
    ap (λ (c : ℕ). container_by c (get_or o (wide * n + 5) 0) (get_or o (wide * n + 6) 0) (get_or o (wide * n + 7) 0)) (ap (λ (a : ℕ). get_or o a 0) z ∙ put-number out n e w 0 (omega arith) ∙ ce)
    ∙ ap (λ (s : ℕ). container_by x.code s (get_or o (wide * n + 6) 0) (get_or o (wide * n + 7) 0)) (put-number out n e w 5 (omega arith) ∙ ap (λ (p : Span). p.start) pe)
    ∙ ap (λ (l : ℕ). container_by x.code x.part.start l (get_or o (wide * n + 7) 0)) (put-number out n e w 6 (omega arith) ∙ ap (λ (p : Span). p.len) pe)
    ∙ ap (λ (k : ℕ). container_by x.code x.part.start x.part.len k) (put-number out n e w 7 (omega arith) ∙ xe)

-- what is seen and is a string is text where what is seen is
pub string-text : (d : List ℕ) (x : Sight) {u : ⊤} → seen_text d x ≡ Ok u → x.code ≡ 12 → text_at d x.part ≡ Ok u
unfolding seen_text
string-text d x e q = sym (ap (λ (b : Bool). cond b (text_at d x.part) (Ok _)) (eq-eqb x.code 12 q)) ∙ e

-- and a value that has the code of strings is a string that is text where the value is
pub code-text : (d : List ℕ) (from : ℕ) (x : Value) {u : ⊤} → SoundValue x → value_text d x ≡ Ok u → code_of x ≡ 12 → text_at d (part_of x from) ≡ Ok u
code-text d from x h t q = string-text d (seen x from) (seen-value d from x h ∙ t) q
