-- A document that differs only past the end of a view gives the same answers for that view: no definition reads a byte at the end or past it, and
-- whether the view is a container's is decided there too.
-- Assumes nothing.
use mathlib.Core.Path.{◌≡◌, refl, sym, ap, ◌∙◌}
use mathlib.Core.Bool.{Bool, true, false, cond, not}
use mathlib.Core.List.{List}
use Prim.Native.Nat.{ℕ, zero, suc, ◌+◌, ◌≤◌, ◌<◌}
use native.Mathlib.Nat.{le_refl}
use native.Mathlib.Omega.{arith}
use lib.Dec.{leb}
use lib.ListN.{length, get_or, take}
use mir.Syntax.{w16, w32, w64}
use mir.Val.{to_z}
use borrow.Author.Tests.{leb-false, le-ltb, lt-leb, eq-eqb}
use Rattle.raw.specs.Numbers.{le}
use Rattle.length_field.proofs.Bounds.{length-same}
use Rattle.raw.proofs.Bounds.{le_same}
use Rattle.codes.specs.Literals.{type_of as literal_type}
use Rattle.columns.specs.Columns.{type_of as column_type}
use Rattle.codes.specs.Types.{type_of}
use Rattle.codes.specs.declared.types.JsonbType.{JsonbType}
use Rattle.codes.specs.declared.types.JsonbType.TheVariants as type
use Rattle.std.specs.Prelude.{Result, Ok, Err}
use Rattle.refusal.specs.declared.Refusal.{Refusal}
use Rattle.refusal.specs.declared.Refusal.TheVariants as refusal
use Rattle.layout.specs.Layout.{offset_size, header_size, offset_at, key_place}
use Rattle.content.specs.Reading.{kind, viewed, literal_of, literal_at, number_at, double_of, part_at, part_of, string_at, opaque_of, opaque_at}
use Rattle.content.specs.Reading.{content_at, read_at}
use Rattle.header.specs.Headers.{header_at, place_of, header_read}
use Rattle.layout.specs.declared.Kind.{Kind}
use Rattle.value.specs.declared.View.{View}
use Rattle.value.specs.declared.Number.{Number}
use Rattle.value.specs.declared.Number.TheVariants.{Int, Uint}
use Rattle.value.specs.declared.Scalar.TheVariants as scalar
use Rattle.header.specs.declared.Header.{Header}
use Rattle.header.proofs.Placed.{placed-within, placed-so}
use Rattle.value.specs.declared.Span.{Span}
use Rattle.value.specs.declared.Value.{Value}
use Rattle.gate.specs.Said.{Said, nothing, refuses, read_said}
use Rattle.entry.specs.Entries.{end_of, place_at, pointed_at, typed_entry, entry_of, entry_at, key_of, key_entry_at}
use Rattle.gate.specs.Before.{names, matches, gated, Whole, gate_of}
use Rattle.jsonb.specs.Views.{elem_at, key_at, count_at}
use Rattle.steps.specs.declared.Member.{Member}
use Rattle.steps.specs.Steps.{is_open, after, member_of, element_item, key_item, member_item}
use Rattle.layout.proofs.Inside.{value-inside}
use Rattle.gate.proofs.Gates.{matched, open-whole}
use Rattle.jsonb_laws.specs.Walked.{steps_to}
use Rattle.jsonb_laws.proofs.OwnEnd.{byte-same, take_less, reaches, header-ends, header-again}

-- ---- up to an end e, at which the documents are not yet different
module _ (a b : List ℕ) (e : ℕ) (s : take e a ≡ take e b) where
  -- a byte that is read after the test that it is there
  tested-same : {A : Type 0} (i : ℕ) (x : A) (f : ℕ → A) → cond (leb e i) x (f (get_or a i 0)) ≡ cond (leb e i) x (f (get_or b i 0))
  tested-same {A} i x f = go (leb e i) refl
    where
      go : (t : Bool) → leb e i ≡ t → cond t x (f (get_or a i 0)) ≡ cond t x (f (get_or b i 0))
      go true h = refl
      go false h = ap f (byte-same a b e s i (leb-false e i h))

  offset-same : (k : Kind) (i : ℕ) → offset_at a k i e ≡ offset_at b k i e
  unfolding offset_at
  offset-same k i = rw (le_same 4 a b i e s, le_same 2 a b i e s)

  header-same : (k : Kind) (i : ℕ) → header_at a k i e ≡ header_at b k i e
  unfolding header_at
  header-same k i = rw (offset-same k i, offset-same k (i + offset_size k))

  part_same : (i : ℕ) → part_at a i e ≡ part_at b i e
  unfolding part_at
  part_same i = rw (length-same a b i e s) refl

  literal-same : (i : ℕ) → literal_at a i e ≡ literal_at b i e
  unfolding literal_at
  literal-same i = tested-same i (Err refusal.Cut) (λ (n : ℕ). literal_of (literal_type n))

  string-same : (i : ℕ) → string_at a i e ≡ string_at b i e
  unfolding string_at
  string-same i = ap (part_of type.String scalar.String) (part_same i)

  opaque-same : (i : ℕ) → opaque_at a i e ≡ opaque_at b i e
  unfolding opaque_at
  opaque-same i =
      tested-same i (Err refusal.Cut) (λ (n : ℕ). opaque_of (column_type n) (part_at a (i + 1) e))
      ∙ ap (λ (p : Result Span Refusal). cond (leb e i) (Err refusal.Cut) (opaque_of (column_type (get_or b i 0)) p)) (part_same (i + 1))

  number_same : (t : JsonbType) (w : ℕ) (i : ℕ) (f : ℕ → Number) → number_at t w i e (f (le w a i e)) ≡ number_at t w i e (f (le w b i e))
  number_same t w i f = ap (λ (n : ℕ). number_at t w i e (f n)) (le_same w a b i e s)

  pub content-same : (t : JsonbType) (i : ℕ) → content_at a t i e ≡ content_at b t i e
  unfolding content_at
  content-same type.SmallObject i = ap (viewed (kind true false) i) (header-same (kind true false) i)
  content-same type.LargeObject i = ap (viewed (kind true true) i) (header-same (kind true true) i)
  content-same type.SmallArray i = ap (viewed (kind false false) i) (header-same (kind false false) i)
  content-same type.LargeArray i = ap (viewed (kind false true) i) (header-same (kind false true) i)
  content-same type.Literal i = literal-same i
  content-same type.Int16 i = number_same type.Int16 2 i (λ (n : ℕ). Int (to_z w16 n))
  content-same type.Uint16 i = number_same type.Uint16 2 i Uint
  content-same type.Int32 i = number_same type.Int32 4 i (λ (n : ℕ). Int (to_z w32 n))
  content-same type.Uint32 i = number_same type.Uint32 4 i Uint
  content-same type.Int64 i = number_same type.Int64 8 i (λ (n : ℕ). Int (to_z w64 n))
  content-same type.Uint64 i = number_same type.Uint64 8 i Uint
  content-same type.Double i = number_same type.Double 8 i double_of
  content-same type.String i = string-same i
  content-same type.Opaque i = opaque-same i

  pub read_same : (t : JsonbType) (i : ℕ) → length a ≤ 16777216 → length b ≤ 16777216 → e ≤ length a → e ≤ length b → read_at a t i e ≡ read_at b t i e
  unfolding read_at place_of
  read_same t i sa sb ea eb =
      rw (le-ltb 16777216 (length a) sa, le-ltb 16777216 (length b) sb, le-ltb (length a) e ea, le-ltb (length b) e eb, content-same t i)

-- ---- the entries of a view at whose end the documents are not yet different
module _ (a b : List ℕ) (v : View) (s : take (end_of v) a ≡ take (end_of v) b) where
  pub key-same : (i : ℕ) → key_entry_at a v i ≡ key_entry_at b v i
  unfolding key_entry_at key_of
  key-same i =
      let at = v.start + key_place v.kind i in
      rw (offset-same a b (end_of v) s v.kind at, le_same 2 a b (at + offset_size v.kind) (end_of v) s)

  module _ (sa : length a ≤ 16777216) (sb : length b ≤ 16777216) (ea : v.start + v.size ≤ length a) (eb : v.start + v.size ≤ length b) where
    pointed-same : (t : JsonbType) (body : ℕ) → pointed_at a v t body ≡ pointed_at b v t body
    unfolding pointed_at
    pointed-same t body =
        let o = v.start + offset_at b v.kind body (end_of v) in
        rw (offset-same a b (end_of v) s v.kind body, read_same a b (end_of v) s t o sa sb ea eb)

    typed-same : (t : JsonbType) (body : ℕ) → body + offset_size v.kind ≤ end_of v → typed_entry a v t body ≡ typed_entry b v t body
    unfolding typed_entry
    typed-same t body h =
        let m = body + offset_size v.kind in
        rw (read_same a b m (take_less a b m (end_of v) h s) t body sa sb (omega arith) (omega arith), pointed-same t body)

    entry-of-same : (r : Result JsonbType Refusal) (body : ℕ) → body + offset_size v.kind ≤ end_of v → entry_of a v r body ≡ entry_of b v r body
    entry-of-same (Ok t) body h = typed-same t body h
    entry-of-same (Err r) body h = refl

    pub entry-same : (i : ℕ) → header_size v.kind v.count ≤ v.size → i < v.count → entry_at a v i ≡ entry_at b v i
    unfolding entry_at
    entry-same i h l =
        let p = value-inside v.kind v.count i l in
        ap (λ (n : ℕ). entry_of a v (type_of n) (place_at v i + 1)) (byte-same a b (end_of v) s (place_at v i) (omega arith))
        ∙ entry-of-same (type_of (get_or b (place_at v i) 0)) (place_at v i + 1) (omega arith)

-- ---- what a view gives, where the documents are the same up to its end
gate-open : (d : List ℕ) (v : View) (i : ℕ) → length d ≤ 16777216 → matches d v ≡ true → i < v.count → gate_of d v true i ≡ Ok true
unfolding gate_of
gate-open d v i sd md l = rw (le-ltb 16777216 (length d) sd, md, lt-leb v.count i l)

whole : (d : List ℕ) (v : View) (i : ℕ) → length d ≤ 16777216 → matches d v ≡ true → i < v.count → Whole d v i
whole d v i sd md l = open-whole d v true i (gate-open d v i sd md l)

matches-again : (a b : List ℕ) (v : View) → take (end_of v) a ≡ take (end_of v) b → length b ≤ 16777216 → matches a v ≡ true → matches b v ≡ true
unfolding matches header_read
matches-again a b v s sb m =
    let k = v.kind in
    let i = v.start in
    let h = (placed-so a i (length a) (header_at a k i (length a)) (matched a v m)).0 in
    let y = reaches a b (end_of v) s (header-ends a k i (length a) v.count v.size h) in
    let r = placed-within b i (length b) (record { order = omega arith; inside = le_refl (length b); short = sb }) in
    ap (λ (x : Result Header Refusal). names x v.count v.size) (r ∙ header-again a k i (length a) v.count v.size h b (length b) s y)
    ∙ rw (eq-eqb v.count v.count refl, eq-eqb v.size v.size refl)

agree : (m n : Bool) → (m ≡ true → n ≡ true) → (n ≡ true → m ≡ true) → m ≡ n
agree true n p q = sym (p refl)
agree false true p q = q refl
agree false false p q = refl

module _ (a b : List ℕ) (v : View) (s : take (end_of v) a ≡ take (end_of v) b) (sa : length a ≤ 16777216) (sb : length b ≤ 16777216) where
  pub matches-same : matches a v ≡ matches b v
  matches-same = agree (matches a v) (matches b v) (matches-again a b v s sb) (matches-again b a v (sym s) sa)

  -- what comes after the gate need be the same only where both views match
  gated-same : {A : Type 0} (asked : Bool) (i : ℕ) (x y : Said A) → (matches a v ≡ true → matches b v ≡ true → i < v.count → x ≡ y) →
      gated a v asked i x ≡ gated b v asked i y
  unfolding gated
  gated-same {A} asked i x y f =
      rw (le-ltb 16777216 (length a) sa, le-ltb 16777216 (length b) sb) (go asked (matches a v) (matches b v) (leb v.count i) matches-same refl refl refl)
    where
      go : (q m n t : Bool) → m ≡ n → matches a v ≡ m → matches b v ≡ n → leb v.count i ≡ t →
          cond q (cond m (cond t nothing x) (refuses 13)) (refuses 13) ≡ cond q (cond n (cond t nothing y) (refuses 13)) (refuses 13)
      go false m n t e ma mb h = refl
      go true true true true e ma mb h = refl
      go true true true false e ma mb h = f ma mb (leb-false v.count i h)
      go true true false t e ma mb h = cc
      go true false true t e ma mb h = cc
      go true false false t e ma mb h = refl

  pub count_same : count_at a v ≡ count_at b v
  unfolding count_at
  count_same = rw (le-ltb 16777216 (length a) sa, le-ltb 16777216 (length b) sb, matches-same)

  -- whether there is an item, and so the place that follows
  pub open-same : (asked : Bool) (i : ℕ) → is_open a v asked i ≡ is_open b v asked i
  unfolding is_open
  open-same asked i = rw (le-ltb 16777216 (length a) sa, le-ltb 16777216 (length b) sb, matches-same)

  pub steps-same : (asked : Bool) (n : ℕ) → steps_to a v asked n ≡ steps_to b v asked n
  unfolding steps_to
  steps-same asked zero = refl
  steps-same asked (suc n) =
      ap (λ (p : ℕ). after (is_open a v asked p) p) (steps-same asked n)
      ∙ ap (λ (c : Bool). after c (steps_to b v asked n)) (open-same asked (steps_to b v asked n))

  module _ (i : ℕ) where
    said_same : matches a v ≡ true → matches b v ≡ true → i < v.count → read_said (entry_at a v i) ≡ read_said (entry_at b v i)
    said_same ma mb l =
        let wa = whole a v i sa ma l in
        let wb = whole b v i sb mb l in
        ap read_said (entry-same a b v s sa sb wa.inside wb.inside i wa.header l)

    part-said-same : read_said (key_entry_at a v i) ≡ read_said (key_entry_at b v i)
    part-said-same = ap read_said (key-same a b v s i)

    pub elem-at-same : elem_at a v i ≡ elem_at b v i
    unfolding elem_at
    elem-at-same = gated-same true i (read_said (entry_at a v i)) (read_said (entry_at b v i)) said_same

    pub key-at-same : key_at a v i ≡ key_at b v i
    unfolding key_at
    key-at-same = gated-same v.kind.object i (read_said (key_entry_at a v i)) (read_said (key_entry_at b v i)) (λ ma mb l. part-said-same)

    pub element-item-same : element_item a v i ≡ element_item b v i
    unfolding element_item
    element-item-same = gated-same (not v.kind.object) i (read_said (entry_at a v i)) (read_said (entry_at b v i)) said_same

    pub key-item-same : key_item a v i ≡ key_item b v i
    unfolding key_item
    key-item-same = gated-same v.kind.object i (read_said (key_entry_at a v i)) (read_said (key_entry_at b v i)) (λ ma mb l. part-said-same)

    abbrev member : List ℕ → Said Member
    member d = member_of (read_said (key_entry_at d v i)) (read_said (entry_at d v i))

    member-same : matches a v ≡ true → matches b v ≡ true → i < v.count → member a ≡ member b
    member-same ma mb l =
        ap (λ (k : Said Span). member_of k (read_said (entry_at a v i))) part-said-same
        ∙ ap (λ (x : Said Value). member_of (read_said (key_entry_at b v i)) x) (said_same ma mb l)

    pub member-item-same : member_item a v i ≡ member_item b v i
    unfolding member_item
    member-item-same = gated-same v.kind.object i (member a) (member b) member-same
