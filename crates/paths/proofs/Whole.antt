-- A view that reading gives is that of a whole container in the document: a header that fits in the enclosing container fits in the document. So the
-- walk, which reads entries by the view alone, reads what elements and keys by position are.
-- Assumes nothing.
use mathlib.Core.Path.{◌≡◌, refl, sym, ap, ◌∙◌, subst}
use mathlib.Core.Bool.{Bool, true, false, cond}
use mathlib.Core.List.{List}
use Prim.Native.Nat.{ℕ, ◌+◌, ◌*◌, ◌-◌, ◌≤◌, ◌<◌}
use native.Mathlib.Nat.{le_refl}
use native.Mathlib.Omega.{arith}
use lib.Dec.{ltb, leb, eqb}
use lib.ListN.{length, get_or}
use borrow.Author.Tests.{ltb-false, le-ltb, lt-leb, eq-eqb}
use Rattle.raw.specs.Numbers.{le}
use Rattle.raw.proofs.Bounds.{le-inside}
use Rattle.codes.specs.Literals.{type_of as literal_type}
use Rattle.columns.specs.Columns.{type_of as column_type}
use Rattle.codes.specs.Types.{type_of}
use Rattle.codes.specs.declared.types.JsonbType.{JsonbType}
use Rattle.codes.specs.declared.types.JsonbType.TheVariants as type
use Rattle.std.specs.Prelude.{Result, Ok, Err, ⊤}
use Rattle.refusal.specs.declared.Refusal.{Refusal}
use Rattle.refusal.specs.declared.Refusal.TheVariants as refusal
use Rattle.layout.specs.Layout.{offset_size, header_size, offset_at}
use Rattle.layout.specs.declared.Kind.{Kind}
use Rattle.layout.proofs.Inside.{size-two}
use Rattle.value.specs.declared.View.{View}
use Rattle.value.specs.declared.Span.{Span}
use Rattle.value.specs.declared.Number.{Number}
use Rattle.value.specs.declared.Scalar.TheVariants as scalar
use Rattle.value.specs.declared.Value.{Value}
use Rattle.value.specs.declared.Value.TheVariants as value
use Rattle.content.specs.Reading.{kind, view, viewed, container_at, literal_of, literal_at, number_at, part_at, string_at, scalar_of}
use Rattle.content.specs.Reading.{opaque_of, opaque_at, content_at, read_at}
use Rattle.header.specs.Headers.{header, header_at, header_read, place_of, then}
use Rattle.header.specs.Course.{Within}
use Rattle.header.proofs.Placed.{right-place, placed-within}
use Rattle.header.specs.declared.Header.{Header}
use Rattle.entry.specs.Entries.{end_of, is_inlined, place_at, key_place_at, pointed_at, typed_entry, entry_at, entry_read, key_entry_at, key_read, value_start}
use Rattle.gate.specs.Said.{Said, says, nothing, refuses, read_said}
use Rattle.jsonb.specs.Views.{typed_at, root_read, elem_at, key_at}
use Rattle.gate.specs.Before.{names, matches, gated, Whole, gate_of}
use Rattle.gate.proofs.Gates.{open-whole, whole-entry, whole-key}
use Rattle.events.specs.Events.{no_key}
use Rattle.paths.specs.Judged.{Stand}
use Rattle.paths.specs.Paths.{root_stand, child, view_in, count_in}
use Rattle.paths.specs.Levels.{entry_stand}

-- a view of a whole container in a document that is not too long
pub record Stands (d : List ℕ) (v : View) : Type 0 where
  pub short : length d ≤ 16777216
  pub whole : matches d v ≡ true

-- of a value that is read, where it is a container
abbrev ValueStands : List ℕ → Value → Type 0
ValueStands d (value.Scalar t s) = Unit {0}
ValueStands d (value.Container v) = Stands d v

abbrev ReadStands : List ℕ → Result Value Refusal → Type 0
ReadStands d (Ok x) = ValueStands d x
ReadStands d (Err r) = Unit {0}

abbrev pub SaidStands : List ℕ → Said Value → Type 0
SaidStands d (says x) = ValueStands d x
SaidStands d nothing = Unit {0}
SaidStands d (refuses n) = Unit {0}

-- ---- a number that ends in time is the same up to a later end
offset-far : (d : List ℕ) (k : Kind) (i e f : ℕ) → i + offset_size k ≤ e → e ≤ f → offset_at d k i e ≡ offset_at d k i f
unfolding offset_at offset_size
offset-far d k i e f h l = go k.large h
  where
    far : (w : ℕ) → i + w ≤ e → le w d i e ≡ le w d i f
    far w h = le-inside w d i e h ∙ sym (le-inside w d i f (omega arith))

    go : (b : Bool) → i + cond b 4 2 ≤ e → cond b (le 4 d i e) (le 2 d i e) ≡ cond b (le 4 d i f) (le 2 d i f)
    go true h = far 4 h
    go false h = far 2 h

-- ---- a header that fits up to an end fits up to the document's
module _ (d : List ℕ) (k : Kind) (i e : ℕ) (w : Within (length d) i e) where
  abbrev n : ℕ
  n = offset_at d k i e

  abbrev s : ℕ
  s = offset_at d k (i + offset_size k) e

  abbrev tests : Bool → Bool → Bool → ℕ → ℕ → Result Header Refusal
  tests a b c n s = cond a (Err refusal.Cut) (cond b (Err refusal.Size) (cond c (Err refusal.Size) (Ok (header n s))))

  header-far : 2 * offset_size k ≤ e - i → s ≤ e - i → header_size k n ≤ s → header_at d k i (length d) ≡ Ok (header n s)
  unfolding header_at
  header-far a b c =
      let z = size-two k in
      let p : offset_at d k i e ≡ offset_at d k i (length d) = offset-far d k i e (length d) (omega arith) w.inside in
      let q : offset_at d k (i + offset_size k) e ≡ offset_at d k (i + offset_size k) (length d) =
      offset-far d k (i + offset_size k) e (length d) (omega arith) w.inside in
      let x : ltb (length d - i) (2 * offset_size k) ≡ false = le-ltb (length d - i) (2 * offset_size k) (omega arith) in
      let y : ltb (length d - i) s ≡ false = le-ltb (length d - i) s (omega arith) in
      let t : ltb s (header_size k n) ≡ false = le-ltb s (header_size k n) c in
      rw (← p, ← q, x, y, t)

  matches-far : 2 * offset_size k ≤ e - i → s ≤ e - i → header_size k n ≤ s → Stands d (view i s n k)
  unfolding matches header_read
  matches-far a b c =
      let p = placed-within d i (length d) {x = header_at d k i (length d)} (record { order = omega arith; inside = le_refl (length d); short = w.short }) in
      record {
        short = w.short;
        whole =
            ap (λ (h : Result Header Refusal). names h n s) (p ∙ header-far a b c)
            ∙ ap (λ (t : Bool). cond t (eqb s s) false) (eq-eqb n n refl)
            ∙ eq-eqb s s refl;
      }

  container-stands : ReadStands d (container_at d k i e)
  unfolding header_at
  container-stands = go (ltb (e - i) (2 * offset_size k)) (ltb (e - i) s) (ltb s (header_size k n)) refl refl refl
    where
      go : (a b c : Bool) → ltb (e - i) (2 * offset_size k) ≡ a → ltb (e - i) s ≡ b → ltb s (header_size k n) ≡ c →
          ReadStands d (viewed k i (tests a b c n s))
      go true b c p q r = tt
      go false true c p q r = tt
      go false false true p q r = tt
      go false false false p q r =
          matches-far (ltb-false (e - i) (2 * offset_size k) p) (ltb-false (e - i) s q) (ltb-false s (header_size k n) r)

-- ---- scalars are no containers
module _ (d : List ℕ) where
  -- what comes after an answer that may be refused
  then-stands : {A : Type 0} (x : Result A Refusal) (f : A → Result Value Refusal) → ((a : A) → ReadStands d (f a)) → ReadStands d (then x f)
  then-stands (Ok a) f h = h a
  then-stands (Err r) f h = tt

  number-stands : (t : JsonbType) (w i e : ℕ) (x : Number) → ReadStands d (number_at t w i e x)
  unfolding number_at
  number-stands t w i e x = go (ltb (e - i) w)
    where
      go : (b : Bool) → ReadStands d (cond b (Err refusal.Cut) (scalar_of t (scalar.Number x)))
      go true = tt
      go false = tt

  literal-stands : (i e : ℕ) → ReadStands d (literal_at d i e)
  unfolding literal_at
  literal-stands i e = go (leb e i)
    where
      go : (b : Bool) → ReadStands d (cond b (Err refusal.Cut) (literal_of (literal_type (get_or d i 0))))
      go true = tt
      go false = then-stands (literal_type (get_or d i 0)) _ (λ l. tt)

  string-stands : (i e : ℕ) → ReadStands d (string_at d i e)
  unfolding string_at
  string-stands i e = then-stands (part_at d i e) _ (λ s. tt)

  opaque-stands : (i e : ℕ) → ReadStands d (opaque_at d i e)
  unfolding opaque_at
  opaque-stands i e = go (leb e i)
    where
      go : (b : Bool) → ReadStands d (cond b (Err refusal.Cut) (opaque_of (column_type (get_or d i 0)) (part_at d (i + 1) e)))
      go true = tt
      go false = then-stands (column_type (get_or d i 0)) _ (λ t. then-stands (part_at d (i + 1) e) _ (λ s. tt))

  -- ---- what is read at any place
  content-stands : (t : JsonbType) (i e : ℕ) → Within (length d) i e → ReadStands d (content_at d t i e)
  unfolding content_at
  content-stands type.SmallObject i e w = container-stands d (kind true false) i e w
  content-stands type.LargeObject i e w = container-stands d (kind true true) i e w
  content-stands type.SmallArray i e w = container-stands d (kind false false) i e w
  content-stands type.LargeArray i e w = container-stands d (kind false true) i e w
  content-stands type.Literal i e w = literal-stands i e
  content-stands type.Int16 i e w = number-stands type.Int16 2 i e _
  content-stands type.Uint16 i e w = number-stands type.Uint16 2 i e _
  content-stands type.Int32 i e w = number-stands type.Int32 4 i e _
  content-stands type.Uint32 i e w = number-stands type.Uint32 4 i e _
  content-stands type.Int64 i e w = number-stands type.Int64 8 i e _
  content-stands type.Uint64 i e w = number-stands type.Uint64 8 i e _
  content-stands type.Double i e w = number-stands type.Double 8 i e _
  content-stands type.String i e w = string-stands i e
  content-stands type.Opaque i e w = opaque-stands i e

  read-stands : (t : JsonbType) (i e : ℕ) → ReadStands d (read_at d t i e)
  unfolding read_at
  read-stands t i e = go (place_of d i e) refl
    where
      go : (r : Result ⊤ Refusal) → place_of d i e ≡ r → ReadStands d (then r (λ _. content_at d t i e))
      go (Ok u) q = content-stands t i e (right-place d i e q)
      go (Err r) q = tt

  -- ---- the root
  root-read : ReadStands d (root_read d)
  unfolding root_read
  root-read = go (ltb 16777216 (length d)) (eqb (length d) 0)
    where
      go : (a b : Bool) →
          ReadStands d (cond a (Err refusal.Document) (cond b (scalar_of type.Literal scalar.Null) (typed_at d (type_of (get_or d 0 0)) 1 (length d))))
      go true b = tt
      go false true = tt
      go false false = then-stands (type_of (get_or d 0 0)) _ (λ t. read-stands t 1 (length d))

  said-stands : (r : Result Value Refusal) → ReadStands d r → SaidStands d (read_said r)
  said-stands (Ok x) h = h
  said-stands (Err r) h = tt

  pub root_stands : SaidStands d (root_stand d).value
  root_stands = said-stands (root_read d) root-read

  -- ---- elements
  module _ (v : View) where
    abbrev pointer : ℕ → ℕ
    pointer body = v.start + offset_at d v.kind body (end_of v)

    pointed-stands : (t : JsonbType) (body : ℕ) → ReadStands d (pointed_at d v t body)
    unfolding pointed_at
    pointed-stands t body = go (ltb (pointer body) (body + offset_size v.kind)) (ltb (end_of v) (pointer body))
      where
        go : (a b : Bool) → ReadStands d (cond a (Err refusal.Pointer) (cond b (Err refusal.Pointer) (read_at d t (pointer body) (end_of v))))
        go true b = tt
        go false true = tt
        go false false = read-stands t (pointer body) (end_of v)

    entry-by : (body : ℕ) (t : JsonbType) → ReadStands d (typed_entry d v t body)
    unfolding typed_entry
    entry-by body t = go (is_inlined t v.kind.large)
      where
        go : (b : Bool) → ReadStands d (cond b (read_at d t body (body + offset_size v.kind)) (pointed_at d v t body))
        go true = read-stands t body (body + offset_size v.kind)
        go false = pointed-stands t body

    entry-stands : (i : ℕ) → ReadStands d (entry_at d v i)
    unfolding entry_at
    entry-stands i = then-stands (type_of (get_or d (place_at v i) 0)) _ (entry-by (place_at v i + 1))

    pub elem-stands : (i : ℕ) → SaidStands d (elem_at d v i)
    unfolding elem_at gated
    elem-stands i = go (ltb 16777216 (length d)) (matches d v) (leb v.count i)
      where
        go : (a m c : Bool) → SaidStands d (cond a (refuses 1) (cond m (cond c nothing (read_said (entry_at d v i))) (refuses 13)))
        go true m c = tt
        go false false c = tt
        go false true true = tt
        go false true false = said-stands (entry_at d v i) (entry-stands i)

-- ---- so a container that is found is whole
pub root-whole : (d : List ℕ) (v : View) → root_read d ≡ Ok (value.Container v) → Stands d v
root-whole d v e = subst (ReadStands d) e (root-read d)

pub elem-whole : (d : List ℕ) (v w : View) (i : ℕ) → elem_at d v i ≡ says (value.Container w) → Stands d w
elem-whole d v w i e = subst (SaidStands d) e (elem-stands d v i)

-- ---- in a whole container, what the walk reads is what elements and keys are
module _ (d : List ℕ) (v : View) (w : Stands d v) (i : ℕ) (h : i < v.count) where
  opens : gate_of d v true i ≡ Ok true
  unfolding gate_of
  opens = rw (le-ltb 16777216 (length d) w.short, w.whole, lt-leb v.count i h)

  is_whole : Whole d v i
  is_whole = open-whole d v true i opens

  gate-passed : {A : Type 0} (x : Said A) → gated d v true i x ≡ x
  unfolding gated
  gate-passed x = rw (le-ltb 16777216 (length d) w.short, w.whole, lt-leb v.count i h)

  value_same : read_said (entry_read d v i) ≡ elem_at d v i
  unfolding elem_at
  value_same = ap read_said (whole-entry d v i is_whole) ∙ sym (gate-passed (read_said (entry_at d v i)))

  key-same : cond v.kind.object (read_said (key_read d v i)) (says no_key) ≡ cond v.kind.object (key_at d v i) (says no_key)
  unfolding key_at
  key-same = ap (λ (k : Said Span). cond v.kind.object k (says no_key)) (ap read_said (whole-key d v i is_whole)) ∙ go v.kind.object
    where
      go : (b : Bool) → cond b (read_said (key_entry_at d v i)) (says no_key) ≡ cond b (gated d v b i (read_said (key_entry_at d v i))) (says no_key)
      go true = sym (gate-passed (read_said (key_entry_at d v i)))
      go false = refl

  abbrev stand : Said Span → Said Value → Stand
  stand k x = record { place = place_at v i; key_place = key_place_at v i; key = k; value = x; from = value_start d v i }

  entry-same : entry_stand d v i ≡ child d v i
  entry-same =
      ap (λ (k : Said Span). stand k (read_said (entry_read d v i))) key-same
      ∙ ap (λ (x : Said Value). stand (cond v.kind.object (key_at d v i) (says no_key)) x) value_same

-- of what stands anywhere
pub entry-child : (d : List ℕ) (x : Said Value) → SaidStands d x → (i : ℕ) → i < count_in x → entry_stand d (view_in x) i ≡ child d (view_in x) i
entry-child d (says (value.Scalar t s)) w i h = absurd (omega arith)
entry-child d (says (value.Container v)) w i h = entry-same d v w i h
entry-child d nothing w i h = absurd (omega arith)
entry-child d (refuses n) w i h = absurd (omega arith)
