-- A value that is read lies within its parent, and a container's start is above its parent's: an offset below its own entry's end is refused.
-- Assumes nothing.
use mathlib.Core.Path.{◌≡◌, refl, subst}
use mathlib.Core.Bool.{Bool, true, false, cond}
use mathlib.Core.List.{List}
use Prim.Native.Nat.{ℕ, ◌+◌, ◌*◌, ◌-◌, ◌≤◌, ◌<◌}
use native.Mathlib.Nat.{le_refl}
use native.Mathlib.Omega.{arith}
use lib.Dec.{ltb, leb, eqb}
use lib.ListN.{length, get_or}
use borrow.Author.Tests.{ltb-false, eqb-false}
use Rattle.std.specs.Prelude.{Result, Ok, Err, ⊤}
use Rattle.refusal.specs.declared.Refusal.{Refusal}
use Rattle.refusal.specs.declared.Refusal.TheVariants as refusal
use Rattle.length_field.specs.Length.{length_at}
use Rattle.length_field.proofs.Bounds.{length-placed}
use Rattle.codes.specs.Literals.{type_of as literal_type}
use Rattle.columns.specs.Columns.{type_of as column_type}
use Rattle.codes.specs.Types.{type_of}
use Rattle.codes.specs.declared.types.JsonbType.{JsonbType}
use Rattle.codes.specs.declared.types.JsonbType.TheVariants as type
use Rattle.codes.specs.declared.literals.LiteralType.{LiteralType}
use Rattle.codes.specs.declared.literals.LiteralType.TheVariants as literal
use Rattle.length_field.specs.declared.Length.{Length}
use Rattle.columns.specs.declared.ColumnType.{ColumnType}
use Rattle.layout.specs.Layout.{offset_size, header_size, offset_at}
use Rattle.content.specs.Reading.{kind, span, viewed, container_at, literal_of, literal_at, number_at, bytes_of, part_at, part_of, string_at}
use Rattle.content.specs.Reading.{opaque_of, opaque_at, content_at, read_at}
use Rattle.header.specs.Headers.{header, header_at, place_of, then}
use Rattle.layout.specs.declared.Kind.{Kind}
use Rattle.value.specs.declared.View.{View}
use Rattle.value.specs.declared.Span.{Span}
use Rattle.value.specs.declared.Number.{Number}
use Rattle.value.specs.declared.Scalar.{Scalar}
use Rattle.value.specs.declared.Scalar.TheVariants as scalar
use Rattle.value.specs.declared.Value.{Value}
use Rattle.value.specs.declared.Value.TheVariants as value
use Rattle.gate.specs.Said.{Said, says, nothing, refuses, read_said}
use Rattle.entry.specs.Entries.{end_of, is_inlined, place_at, pointed_at, typed_entry, entry_of, entry_at}
use Rattle.jsonb.specs.Views.{typed_at, root_read, elem_at}
use Rattle.gate.specs.Before.{matches, gated}
use Rattle.entry.specs.Entries.{key_offset, key_length, key_of, key_place_at, key_entry_at}
use Rattle.jsonb.specs.Views.{key_at}
use Rattle.jsonb_laws.specs.Within.{Spans, ScalarInside, Inside}

-- ---- what is read, where it is not refused
abbrev Reads : {A : Type 0} → (A → Type 0) → Result A Refusal → Type 0
Reads P (Ok x) = P x
Reads P (Err r) = Unit {0}

abbrev ReadInside : ℕ → ℕ → Result Value Refusal → Type 0
ReadInside lo hi r = Reads (Inside lo hi) r

abbrev PartInside : ℕ → ℕ → Result Span Refusal → Type 0
PartInside lo hi p = Reads (Spans lo hi) p

abbrev SaidInside : {A : Type 0} → (A → Type 0) → Said A → Type 0
SaidInside P (says x) = P x
SaidInside P nothing = Unit {0}
SaidInside P (refuses n) = Unit {0}

-- ---- wider bounds
module _ {lo hi low high : ℕ} (l : low ≤ lo) (h : hi ≤ high) where
  spans-more : {s : Span} → Spans lo hi s → Spans low high s
  spans-more t = record { low = omega (arith, t.low); high = omega (arith, t.high) }

  scalar-more : (s : Scalar) → ScalarInside lo hi s → ScalarInside low high s
  scalar-more scalar.Null t = tt
  scalar-more (scalar.Boolean b) t = tt
  scalar-more (scalar.Number x) t = tt
  scalar-more (scalar.String s) t = spans-more t
  scalar-more (scalar.Opaque c s) t = spans-more t

  pub inside-more : (x : Value) → Inside lo hi x → Inside low high x
  inside-more (value.Scalar c s) t = scalar-more s t
  inside-more (value.Container v) t = record { low = omega (arith, t.low); high = omega (arith, t.high); header = t.header }

  read_more : (r : Result Value Refusal) → ReadInside lo hi r → ReadInside low high r
  read_more (Ok x) t = inside-more x t
  read_more (Err r) t = tt

  part-more : (p : Result Span Refusal) → PartInside lo hi p → PartInside low high p
  part-more (Ok s) t = spans-more t
  part-more (Err r) t = tt

-- ---- the content at a place
module _ (d : List ℕ) (i e : ℕ) where
  module _ (k : Kind) (h : i ≤ e) where
    abbrev n : ℕ
    n = offset_at d k i e

    abbrev s : ℕ
    s = offset_at d k (i + offset_size k) e

    container-in : ReadInside i e (container_at d k i e)
    unfolding header_at
    container-in = go (ltb (e - i) (2 * offset_size k)) (ltb (e - i) s) (ltb s (header_size k n)) refl refl
      where
        go : (a b c : Bool) → ltb (e - i) s ≡ b → ltb s (header_size k n) ≡ c →
            ReadInside i e (viewed k i (cond a (Err refusal.Cut) (cond b (Err refusal.Size) (cond c (Err refusal.Size) (Ok (header n s))))))
        go true b c p q = tt
        go false true c p q = tt
        go false false true p q = tt
        go false false false p q =
            record { low = le_refl i; high = omega (arith, ltb-false (e - i) s p); header = ltb-false s (header_size k n) q }

  part_in : PartInside i e (part_at d i e)
  unfolding part_at
  part_in = go (length_at d i e) refl
    where
      there : (f : Length) → length_at d i e ≡ Ok f → (b : Bool) → ltb (e - f.next) f.length ≡ b →
          PartInside i e (cond b (Err refusal.Cut) (Ok (span f.next f.length)))
      there f q true y = tt
      there f q false y =
          let p = length-placed d i e f.length f.next q in
          record { low = omega (arith, p.past); high = omega (arith, p.within, ltb-false (e - f.next) f.length y) }

      go : (g : Result Length Refusal) → length_at d i e ≡ g → PartInside i e (then g (bytes_of e))
      go (Ok f) q = there f q (ltb (e - f.next) f.length) refl
      go (Err r) q = tt

string-of : (i e : ℕ) (t : JsonbType) (p : Result Span Refusal) → PartInside i e p → ReadInside i e (part_of t scalar.String p)
string-of i e t (Ok s) h = h
string-of i e t (Err r) h = tt

opaque-of : (i e : ℕ) (t : JsonbType) (c : ColumnType) (p : Result Span Refusal) → PartInside i e p → ReadInside i e (part_of t (scalar.Opaque c) p)
opaque-of i e t c (Ok s) h = h
opaque-of i e t c (Err r) h = tt

opaque-by : (i e : ℕ) (c : Result ColumnType Refusal) (p : Result Span Refusal) → PartInside i e p → ReadInside i e (opaque_of c p)
opaque-by i e (Ok t) p h = opaque-of i e type.Opaque t p h
opaque-by i e (Err r) p h = tt

string-in : (d : List ℕ) (i e : ℕ) → ReadInside i e (string_at d i e)
unfolding string_at
string-in d i e = string-of i e type.String (part_at d i e) (part_in d i e)

opaque-in : (d : List ℕ) (i e : ℕ) → ReadInside i e (opaque_at d i e)
unfolding opaque_at
opaque-in d i e = go (leb e i)
  where
    go : (b : Bool) → ReadInside i e (cond b (Err refusal.Cut) (opaque_of (column_type (get_or d i 0)) (part_at d (i + 1) e)))
    go true = tt
    go false =
        opaque-by i e (column_type (get_or d i 0)) (part_at d (i + 1) e)
        (part-more (omega arith) (le_refl e) (part_at d (i + 1) e) (part_in d (i + 1) e))

-- a number or a literal lies anywhere
module _ (lo hi : ℕ) where
  number_in : (t : JsonbType) (w i e : ℕ) (x : Number) → ReadInside lo hi (number_at t w i e x)
  unfolding number_at
  number_in t w i e x = go (ltb (e - i) w)
    where
      go : (b : Bool) → ReadInside lo hi (cond b (Err refusal.Cut) (Ok (value.Scalar t (scalar.Number x))))
      go true = tt
      go false = tt

  literal-by : (l : Result LiteralType Refusal) → ReadInside lo hi (literal_of l)
  literal-by (Ok literal.Null) = tt
  literal-by (Ok literal.True) = tt
  literal-by (Ok literal.False) = tt
  literal-by (Err r) = tt

  literal-in : (d : List ℕ) (i e : ℕ) → ReadInside lo hi (literal_at d i e)
  unfolding literal_at
  literal-in d i e = go (leb e i)
    where
      go : (b : Bool) → ReadInside lo hi (cond b (Err refusal.Cut) (literal_of (literal_type (get_or d i 0))))
      go true = tt
      go false = literal-by (literal_type (get_or d i 0))

content-in : (d : List ℕ) (t : JsonbType) (i e : ℕ) → i ≤ e → ReadInside i e (content_at d t i e)
unfolding content_at
content-in d type.SmallObject i e h = container-in d i e (kind true false) h
content-in d type.LargeObject i e h = container-in d i e (kind true true) h
content-in d type.SmallArray i e h = container-in d i e (kind false false) h
content-in d type.LargeArray i e h = container-in d i e (kind false true) h
content-in d type.Literal i e h = literal-in i e d i e
content-in d type.Int16 i e h = number_in i e type.Int16 2 i e _
content-in d type.Uint16 i e h = number_in i e type.Uint16 2 i e _
content-in d type.Int32 i e h = number_in i e type.Int32 4 i e _
content-in d type.Uint32 i e h = number_in i e type.Uint32 4 i e _
content-in d type.Int64 i e h = number_in i e type.Int64 8 i e _
content-in d type.Uint64 i e h = number_in i e type.Uint64 8 i e _
content-in d type.Double i e h = number_in i e type.Double 8 i e _
content-in d type.String i e h = string-in d i e
content-in d type.Opaque i e h = opaque-in d i e

pub content-inside : (d : List ℕ) (t : JsonbType) (i e : ℕ) (x : Value) → i ≤ e → content_at d t i e ≡ Ok x → Inside i e x
content-inside d t i e x h q = subst (ReadInside i e) q (content-in d t i e h)

read_by : (lo hi : ℕ) (d : List ℕ) (t : JsonbType) (i e : ℕ) → ReadInside lo hi (content_at d t i e) → ReadInside lo hi (read_at d t i e)
unfolding read_at
read_by lo hi d t i e h = go (place_of d i e)
  where
    go : (p : Result ⊤ Refusal) → ReadInside lo hi (then p (λ _. content_at d t i e))
    go (Ok u) = h
    go (Err r) = tt

-- ---- the root
root_in : (d : List ℕ) → ReadInside 1 (length d) (root_read d)
unfolding root_read
root_in d = go (ltb 16777216 (length d)) (eqb (length d) 0) refl
  where
    typed : (y : Result JsonbType Refusal) → 1 ≤ length d → ReadInside 1 (length d) (typed_at d y 1 (length d))
    typed (Ok t) h = read_by 1 (length d) d t 1 (length d) (content-in d t 1 (length d) h)
    typed (Err r) h = tt

    go : (a b : Bool) → eqb (length d) 0 ≡ b →
        ReadInside 1 (length d)
        (cond a (Err refusal.Document) (cond b (Ok (value.Scalar type.Literal scalar.Null)) (typed_at d (type_of (get_or d 0 0)) 1 (length d))))
    go true b q = tt
    go false true q = tt
    go false false q = typed (type_of (get_or d 0 0)) (some (length d) (eqb-false (length d) 0 q))
      where
        some : (n : ℕ) → (n ≡ 0 → ⊥) → 1 ≤ n
        some n f = omega arith

pub root-inside : (d : List ℕ) (x : Value) → root_read d ≡ Ok x → Inside 1 (length d) x
root-inside d x q = subst (ReadInside 1 (length d)) q (root_in d)

-- ---- entries: what stands in the entry itself is a number or a literal
inlined-in : (lo hi : ℕ) (d : List ℕ) (t : JsonbType) (large : Bool) (i e : ℕ) → is_inlined t large ≡ true → ReadInside lo hi (content_at d t i e)
unfolding content_at
inlined-in lo hi d type.SmallObject large i e q = cc
inlined-in lo hi d type.LargeObject large i e q = cc
inlined-in lo hi d type.SmallArray large i e q = cc
inlined-in lo hi d type.LargeArray large i e q = cc
inlined-in lo hi d type.Literal large i e q = literal-in lo hi d i e
inlined-in lo hi d type.Int16 large i e q = number_in lo hi type.Int16 2 i e _
inlined-in lo hi d type.Uint16 large i e q = number_in lo hi type.Uint16 2 i e _
inlined-in lo hi d type.Int32 large i e q = number_in lo hi type.Int32 4 i e _
inlined-in lo hi d type.Uint32 large i e q = number_in lo hi type.Uint32 4 i e _
inlined-in lo hi d type.Int64 large i e q = number_in lo hi type.Int64 8 i e _
inlined-in lo hi d type.Uint64 large i e q = number_in lo hi type.Uint64 8 i e _
inlined-in lo hi d type.Double large i e q = number_in lo hi type.Double 8 i e _
inlined-in lo hi d type.String large i e q = cc
inlined-in lo hi d type.Opaque large i e q = cc

module _ (d : List ℕ) (v : View) where
  -- a place past an entry's type byte
  module _ (t : JsonbType) (body : ℕ) (h : v.start < body) where
    abbrev there : ℕ
    there = v.start + offset_at d v.kind body (end_of v)

    pointed-in : ReadInside (v.start + 1) (end_of v) (pointed_at d v t body)
    unfolding pointed_at
    pointed-in = go (ltb there (body + offset_size v.kind)) (ltb (end_of v) there) refl refl
      where
        go : (a b : Bool) → ltb there (body + offset_size v.kind) ≡ a → ltb (end_of v) there ≡ b →
            ReadInside (v.start + 1) (end_of v) (cond a (Err refusal.Pointer) (cond b (Err refusal.Pointer) (read_at d t there (end_of v))))
        go true b p q = tt
        go false true p q = tt
        go false false p q =
            let l = ltb-false there (body + offset_size v.kind) p in
            read_by (v.start + 1) (end_of v) d t there (end_of v)
            (read_more (omega arith) (le_refl (end_of v)) (content_at d t there (end_of v))
            (content-in d t there (end_of v) (ltb-false (end_of v) there q)))

    typed-in : ReadInside (v.start + 1) (end_of v) (typed_entry d v t body)
    unfolding typed_entry
    typed-in = go (is_inlined t v.kind.large) refl
      where
        go : (b : Bool) → is_inlined t v.kind.large ≡ b →
            ReadInside (v.start + 1) (end_of v) (cond b (read_at d t body (body + offset_size v.kind)) (pointed_at d v t body))
        go true q =
            read_by (v.start + 1) (end_of v) d t body (body + offset_size v.kind)
            (inlined-in (v.start + 1) (end_of v) d t v.kind.large body (body + offset_size v.kind) q)
        go false q = pointed-in

  entry-by : (y : Result JsonbType Refusal) (body : ℕ) → v.start < body → ReadInside (v.start + 1) (end_of v) (entry_of d v y body)
  entry-by (Ok t) body h = typed-in t body h
  entry-by (Err r) body h = tt

  entry_in : (i : ℕ) → ReadInside (v.start + 1) (end_of v) (entry_at d v i)
  unfolding entry_at
  entry_in i = entry-by (type_of (get_or d (place_at v i) 0)) (place_at v i + 1) (omega arith)

  pub entry-inside : (i : ℕ) (x : Value) → entry_at d v i ≡ Ok x → Inside (v.start + 1) (end_of v) x
  entry-inside i x q = subst (ReadInside (v.start + 1) (end_of v)) q (entry_in i)

  -- ---- elements and keys
  gated-in : {A : Type 0} (P : A → Type 0) (asked : Bool) (i : ℕ) (x : Said A) → SaidInside P x → SaidInside P (gated d v asked i x)
  unfolding gated
  gated-in {A} P asked i x h = go (ltb 16777216 (length d)) asked (matches d v) (leb v.count i)
    where
      go : (a b m c : Bool) → SaidInside P (cond a (refuses 1) (cond b (cond m (cond c nothing x) (refuses 13)) (refuses 13)))
      go true b m c = tt
      go false false m c = tt
      go false true false c = tt
      go false true true true = tt
      go false true true false = h

  said_in : (r : Result Value Refusal) → ReadInside (v.start + 1) (end_of v) r → SaidInside (Inside (v.start + 1) (end_of v)) (read_said r)
  said_in (Ok x) h = h
  said_in (Err r) h = tt

  pub elem-inside : (i : ℕ) (x : Value) → elem_at d v i ≡ says x → Inside (v.start + 1) (end_of v) x
  unfolding elem_at
  elem-inside i x q =
      subst (SaidInside (Inside (v.start + 1) (end_of v))) q
      (gated-in (Inside (v.start + 1) (end_of v)) true i (read_said (entry_at d v i)) (said_in (entry_at d v i) (entry_in i)))

  -- a container in a container starts above it, ends no later, and is smaller
  pub elem-nested : (i : ℕ) (w : View) → elem_at d v i ≡ says (value.Container w) → (v.start < w.start) × (end_of w ≤ end_of v) × (w.size < v.size)
  elem-nested i w q =
      let n = elem-inside i (value.Container w) q in
      let l = n.low in
      let h = n.high in
      (omega arith, omega arith, omega arith)

  module _ (i : ℕ) where
    abbrev KeyInside : Span → Type 0
    KeyInside s = Spans (v.start + header_size v.kind v.count) (end_of v) s

    abbrev o : ℕ
    o = key_offset d v (key_place_at v i)

    abbrev l : ℕ
    l = key_length d v (key_place_at v i)

    key_in : SaidInside KeyInside (read_said (key_entry_at d v i))
    unfolding key_entry_at key_of
    key_in = go (ltb o (header_size v.kind v.count)) (ltb v.size (o + l)) refl refl
      where
        go : (a b : Bool) → ltb o (header_size v.kind v.count) ≡ a → ltb v.size (o + l) ≡ b →
            SaidInside KeyInside (read_said (cond a (Err refusal.Key) (cond b (Err refusal.Key) (Ok (span (v.start + o) l)))))
        go true b p q = tt
        go false true p q = tt
        go false false p q =
            record {
              low = omega (arith, ltb-false o (header_size v.kind v.count) p);
              high = omega (arith, ltb-false v.size (o + l) q);
            }

    pub key-inside : (s : Span) → key_at d v i ≡ says s → Spans (v.start + header_size v.kind v.count) (end_of v) s
    unfolding key_at
    key-inside s q = subst (SaidInside KeyInside) q (gated-in KeyInside v.kind.object i (read_said (key_entry_at d v i)) key_in)
