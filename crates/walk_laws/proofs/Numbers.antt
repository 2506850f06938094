-- With which numbers a walk stops, by the path at which it stops, and that no value which it reaches starts at the document's first byte. A path below the
-- root leads to an entry of a whole container in a document that is not too long: so neither 1 nor 13 is given there, and a value lies past its entry's
-- first byte.
--     root-number, key-number, value-number    what a root, a key or a value below the root is refused with
--     stopped-at, stopped-bounds               the path at which a walk stopped and its number, which is 1 to 12
--     starts-past, not_first                   a value starts past the place of its entry
-- Assumes nothing.
use mathlib.Core.Path.{◌≡◌, refl, sym, ◌∙◌, subst}
use mathlib.Core.Bool.{Bool, true, false, cond}
use mathlib.Core.List.Memᴰ
use mathlib.Core.List.{List, [], ◌∷◌, Memᴰ}
use Prim.Native.Nat.{ℕ, ◌+◌, ◌*◌, ◌-◌, ◌≤◌, ◌<◌}
use native.Mathlib.Omega.{arith}
use lib.Dec.{ltb, leb, eqb}
use lib.ListN.{length, get_or}
use lib.Seq.{slice}
use borrow.Author.Tests.{ltb-false, le-ltb, lt-leb, ne_eqb}
use Rattle.length_field.specs.Length.{Groups, groups, got, short, long}
use Rattle.codes.specs.Lists.{search}
use Rattle.codes.specs.Literals.{type_of as literal_type, code_of as literal_code, all as literals}
use Rattle.columns.specs.Columns.{type_of as column_type, code_of as column_code, all as columns}
use Rattle.codes.specs.Types.{type_of, code_of, all as types}
use Rattle.codes.specs.declared.types.JsonbType.{JsonbType}
use Rattle.codes.specs.declared.types.JsonbType.TheVariants as type
use Rattle.std.specs.Prelude.{Result, Ok, Err, ⊤}
use Rattle.refusal.specs.declared.Refusal.{Refusal}
use Rattle.refusal.specs.declared.Refusal.TheVariants as refusals
use Rattle.refusal.specs.Refusals.{number_of}
use Rattle.length_field.specs.Length.{field_of, length_at}
use Rattle.codes.specs.declared.literals.LiteralType.{LiteralType}
use Rattle.columns.specs.declared.ColumnType.{ColumnType}
use Rattle.layout.specs.Layout.{offset_size, header_size, offset_at}
use Rattle.layout.specs.declared.Kind.{Kind}
use Rattle.value.specs.declared.View.{View}
use Rattle.value.specs.declared.Span.{Span}
use Rattle.value.specs.declared.Number.{Number}
use Rattle.value.specs.declared.Scalar.TheVariants as scalar
use Rattle.value.specs.declared.Value.{Value}
use Rattle.value.specs.declared.Value.TheVariants as value
use Rattle.content.specs.Reading.{kind, viewed, container_at, literal_at, number_at, bytes_of, part_at, string_at}
use Rattle.content.specs.Reading.{opaque_at, content_at, read_at}
use Rattle.header.specs.Headers.{header_at, place_of, then}
use Rattle.header.specs.declared.Header.{Header}
use Rattle.entry.specs.Entries.{end_of, is_inlined, place_at, key_place_at, pointed_at, typed_entry, entry_of, entry_at, key_offset, key_length, key_of, key_entry_at}
use Rattle.entry.specs.Entries.{start_of, typed_start, value_start}
use Rattle.gate.specs.Said.{Said, says, nothing, refuses, read_said}
use Rattle.gate.specs.Before.{gated}
use Rattle.jsonb.specs.Views.{typed_at, root_read, elem_at, key_at}
use Rattle.events.specs.Walked.{Walked, Stopped}
use Rattle.events.specs.Events.{no_key}
use Rattle.paths.specs.Judged.{Stand}
use Rattle.paths.specs.Paths.{root_stand, child, here, Item, paths}
use Rattle.paths.specs.Shown.{Walks}
use Rattle.paths.proofs.Whole.{Stands}
use Rattle.walk_laws.specs.Promise.{Leads, UpTo101, Wrong, deep, key-refused, key-octets, value-refused, value-octets, StopsAt, wrong, full, Halt}
use Rattle.walk_laws.proofs.Reach.{reach}
use Rattle.walk_laws.proofs.Entry.{leads-entry}
use Rattle.walk_laws.proofs.Theorem.{refusal}

-- ---- the numbers
-- of what is read at a place: bytes end early, a size, a literal, a length, a column type
pub data ContentNumber : ℕ → Type 0 where
  early : ContentNumber 3
  size : ContentNumber 4
  no-literal : ContentNumber 7
  no_length : ContentNumber 8
  no-column : ContentNumber 10

-- of the root: the document's length, the type, then the content
pub data RootNumber : ℕ → Type 0 where
  too_long : RootNumber 1
  root-type : RootNumber 2
  root-content : {f : ℕ} → ContentNumber f → RootNumber f

-- of an entry's value: the type, the pointer, then the content
pub data ValueNumber : ℕ → Type 0 where
  value-type : ValueNumber 2
  pointer : ValueNumber 6
  value-content : {f : ℕ} → ContentNumber f → ValueNumber f

-- of a walk that stops at a path
pub data StopNumber : List ℕ → ℕ → Type 0 where
  at-root : {f : ℕ} → RootNumber f → StopNumber [] f
  at_key : {i : ℕ} {π : List ℕ} → StopNumber (i ∷ π) 5
  at_value : {i : ℕ} {π : List ℕ} {f : ℕ} → ValueNumber f → StopNumber (i ∷ π) f
  no_text : {π : List ℕ} → StopNumber π 9
  too-deep : {π : List ℕ} → 100 < length π → StopNumber π 11
  no_room : {π : List ℕ} → StopNumber π 12

-- where something is refused, its number is such
abbrev ReadNumber : {A : Type 0} → (ℕ → Type 0) → Result A Refusal → Type 0
ReadNumber P (Ok x) = Unit {0}
ReadNumber P (Err f) = P (number_of f)

abbrev SaidNumber : {A : Type 0} → (ℕ → Type 0) → Said A → Type 0
SaidNumber P (says x) = Unit {0}
SaidNumber P nothing = Unit {0}
SaidNumber P (refuses n) = P n

more : (P : ℕ → Type 0) → ((n : ℕ) → ContentNumber n → P n) → (r : Result Value Refusal) → ReadNumber ContentNumber r → ReadNumber P r
more P f (Ok x) c = tt
more P f (Err g) c = f (number_of g) c

read-said : {A : Type 0} (P : ℕ → Type 0) (r : Result A Refusal) → ReadNumber P r → SaidNumber P (read_said r)
read-said P (Ok x) p = tt
read-said P (Err g) p = p

-- what comes after an answer is refused as that is, or by itself
afterwards : {A B : Type 0} (P : ℕ → Type 0) (r : Result A Refusal) (f : A → Result B Refusal) → ReadNumber P r → ((x : A) → ReadNumber P (f x)) → ReadNumber P (then r f)
afterwards P (Ok x) f p h = h x
afterwards P (Err g) f p h = p

-- ---- what holds of both branches of a test holds of the whole, and what holds of each that a search may answer holds of its answer
both : {A : Type 0} (P : A → Type 0) (b : Bool) {x y : A} → P x → P y → P (cond b x y)
both P true p q = p
both P false p q = q

searched : {A B : Type 0} (P : B → Type 0) (code : A → ℕ) (found : A → B) (none : B) → ((t : A) → P (found t)) → P none → (ts : List A) (n : ℕ) →
    P (search code found none ts n)
unfolding search
searched P code found none f g [] n = g
searched P code found none f g (t ∷ ts) n = both P (eqb n (code t)) (f t) (searched P code found none f g ts n)

-- ---- the content at a place
module _ (d : List ℕ) (i e : ℕ) where
  abbrev Viewed : Kind → Result Header Refusal → Type 0
  Viewed k h = ReadNumber ContentNumber (viewed k i h)

  container-faults : (k : Kind) → ReadNumber ContentNumber (container_at d k i e)
  unfolding header_at
  container-faults k =
      both (Viewed k) (ltb (e - i) (2 * offset_size k)) early
      (both (Viewed k) (ltb (e - i) (offset_at d k (i + offset_size k) e)) size
      (both (Viewed k) (ltb (offset_at d k (i + offset_size k) e) (header_size k (offset_at d k i e))) size tt))

  number-faults : (t : JsonbType) (w : ℕ) (x : Number) → ReadNumber ContentNumber (number_at t w i e x)
  unfolding number_at
  number-faults t w x = both (ReadNumber ContentNumber) (ltb (e - i) w) early tt

  literal-faults : ReadNumber ContentNumber (literal_at d i e)
  unfolding literal_at literal_type
  literal-faults =
      both (ReadNumber ContentNumber) (leb e i) early
      (afterwards ContentNumber (literal_type (get_or d i 0)) _
      (searched (λ (l : Result LiteralType Refusal). ReadNumber ContentNumber l) literal_code (λ (t : LiteralType). Ok t) (Err refusals.Literal) (λ t. tt) no-literal literals (get_or d i 0)) (λ t. tt))

  part-faults : ReadNumber ContentNumber (part_at d i e)
  unfolding part_at length_at
  part-faults = afterwards ContentNumber (field_of i (groups 5 (slice i e d))) (bytes_of e) (go (groups 5 (slice i e d))) (λ f. both (ReadNumber ContentNumber) (ltb (e - f.next) f.length) early tt)
    where
      go : (g : Groups) → ReadNumber ContentNumber (field_of i g)
      go (got v k) = both (ReadNumber ContentNumber) (ltb v 4294967296) tt no_length
      go short = early
      go long = no_length

  string-faults : ReadNumber ContentNumber (string_at d i e)
  unfolding string_at
  string-faults = afterwards ContentNumber (part_at d i e) _ part-faults (λ s. tt)

opaque-faults : (d : List ℕ) (i e : ℕ) → ReadNumber ContentNumber (opaque_at d i e)
unfolding opaque_at column_type
opaque-faults d i e =
    both (ReadNumber ContentNumber) (leb e i) early
    (afterwards ContentNumber (column_type (get_or d i 0)) _
    (searched (λ (c : Result ColumnType Refusal). ReadNumber ContentNumber c) column_code (λ (t : ColumnType). Ok t) (Err refusals.Column) (λ t. tt) no-column columns (get_or d i 0))
    (λ t. afterwards ContentNumber (part_at d (i + 1) e) _ (part-faults d (i + 1) e) (λ s. tt)))

content-faults : (d : List ℕ) (t : JsonbType) (i e : ℕ) → ReadNumber ContentNumber (content_at d t i e)
unfolding content_at
content-faults d type.SmallObject i e = container-faults d i e (kind true false)
content-faults d type.LargeObject i e = container-faults d i e (kind true true)
content-faults d type.SmallArray i e = container-faults d i e (kind false false)
content-faults d type.LargeArray i e = container-faults d i e (kind false true)
content-faults d type.Literal i e = literal-faults d i e
content-faults d type.Int16 i e = number-faults d i e type.Int16 2 _
content-faults d type.Uint16 i e = number-faults d i e type.Uint16 2 _
content-faults d type.Int32 i e = number-faults d i e type.Int32 4 _
content-faults d type.Uint32 i e = number-faults d i e type.Uint32 4 _
content-faults d type.Int64 i e = number-faults d i e type.Int64 8 _
content-faults d type.Uint64 i e = number-faults d i e type.Uint64 8 _
content-faults d type.Double i e = number-faults d i e type.Double 8 _
content-faults d type.String i e = string-faults d i e
content-faults d type.Opaque i e = opaque-faults d i e

-- ---- in a document that is not too long
module _ (d : List ℕ) (h : length d ≤ 16777216) where
  abbrev Placed : Result ⊤ Refusal → Type 0
  Placed r = ReadNumber ContentNumber r

  place-faults : (i e : ℕ) → ReadNumber ContentNumber (place_of d i e)
  unfolding place_of
  place-faults i e = rw (le-ltb 16777216 (length d) h) (both Placed (ltb (length d) e) early (both Placed (ltb e i) early tt))

  read-faults : (t : JsonbType) (i e : ℕ) → ReadNumber ContentNumber (read_at d t i e)
  unfolding read_at
  read-faults t i e = afterwards ContentNumber (place_of d i e) (λ _. content_at d t i e) (place-faults i e) (λ _. content-faults d t i e)

  -- an element
  module _ (v : View) where
    abbrev there : ℕ → ℕ
    there body = v.start + offset_at d v.kind body (end_of v)

    pointed-faults : (t : JsonbType) (body : ℕ) → ReadNumber ValueNumber (pointed_at d v t body)
    unfolding pointed_at
    pointed-faults t body =
        both (ReadNumber ValueNumber) (ltb (there body) (body + offset_size v.kind)) pointer
        (both (ReadNumber ValueNumber) (ltb (end_of v) (there body)) pointer
        (more ValueNumber (λ n c. value-content c) (read_at d t (there body) (end_of v)) (read-faults t (there body) (end_of v))))

    typed-faults : (t : JsonbType) (body : ℕ) → ReadNumber ValueNumber (typed_entry d v t body)
    unfolding typed_entry
    typed-faults t body =
        both (ReadNumber ValueNumber) (is_inlined t v.kind.large)
        (more ValueNumber (λ n c. value-content c) (read_at d t body (body + offset_size v.kind)) (read-faults t body (body + offset_size v.kind)))
        (pointed-faults t body)

    entry-faults : (i : ℕ) → ReadNumber ValueNumber (entry_at d v i)
    unfolding entry_at type_of
    entry-faults i =
        afterwards ValueNumber (type_of (get_or d (place_at v i) 0)) _
        (searched (λ (y : Result JsonbType Refusal). ReadNumber ValueNumber y) code_of (λ (t : JsonbType). Ok t) (Err refusals.Type) (λ t. tt) value-type types (get_or d (place_at v i) 0))
        (λ t. typed-faults t (place_at v i + 1))

  -- the root's type and content
  root-typed-faults : ReadNumber RootNumber (typed_at d (type_of (get_or d 0 0)) 1 (length d))
  unfolding type_of
  root-typed-faults =
      afterwards RootNumber (type_of (get_or d 0 0)) _
      (searched (λ (y : Result JsonbType Refusal). ReadNumber RootNumber y) code_of (λ (t : JsonbType). Ok t) (Err refusals.Type) (λ t. tt) root-type types (get_or d 0 0))
      (λ t. more RootNumber (λ n c. root-content c) (read_at d t 1 (length d)) (read-faults t 1 (length d)))

root-faults : (d : List ℕ) → ReadNumber RootNumber (root_read d)
unfolding root_read
root-faults d = go (ltb 16777216 (length d)) refl
  where
    go : (b : Bool) → ltb 16777216 (length d) ≡ b →
        ReadNumber RootNumber
        (cond b (Err refusals.Document)
        (cond (eqb (length d) 0) (Ok (value.Scalar type.Literal scalar.Null)) (typed_at d (type_of (get_or d 0 0)) 1 (length d))))
    go true q = too_long
    go false q = both (ReadNumber RootNumber) (eqb (length d) 0) tt (root-typed-faults d (ltb-false 16777216 (length d) q))

-- ---- a key
abbrev Five : Said Span → Type 0
Five k = SaidNumber (λ f. f ≡ 5) k

abbrev Keyed : Result Span Refusal → Type 0
Keyed p = Five (read_said p)

key-faults : (d : List ℕ) (v : View) (i : ℕ) → Keyed (key_entry_at d v i)
unfolding key_entry_at key_of
key-faults d v i =
    both Keyed (ltb (key_offset d v (key_place_at v i)) (header_size v.kind v.count)) refl
    (both Keyed (ltb v.size (key_offset d v (key_place_at v i) + key_length d v (key_place_at v i))) refl tt)

-- nothing is in the way of reading it
module _ (d : List ℕ) (v : View) (w : Stands d v) (i : ℕ) (h : i < v.count) where
  passed : {A : Type 0} (x : Said A) → gated d v true i x ≡ x
  unfolding gated
  passed x = rw (le-ltb 16777216 (length d) w.short, w.whole, lt-leb v.count i h)

  elem-read : elem_at d v i ≡ read_said (entry_at d v i)
  unfolding elem_at
  elem-read = passed (read_said (entry_at d v i))

  child-value : SaidNumber ValueNumber (child d v i).value
  child-value = subst (SaidNumber ValueNumber) (sym elem-read) (read-said ValueNumber (entry_at d v i) (entry-faults d w.short v i))

  child-key : Five (child d v i).key
  unfolding key_at
  child-key = go v.kind.object
    where
      go : (b : Bool) → Five (cond b (gated d v b i (read_said (key_entry_at d v i))) (says no_key))
      go true = subst Five (sym (passed (read_said (key_entry_at d v i)))) (key-faults d v i)
      go false = tt

-- ---- what is refused at a path
module _ (d : List ℕ) where
  pub root-number : {f : ℕ} → (root_stand d).value ≡ refuses f → RootNumber f
  root-number e = subst (SaidNumber RootNumber) e (read-said RootNumber (root_read d) (root-faults d))

  pub value-number : {i : ℕ} {π : List ℕ} {s : Stand} {f : ℕ} → Leads d (i ∷ π) s → s.value ≡ refuses f → ValueNumber f
  value-number b e =
      let n = leads-entry b in
      subst (SaidNumber ValueNumber) e
      (subst (λ (t : Stand). SaidNumber ValueNumber t.value) n.is (child-value d n.view n.whole n.position n.below))

  pub key-number : {i : ℕ} {π : List ℕ} {s : Stand} {f : ℕ} → Leads d (i ∷ π) s → s.key ≡ refuses f → f ≡ 5
  key-number b e =
      let n = leads-entry b in
      subst Five e
      (subst (λ (t : Stand). Five t.key) n.is (child-key d n.view n.whole n.position n.below))

  -- the root has a key, which is none
  root-key : {A : Type 0} {s : Stand} {f : ℕ} → Leads d [] s → s.key ≡ refuses f → A
  root-key here e = let z : ◌≡◌ {A = ℕ} 0 1 = cc in absurd (omega arith)

  key-stop : (π : List ℕ) {s : Stand} {f : ℕ} → Leads d π s → s.key ≡ refuses f → StopNumber π f
  key-stop [] b e = root-key b e
  key-stop (i ∷ π) b e = subst (StopNumber (i ∷ π)) (sym (key-number b e)) at_key

  root-stop : {s : Stand} {f : ℕ} → Leads d [] s → s.value ≡ refuses f → StopNumber [] f
  root-stop here e = at-root (root-number e)

  value-stop : (π : List ℕ) {s : Stand} {f : ℕ} → Leads d π s → s.value ≡ refuses f → StopNumber π f
  value-stop [] b e = root-stop b e
  value-stop (i ∷ π) b e = at_value (value-number b e)

  -- ---- a walk that stops there
  wrong-number : {x : Item} {f p : ℕ} → Leads d x.path x.stand → Wrong d x f p → StopNumber x.path f
  wrong-number b (deep h) = too-deep h
  wrong-number {x} b (key-refused h e) = key-stop x.path b e
  wrong-number b (key-octets p h e o) = no_text
  wrong-number {x} b (value-refused h e u q) = value-stop x.path b q
  wrong-number b (value-octets p h e u q o) = no_text

  stop-number : {x : Item} {k n f p : ℕ} → Leads d x.path x.stand → StopsAt d k n x f p → StopNumber x.path f
  stop-number b (wrong h w) = wrong-number b w
  stop-number b (full h g) = no_room

  pub halt-leads : {xs : List Item} {k f p n : ℕ} → UpTo101 d xs → (h : Halt d xs k f p n) → Leads d h.at.path h.at.stand
  halt-leads v h = v.only h.at (subst (Memᴰ h.at) (sym h.split) (Memᴰ.append_right h.before (Memᴰ.head refl)))

  pub halt-number : {xs : List Item} {k f p n : ℕ} → UpTo101 d xs → (h : Halt d xs k f p n) → StopNumber h.at.path f
  halt-number v h = stop-number (halt-leads v h) h.stops

-- ---- how large the numbers are. A value has neither a key's 5 nor 9, which is a text's, and no pointer, 6, leads to the root
content-bounds : {f : ℕ} → ContentNumber f → (3 ≤ f) × (f ≤ 10) × (f ≡ 5 → ⊥) × (f ≡ 6 → ⊥) × (f ≡ 9 → ⊥)
content-bounds early = (omega arith, omega arith, λ q. omega arith, λ q. omega arith, λ q. omega arith)
content-bounds size = (omega arith, omega arith, λ q. omega arith, λ q. omega arith, λ q. omega arith)
content-bounds no-literal = (omega arith, omega arith, λ q. omega arith, λ q. omega arith, λ q. omega arith)
content-bounds no_length = (omega arith, omega arith, λ q. omega arith, λ q. omega arith, λ q. omega arith)
content-bounds no-column = (omega arith, omega arith, λ q. omega arith, λ q. omega arith, λ q. omega arith)

pub root-bounds : {f : ℕ} → RootNumber f → (1 ≤ f) × (f ≤ 10) × (f ≡ 5 → ⊥) × (f ≡ 6 → ⊥) × (f ≡ 9 → ⊥)
root-bounds too_long = (omega arith, omega arith, λ q. omega arith, λ q. omega arith, λ q. omega arith)
root-bounds root-type = (omega arith, omega arith, λ q. omega arith, λ q. omega arith, λ q. omega arith)
root-bounds (root-content c) = let h = content-bounds c in (omega arith, h.1, h.2, h.3, h.4)

pub value-bounds : {f : ℕ} → ValueNumber f → (2 ≤ f) × (f ≤ 10) × (f ≡ 5 → ⊥) × (f ≡ 9 → ⊥)
value-bounds value-type = (omega arith, omega arith, λ q. omega arith, λ q. omega arith)
value-bounds pointer = (omega arith, omega arith, λ q. omega arith, λ q. omega arith)
value-bounds (value-content c) = let h = content-bounds c in (omega arith, h.1, h.2, h.4)

pub stop-bounds : {π : List ℕ} {f : ℕ} → StopNumber π f → (1 ≤ f) × (f ≤ 12)
stop-bounds (at-root r) = let h = root-bounds r in (omega arith, omega arith)
stop-bounds at_key = (omega arith, omega arith)
stop-bounds (at_value v) = let h = value-bounds v in (omega arith, omega arith)
stop-bounds no_text = (omega arith, omega arith)
stop-bounds (too-deep h) = (omega arith, omega arith)
stop-bounds no_room = (omega arith, omega arith)

-- 1 is the root's alone
pub below-bounds : {i : ℕ} {π : List ℕ} {f : ℕ} → StopNumber (i ∷ π) f → (2 ≤ f) × (f ≤ 12)
below-bounds at_key = (omega arith, omega arith)
below-bounds (at_value v) = let h = value-bounds v in (omega arith, omega arith)
below-bounds no_text = (omega arith, omega arith)
below-bounds (too-deep h) = (omega arith, omega arith)
below-bounds no_room = (omega arith, omega arith)

-- ---- a walk that stopped did so at a path, with a number of that path
pub record Stop (d : List ℕ) (f : ℕ) : Type 0 where
  pub path : List ℕ
  pub stand : Stand
  pub leads : Leads d path stand
  pub number : StopNumber path f

module _ (d out : List ℕ) (r : Walked) (left : List ℕ) (w : Walks d out r left) (f p n : ℕ) (e : r ≡ Stopped f p n) where
  pub stopped-at : Stop d f
  stopped-at =
      let h = (refusal d out r left w (paths d) (reach d) f p n).0 e in
      record { path = h.at.path; stand = h.at.stand; leads = halt-leads d (reach d) h; number = halt-number d (reach d) h }

  pub stopped-bounds : (1 ≤ f) × (f ≤ 12)
  stopped-bounds = stop-bounds stopped-at.number

-- ---- a value that is read starts past its entry's first byte: in the entry past its type, or at an offset past the entry's end
module _ (d : List ℕ) (v : View) (i : ℕ) where
  abbrev body : ℕ
  body = place_at v i + 1

  abbrev offset : ℕ
  offset = v.start + offset_at d v.kind body (end_of v)

  pointed-past : {x : Value} (t : JsonbType) → pointed_at d v t body ≡ Ok x → place_at v i < offset
  unfolding pointed_at
  pointed-past {x} t e = go (ltb offset (body + offset_size v.kind)) refl e
    where
      go : (b : Bool) → ltb offset (body + offset_size v.kind) ≡ b →
          cond b (Err refusals.Pointer) (cond (ltb (end_of v) offset) (Err refusals.Pointer) (read_at d t offset (end_of v))) ≡ Ok x → place_at v i < offset
      go true p q = cc
      go false p q = let l = ltb-false offset (body + offset_size v.kind) p in omega arith

  typed-past : {x : Value} (t : JsonbType) → typed_entry d v t body ≡ Ok x → place_at v i < start_of d v i t
  unfolding typed_entry start_of
  typed-past {x} t e = go (is_inlined t v.kind.large) e
    where
      go : (b : Bool) → cond b (read_at d t body (body + offset_size v.kind)) (pointed_at d v t body) ≡ Ok x → place_at v i < cond b body offset
      go true q = omega arith
      go false q = pointed-past t q

  entry_past : {x : Value} (y : Result JsonbType Refusal) → entry_of d v y body ≡ Ok x → place_at v i < typed_start d v i y
  entry_past (Ok t) e = typed-past t e
  entry_past (Err f) e = cc

  said-past : {x : Value} (r : Result Value Refusal) → (r ≡ Ok x → place_at v i < value_start d v i) → read_said r ≡ says x → place_at v i < value_start d v i
  said-past (Ok y) f e = f (cc)
  said-past (Err g) f e = cc

  start-past : {x : Value} → read_said (entry_at d v i) ≡ says x → place_at v i < value_start d v i
  unfolding entry_at value_start
  start-past e = said-past (entry_at d v i) (λ q. entry_past (type_of (get_or d (place_at v i) 0)) q) e

  child-past : {x : Value} → Stands d v → i < v.count → (child d v i).value ≡ says x → (child d v i).place < (child d v i).from
  child-past w h e = start-past (sym (elem-read d v w i h) ∙ e)

-- ---- so no value of a document that is not empty starts at its first byte
module _ (d : List ℕ) (n : length d ≡ 0 → ⊥) where
  root-past : {s : Stand} → Leads d [] s → s.place < s.from
  root-past here = rw (ne_eqb (length d) 0 n) (omega arith)

  past_by : (π : List ℕ) {s : Stand} {x : Value} → Leads d π s → s.value ≡ says x → s.place < s.from
  past_by [] b e = root-past b
  past_by (i ∷ π) {x = x} b e =
      let y = leads-entry b in
      subst (λ (t : Stand). t.value ≡ says x → t.place < t.from) y.is (λ q. child-past d y.view y.position y.whole y.below q) e

  pub starts-past : {π : List ℕ} {s : Stand} {x : Value} → Leads d π s → s.value ≡ says x → s.place < s.from
  starts-past {π} b e = past_by π b e

  pub not_first : {π : List ℕ} {s : Stand} {x : Value} → Leads d π s → s.value ≡ says x → 1 ≤ s.from
  not_first b e = let h = starts-past b e in omega arith
