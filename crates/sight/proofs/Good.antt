-- What is read is sound, containers that are read fit the document, and the number of what is refused is not 0 and below 16.
-- Assumes nothing.
use mathlib.Core.Path.{◌≡◌, refl}
use mathlib.Core.Bool.{Bool, true, false, cond}
use mathlib.Core.List.{List, [], ◌∷◌}
use Prim.Native.Nat.{ℕ, ◌+◌, ◌*◌, ◌-◌}
use native.Mathlib.Omega.{arith}
use lib.Dec.{ltb, leb, eqb}
use lib.ListN.{length, get_or}
use lib.Seq.{slice}
use borrow.Author.Tests.{ltb-false}
use Rattle.std.specs.Prelude.{Result, Ok, Err, ⊤}
use Rattle.refusal.specs.declared.Refusal.{Refusal}
use Rattle.refusal.specs.declared.Refusal.TheVariants as refusal
use Rattle.refusal.specs.Refusals.{number_of}
use Rattle.length_field.specs.Length.{Groups, groups, got, short, long, field_of, length_at}
use Rattle.length_field.specs.declared.Length.{Length}
use Rattle.codes.specs.Lists.{search}
use Rattle.codes.specs.Types.{type_of, code_of as type_code, all as all_types}
use Rattle.codes.specs.Literals.{type_of as literal_type, code_of as literal_code, all as all_literals}
use Rattle.columns.specs.Columns.{type_of as column_type, code_of as column_code, all as all_columns}
use Rattle.codes.specs.declared.types.JsonbType.{JsonbType}
use Rattle.codes.specs.declared.types.JsonbType.TheVariants as type
use Rattle.codes.specs.declared.literals.LiteralType.{LiteralType}
use Rattle.codes.specs.declared.literals.LiteralType.TheVariants as literal
use Rattle.layout.specs.Layout.{offset_size, header_size, offset_at}
use Rattle.layout.specs.declared.Kind.{Kind}
use Rattle.value.specs.declared.Number.{Number}
use Rattle.value.specs.declared.Scalar.TheVariants as scalar
use Rattle.value.specs.declared.Value.{Value}
use Rattle.value.specs.declared.Value.TheVariants as value
use Rattle.value.specs.declared.View.{View}
use Rattle.content.specs.Reading.{kind, span, viewed, container_at, scalar_of, literal_scalar, literal_of, literal_at, number_at, bytes_of, part_at, string_at, opaque_of, opaque_at, content_at, read_at}
use Rattle.header.specs.Headers.{header, header_at, place_of, placed, then}
use Rattle.header.specs.Course.{Within}
use Rattle.header.proofs.Placed.{right-place}
use Rattle.entry.specs.Entries.{end_of, is_inlined, place_at, value_end, pointed_at, typed_entry, entry_at, entry_read}
use Rattle.sight.specs.Course.{Numbered, SoundScalar, Fit}

abbrev GoodValue : List ℕ → Value → Type 0
GoodValue d (value.Scalar t s) = SoundScalar t s
GoodValue d (value.Container v) = Fit d v

abbrev pub Good : List ℕ → Result Value Refusal → Type 0
Good d (Ok x) = GoodValue d x
Good d (Err r) = Numbered (number_of r)

-- the same of any answer: what it is refused with is numbered, and nothing is said of its value
abbrev pub Refuses : {A : Type 0} → Result A Refusal → Type 0
Refuses (Ok a) = Unit {0}
Refuses (Err r) = Numbered (number_of r)

either : {A : Type 0} (b : Bool) (x y : Result A Refusal) → Refuses x → Refuses y → Refuses (cond b x y)
either true x y g h = g
either false x y g h = h

-- ---- codes: what none of a list has is refused by one refusal alone
module _ {A : Type 0} (code : A → ℕ) (r : Refusal) (g : Numbered (number_of r)) (n : ℕ) where
  found_all : (ts : List A) → Refuses (search code Ok (Err r) ts n)
  unfolding search
  found_all [] = g
  found_all (t ∷ ts) = either (eqb n (code t)) (Ok t) (search code Ok (Err r) ts n) tt (found_all ts)

pub type-numbered : (n : ℕ) → Refuses (type_of n)
unfolding type_of
type-numbered n = found_all type_code refusal.Type (omega arith, omega arith) n all_types

literal-numbered : (n : ℕ) → Refuses (literal_type n)
unfolding literal_type
literal-numbered n = found_all literal_code refusal.Literal (omega arith, omega arith) n all_literals

column-numbered : (n : ℕ) → Refuses (column_type n)
unfolding column_type
column-numbered n = found_all column_code refusal.Column (omega arith, omega arith) n all_columns

module _ (d : List ℕ) where
  pub then-good : {A : Type 0} (x : Result A Refusal) (f : A → Result Value Refusal) → Refuses x → ((a : A) → Good d (f a)) → Good d (then x f)
  then-good (Ok a) f g h = h a
  then-good (Err r) f g h = g

  -- ---- literals and numbers
  literal-good : (i e : ℕ) → Good d (literal_at d i e)
  unfolding literal_at
  literal-good i e = go (leb e i)
    where
      known : (t : LiteralType) → Good d (scalar_of type.Literal (literal_scalar t))
      known literal.Null = (omega arith, λ c from. refl)
      known literal.True = (omega arith, λ c from. refl)
      known literal.False = (omega arith, λ c from. refl)

      go : (b : Bool) → Good d (cond b (Err refusal.Cut) (literal_of (literal_type (get_or d i 0))))
      go true = (omega arith, omega arith)
      go false = then-good (literal_type (get_or d i 0)) _ (literal-numbered (get_or d i 0)) known

  number-good : (t : JsonbType) (w i e : ℕ) (x : Number) → SoundScalar t (scalar.Number x) → Good d (number_at t w i e x)
  unfolding number_at
  number-good t w i e x h = go (ltb (e - i) w)
    where
      go : (b : Bool) → Good d (cond b (Err refusal.Cut) (scalar_of t (scalar.Number x)))
      go true = (omega arith, omega arith)
      go false = h

  -- ---- parts
  length-numbered : (i e : ℕ) → Refuses (length_at d i e)
  unfolding length_at
  length-numbered i e = by (groups 5 (slice i e d))
    where
      by : (g : Groups) → Refuses (field_of i g)
      by (got v k) = let l : Length = record { length = v; next = i + k } in either (ltb v 4294967296) (Ok l) (Err refusal.Length) tt (omega arith, omega arith)
      by short = (omega arith, omega arith)
      by long = (omega arith, omega arith)

  part-numbered : (i e : ℕ) → Refuses (part_at d i e)
  unfolding part_at
  part-numbered i e = go (length_at d i e) (length-numbered i e)
    where
      go : (x : Result Length Refusal) → Refuses x → Refuses (then x (bytes_of e))
      go (Ok f) h = either (ltb (e - f.next) f.length) (Err refusal.Cut) (Ok (span f.next f.length)) (omega arith, omega arith) tt
      go (Err r) h = h

  string-good : (i e : ℕ) → Good d (string_at d i e)
  unfolding string_at
  string-good i e = then-good (part_at d i e) _ (part-numbered i e) (λ s. (omega arith, λ c from. refl))

  opaque-good : (i e : ℕ) → Good d (opaque_at d i e)
  unfolding opaque_at
  opaque-good i e = go (leb e i)
    where
      go : (b : Bool) → Good d (cond b (Err refusal.Cut) (opaque_of (column_type (get_or d i 0)) (part_at d (i + 1) e)))
      go true = (omega arith, omega arith)
      go false =
          then-good (column_type (get_or d i 0)) _ (column-numbered (get_or d i 0))
          (λ t. then-good (part_at d (i + 1) e) _ (part-numbered (i + 1) e) (λ s. (omega arith, λ c from. refl)))

  -- ---- containers
  module _ (k : Kind) (i e : ℕ) (w : Within (length d) i e) where
    abbrev count : ℕ
    count = offset_at d k i e

    abbrev size : ℕ
    size = offset_at d k (i + offset_size k) e

    container-good : Good d (container_at d k i e)
    unfolding header_at
    container-good = go (ltb (e - i) (2 * offset_size k)) (ltb (e - i) size) (ltb size (header_size k count)) refl refl
      where
        go : (a b c : Bool) → ltb (e - i) size ≡ b → ltb size (header_size k count) ≡ c →
            Good d (viewed k i (cond a (Err refusal.Cut) (cond b (Err refusal.Size) (cond c (Err refusal.Size) (Ok (header count size))))))
        go true b c p q = (omega arith, omega arith)
        go false true c p q = (omega arith, omega arith)
        go false false true p q = (omega arith, omega arith)
        go false false false p q =
            record {
              short = w.short;
              inside = omega (arith, ltb-false (e - i) size p, w.order, w.inside);
              header = ltb-false size (header_size k count) q;
            }

  -- ---- the value of a type
  content-good : (t : JsonbType) (i e : ℕ) → Within (length d) i e → Good d (content_at d t i e)
  unfolding content_at
  content-good type.SmallObject i e w = container-good (kind true false) i e w
  content-good type.LargeObject i e w = container-good (kind true true) i e w
  content-good type.SmallArray i e w = container-good (kind false false) i e w
  content-good type.LargeArray i e w = container-good (kind false true) i e w
  content-good type.Literal i e w = literal-good i e
  content-good type.Int16 i e w = number-good type.Int16 2 i e _ (omega arith, λ c from. refl)
  content-good type.Uint16 i e w = number-good type.Uint16 2 i e _ (omega arith, λ c from. refl)
  content-good type.Int32 i e w = number-good type.Int32 4 i e _ (omega arith, λ c from. refl)
  content-good type.Uint32 i e w = number-good type.Uint32 4 i e _ (omega arith, λ c from. refl)
  content-good type.Int64 i e w = number-good type.Int64 8 i e _ (omega arith, λ c from. refl)
  content-good type.Uint64 i e w = number-good type.Uint64 8 i e _ (omega arith, λ c from. refl)
  content-good type.Double i e w = number-good type.Double 8 i e _ (omega arith, λ c from. refl)
  content-good type.String i e w = string-good i e
  content-good type.Opaque i e w = opaque-good i e

  -- at any place
  place-numbered : (i e : ℕ) → Refuses (place_of d i e)
  unfolding place_of
  place-numbered i e = go (ltb 16777216 (length d)) (ltb (length d) e) (ltb e i)
    where
      go : (a b c : Bool) → Refuses {A = ⊤} (cond a (Err refusal.Document) (cond b (Err refusal.Cut) (cond c (Err refusal.Cut) (Ok _))))
      go true b c = (omega arith, omega arith)
      go false true c = (omega arith, omega arith)
      go false false true = (omega arith, omega arith)
      go false false false = tt

  placed-good : (i e : ℕ) (x : Result Value Refusal) → (Within (length d) i e → Good d x) → Good d (placed d i e x)
  placed-good i e x h = go (place_of d i e) refl (place-numbered i e)
    where
      go : (r : Result ⊤ Refusal) → place_of d i e ≡ r → Refuses r → Good d (then r (λ _. x))
      go (Ok u) q g = h (right-place d i e q)
      go (Err r) q g = g

  pub read-good : (t : JsonbType) (i e : ℕ) → Good d (read_at d t i e)
  unfolding read_at
  read-good t i e = placed-good i e (content_at d t i e) (content-good t i e)

  -- ---- entries
  module _ (v : View) where
    module _ (t : JsonbType) (body : ℕ) where
      abbrev there : ℕ
      there = v.start + offset_at d v.kind body (end_of v)

      typed-good : Good d (typed_entry d v t body)
      unfolding typed_entry pointed_at
      typed-good = go (is_inlined t v.kind.large) (ltb there (body + offset_size v.kind)) (ltb (end_of v) there)
        where
          go : (a b c : Bool) →
              Good d (cond a (read_at d t body (body + offset_size v.kind)) (cond b (Err refusal.Pointer) (cond c (Err refusal.Pointer) (read_at d t there (end_of v)))))
          go true b c = read-good t body (body + offset_size v.kind)
          go false true c = (omega arith, omega arith)
          go false false true = (omega arith, omega arith)
          go false false false = read-good t there (end_of v)

    pub entry-good : (i : ℕ) → Good d (entry_read d v i)
    unfolding entry_read entry_at
    entry-good i =
        placed-good (value_end v i) (end_of v) (entry_at d v i)
        (λ w. then-good (type_of (get_or d (place_at v i) 0)) _ (type-numbered (get_or d (place_at v i) 0)) (λ t. typed-good t (place_at v i + 1)))
