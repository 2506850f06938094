-- What is read at a place is decided by the bytes up to its own end: neither a byte past it nor the end of what encloses it has a say, as long as that
-- end is not before it.
-- Assumes nothing.
use mathlib.Core.Path.{◌≡◌, refl, sym, ap, ◌∙◌, subst}
use mathlib.Core.Bool.{Bool, true, false, cond}
use mathlib.Core.List.{List, [], ◌∷◌}
use Prim.Native.Nat.{ℕ, zero, suc, ◌+◌, ◌*◌, ◌-◌, ◌≤◌, ◌<◌}
use native.Mathlib.Numerals.{add-one}
use native.Mathlib.Nat.{le_refl}
use native.Mathlib.Omega.{arith}
use lib.Dec.{ltb, leb}
use lib.ListN.{length, get_or, take, drop, length-take}
use lib.Seq.{slice, get_or-take, take-take}
use mir.Syntax.{w16, w32, w64}
use mir.Val.{to_z}
use borrow.Author.Tests.{ltb-false, leb-false, le-ltb, lt-leb}
use Rattle.std.specs.Prelude.{Result, Ok, Err}
use Rattle.refusal.specs.declared.Refusal.{Refusal}
use Rattle.refusal.specs.declared.Refusal.TheVariants as refusal
use Rattle.raw.specs.Numbers.{le}
use Rattle.length_field.specs.Length.{Groups, groups, got, short, long, above, field_of, length_at}
use Rattle.raw.proofs.Bounds.{take-slice, le-inside, le_same}
use Rattle.length_field.proofs.Bounds.{length-placed}
use Rattle.codes.specs.Literals.{type_of as literal_type}
use Rattle.columns.specs.Columns.{type_of as column_type}
use Rattle.codes.specs.declared.types.JsonbType.{JsonbType}
use Rattle.codes.specs.declared.types.JsonbType.TheVariants as type
use Rattle.codes.specs.declared.literals.LiteralType.{LiteralType}
use Rattle.codes.specs.declared.literals.LiteralType.TheVariants as literal
use Rattle.length_field.specs.declared.Length.{Length}
use Rattle.value.specs.declared.Span.{Span}
use Rattle.columns.specs.declared.ColumnType.{ColumnType}
use Rattle.layout.specs.Layout.{offset_size, value_place, header_size, offset_at}
use Rattle.layout.specs.declared.Kind.{Kind}
use Rattle.layout.proofs.Inside.{size-two}
use Rattle.value.specs.declared.Number.{Number}
use Rattle.value.specs.declared.Number.TheVariants.{Int, Uint}
use Rattle.value.specs.declared.Scalar.TheVariants as scalar
use Rattle.value.specs.declared.Value.{Value}
use Rattle.value.specs.declared.Value.TheVariants as value
use Rattle.content.specs.Reading.{kind, span, viewed, literal_of, literal_at, double_of, number_at, bytes_of, part_at, part_of, string_at, opaque_of, opaque_at}
use Rattle.header.specs.Headers.{header, header_at, then}
use Rattle.content.specs.Reading.{content_at}
use Rattle.header.specs.declared.Header.{Header}
use Rattle.gate.proofs.Gates.{head-by}
use Rattle.jsonb_laws.specs.Ends.{number_bytes, end_at}

pub byte-same : (a b : List ℕ) (e : ℕ) → take e a ≡ take e b → (i : ℕ) → i < e → get_or a i 0 ≡ get_or b i 0
byte-same a b e s i h = sym (get_or-take e a i 0 h) ∙ ap (λ (l : List ℕ). get_or l i 0) s ∙ get_or-take e b i 0 h

-- a smaller end
pub take_less : (a b : List ℕ) (m e : ℕ) → m ≤ e → take e a ≡ take e b → take m a ≡ take m b
take_less a b m e h s = sym (take-take m e a h) ∙ ap (take m) s ∙ take-take m e b h

-- a document that is the same up to an end within the other reaches that end
pub reaches : (a b : List ℕ) (e : ℕ) → take e a ≡ take e b → e ≤ length a → e ≤ length b
reaches a b e s h = omega (arith, ap length s, length-take e a, length-take e b)

-- ---- numbers: w bytes before an end m up to which the documents are the same
module _ (a b : List ℕ) (m : ℕ) (s : take m a ≡ take m b) (e f : ℕ) where
  le-again : (w i : ℕ) → i + w ≤ m → i + w ≤ e → i + w ≤ f → le w a i e ≡ le w b i f
  le-again w i h x y =
      le-inside w a i e x ∙ sym (le-inside w a i m h) ∙ le_same w a b i m s ∙ le-inside w b i m h ∙ sym (le-inside w b i f y)

  offset-again : (k : Kind) (i : ℕ) → i + offset_size k ≤ m → i + offset_size k ≤ e → i + offset_size k ≤ f → offset_at a k i e ≡ offset_at b k i f
  unfolding offset_at offset_size
  offset-again k i h x y = go k.large h x y
    where
      go : (l : Bool) → i + cond l 4 2 ≤ m → i + cond l 4 2 ≤ e → i + cond l 4 2 ≤ f → cond l (le 4 a i e) (le 2 a i e) ≡ cond l (le 4 b i f) (le 2 b i f)
      go true p q r = le-again 4 i p q r
      go false p q r = le-again 2 i p q r

-- ---- headers
least : (k : Kind) (n : ℕ) → 2 * offset_size k ≤ header_size k n
unfolding header_size value_place
least k n = omega arith

module _ (a : List ℕ) (k : Kind) (i e n z : ℕ) (h : header_at a k i e ≡ Ok (header n z)) where
  abbrev count : List ℕ → ℕ → ℕ
  count d f = offset_at d k i f

  abbrev size : List ℕ → ℕ → ℕ
  size d f = offset_at d k (i + offset_size k) f

  facts : (ltb (e - i) (2 * offset_size k) ≡ false) × (ltb (e - i) (size a e) ≡ false) × (ltb (size a e) (header_size k (count a e)) ≡ false) × (count a e ≡ n) × (size a e ≡ z)
  unfolding header_at
  facts =
      let f = head-by (ltb (e - i) (2 * offset_size k)) (ltb (e - i) (size a e)) (ltb (size a e) (header_size k (count a e))) h in
      (f.0, f.1, f.2, ap (λ (x : Header). x.count) f.3, ap (λ (x : Header). x.size) f.3)

  header-fits : header_size k n ≤ z
  header-fits = rw (facts.3, facts.4) at (ltb-false (size a e) (header_size k (count a e)) facts.2)

  -- the two fields, and the container, are there
  fields_in : 2 * offset_size k ≤ z
  fields_in = omega (arith, least k n, header-fits)

  pub header-ends : i + z ≤ e
  header-ends = omega (arith, size-two k, fields_in, facts.4, ltb-false (e - i) (size a e) facts.1)

  pub header-again : (b : List ℕ) (f : ℕ) → take (i + z) a ≡ take (i + z) b → i + z ≤ f → header_at b k i f ≡ Ok (header n z)
  unfolding header_at
  header-again b f s y =
      let t = fields_in in
      let u = header-ends in
      let c : count b f ≡ n = sym (offset-again a b (i + z) s e f k i (omega arith) (omega arith) (omega arith)) ∙ facts.3 in
      let w : size b f ≡ z =
      sym (offset-again a b (i + z) s e f k (i + offset_size k) (omega arith) (omega arith) (omega arith)) ∙ facts.4 in
      rw (c, w, le-ltb (f - i) (2 * offset_size k) (omega arith), le-ltb (f - i) z (omega arith), le-ltb z (header_size k n) header-fits)

-- ---- what is read of a up to e, with z its own end; of b it is read up to any end f that is not before z
record Own {R : Type 0} (a b : List ℕ) (i e z : ℕ) (reads : ℕ → R) (r : R) : Type 0 where
  low : i < z
  high : z ≤ e
  again : take z a ≡ take z b → (f : ℕ) → z ≤ f → reads f ≡ r

abbrev ReadOwn : List ℕ → List ℕ → ℕ → ℕ → (ℕ → Result Value Refusal) → Result Value Refusal → Type 0
ReadOwn a b i e reads (Ok x) = Own a b i e (end_at i x) reads (Ok x)
ReadOwn a b i e reads (Err r) = Unit {0}

abbrev PartOwn : List ℕ → List ℕ → ℕ → ℕ → (ℕ → Result Span Refusal) → Result Span Refusal → Type 0
PartOwn a b i e reads (Ok s) = Own a b i e (s.start + s.len) reads (Ok s)
PartOwn a b i e reads (Err r) = Unit {0}

-- ---- a length field: the groups that it has decide it
abbrev Front : ℕ → List ℕ → List ℕ → Groups → Type 0
Front n s t (got v k) = take k s ≡ take k t → groups n t ≡ got v k
Front n s t short = Unit {0}
Front n s t long = Unit {0}

no_byte : {A : Type 0} {b : ℕ} {s : List ℕ} → b ∷ s ≡ [] → A
no_byte {b = b} {s = s} q = absurd (omega (arith, ap length q))

front-one : (n b : ℕ) (s t : List ℕ) → ltb b 128 ≡ true → Front (suc n) (b ∷ s) t (got b 1)
unfolding groups
front-one n b s [] l q = no_byte q
front-one n b s (c ∷ t) l q =
    let x : b ≡ c = cc in
    rw (← x, l)

front-more : (n b : ℕ) (s t : List ℕ) (g : Groups) → ltb b 128 ≡ false → ((u : List ℕ) → Front n s u g) → Front (suc n) (b ∷ s) t (above (b - 128) g)
unfolding groups
front-more n b s [] (got v k) l f = λ q. no_byte (rw add-one at q)
front-more n b s (c ∷ t) (got v k) l f = λ q.
    let w : b ∷ take k s ≡ c ∷ take k t = rw add-one at q in
    let x : b ≡ c = cc in
    let y : take k s ≡ take k t = cc in
    rw (← x, l, f t y)
front-more n b s t short l f = tt
front-more n b s t long l f = tt

front : (n : ℕ) (s t : List ℕ) → Front n s t (groups n s)
unfolding groups
front zero s t = tt
front (suc n) [] t = tt
front (suc n) (b ∷ s) t = go (ltb b 128) refl (λ u. front n s u)
  where
    go : (c : Bool) → ltb b 128 ≡ c → ((u : List ℕ) → Front n s u (groups n s)) → Front (suc n) (b ∷ s) t (cond c (got b 1) (above (b - 128) (groups n s)))
    go true l f = front-one n b s t l
    go false l f = front-more n b s t (groups n s) l f

module _ (a b : List ℕ) (i e : ℕ) where
  -- k bytes at the place, whatever the ends
  bytes-again : (k f : ℕ) → i + k ≤ e → i + k ≤ f → take (i + k) a ≡ take (i + k) b → take k (slice i e a) ≡ take k (slice i f b)
  bytes-again k f x y s =
      take-slice k i e a x
      ∙ sym (take-slice k i (i + k) a (le_refl (i + k)))
      ∙ ap (λ (l : List ℕ). take k (drop i l)) s
      ∙ take-slice k i (i + k) b (le_refl (i + k))
      ∙ sym (take-slice k i f b y)

  abbrev part_by_groups : ℕ → ℕ → Groups → Result Span Refusal
  part_by_groups at f g = then (field_of at g) (bytes_of f)

  part_by : (g : Groups) → groups 5 (slice i e a) ≡ g → PartOwn a b i e (λ (f : ℕ). part_at b i f) (part_by_groups i e g)
  unfolding length_at part_at
  part_by (got v k) q = go (ltb v 4294967296) (ltb (e - (i + k)) v) refl refl
    where
      go : (c d : Bool) → ltb v 4294967296 ≡ c → ltb (e - (i + k)) v ≡ d →
          PartOwn a b i e (λ (f : ℕ). part_at b i f)
          (then (cond {A = Result Length Refusal} c (Ok (record { length = v; next = i + k })) (Err refusal.Length))
          (λ (l : Length). cond {A = Result Span Refusal} (ltb (e - l.next) l.length) (Err refusal.Cut) (Ok (span l.next l.length))))
      go true true x y = rw y tt
      go true false x y =
          let o : length_at a i e ≡ Ok (record { length = v; next = i + k }) =
          ap (field_of i) q ∙ ap (λ (c : Bool). cond {A = Result Length Refusal} c (Ok (record { length = v; next = i + k })) (Err refusal.Length)) x in
          let p = length-placed a i e v (i + k) o in
          rw y (record {
            low = omega (arith, p.past);
            high = omega (arith, p.within, ltb-false (e - (i + k)) v y);
            again = λ s f z.
                let m = take_less a b (i + k) (i + k + v) (omega arith) s in
                let g = subst (Front 5 (slice i e a) (slice i f b)) q (front 5 (slice i e a) (slice i f b)) (bytes-again k f p.within (omega arith) m) in
                ap (part_by_groups i f) g ∙ rw (x, le-ltb (f - (i + k)) v (omega arith)) refl;
          })
      go false d x y = tt
  part_by short q = tt
  part_by long q = tt

  part-own : PartOwn a b i e (λ (f : ℕ). part_at b i f) (part_at a i e)
  unfolding part_at length_at
  part-own = part_by (groups 5 (slice i e a)) refl

-- ---- strings and opaque values
string-of : (a b : List ℕ) (i e : ℕ) (p : Result Span Refusal) → PartOwn a b i e (λ (f : ℕ). part_at b i f) p →
    ReadOwn a b i e (λ (f : ℕ). string_at b i f) (part_of type.String scalar.String p)
unfolding string_at
string-of a b i e (Ok s) o =
    record { low = o.low; high = o.high; again = λ q f z. ap (part_of type.String scalar.String) (o.again q f z) }
string-of a b i e (Err r) o = tt

string-own : (a b : List ℕ) (i e : ℕ) → ReadOwn a b i e (λ (f : ℕ). string_at b i f) (string_at a i e)
unfolding string_at
string-own a b i e = string-of a b i e (part_at a i e) (part-own a b i e)

abbrev number : JsonbType → Number → Result Value Refusal
number t x = Ok (value.Scalar t (scalar.Number x))

-- a byte that is tested and read, and what is read after it
module _ (a b : List ℕ) (i : ℕ) where
  tested-again : {A : Type 0} (z f : ℕ) (x : A) (g : ℕ → A) → i < z → take z a ≡ take z b → z ≤ f → cond (leb f i) x (g (get_or b i 0)) ≡ g (get_or a i 0)
  tested-again z f x g h s y = rw (lt-leb f i (omega arith)) (ap g (sym (byte-same a b z s i h)))

  module _ (e : ℕ) where
    opaque-known : (c : ColumnType) (p : Result Span Refusal) → column_type (get_or a i 0) ≡ Ok c → PartOwn a b (i + 1) e (λ (f : ℕ). part_at b (i + 1) f) p →
        ReadOwn a b i e (λ (f : ℕ). opaque_at b i f) (part_of type.Opaque (scalar.Opaque c) p)
    unfolding opaque_at
    opaque-known c (Ok s) q o =
        record {
          low = omega (arith, o.low);
          high = o.high;
          again = λ t f z.
              tested-again (s.start + s.len) f (Err refusal.Cut) (λ (n : ℕ). opaque_of (column_type n) (part_at b (i + 1) f)) (omega (arith, o.low)) t z
              ∙ rw (q, o.again t f z);
        }
    opaque-known c (Err r) q o = tt

    opaque-by : (c : Result ColumnType Refusal) → column_type (get_or a i 0) ≡ c → ReadOwn a b i e (λ (f : ℕ). opaque_at b i f) (opaque_of c (part_at a (i + 1) e))
    opaque-by (Ok c) q = opaque-known c (part_at a (i + 1) e) q (part-own a b (i + 1) e)
    opaque-by (Err r) q = tt

    opaque-own : ReadOwn a b i e (λ (f : ℕ). opaque_at b i f) (opaque_at a i e)
    unfolding opaque_at
    opaque-own = go (leb e i)
      where
        go : (t : Bool) → ReadOwn a b i e (λ (f : ℕ). opaque_at b i f) (cond t (Err refusal.Cut) (opaque_of (column_type (get_or a i 0)) (part_at a (i + 1) e)))
        go true = tt
        go false = opaque-by (column_type (get_or a i 0)) refl

    -- ---- literals
    module _ (h : i < e) where
      one_byte : (x : Value) → end_at i x ≡ i + 1 → literal_of (literal_type (get_or a i 0)) ≡ Ok x → ReadOwn a b i e (λ (f : ℕ). literal_at b i f) (Ok x)
      unfolding literal_at
      one_byte x z q =
          record {
            low = omega arith;
            high = omega arith;
            again = λ t f y. tested-again (end_at i x) f (Err refusal.Cut) (λ (n : ℕ). literal_of (literal_type n)) (omega arith) t y ∙ q;
          }

      literal-by : (l : Result LiteralType Refusal) → literal_type (get_or a i 0) ≡ l → ReadOwn a b i e (λ (f : ℕ). literal_at b i f) (literal_of l)
      literal-by (Ok literal.Null) q = one_byte (value.Scalar type.Literal scalar.Null) refl (ap literal_of q)
      literal-by (Ok literal.True) q = one_byte (value.Scalar type.Literal (scalar.Boolean true)) refl (ap literal_of q)
      literal-by (Ok literal.False) q = one_byte (value.Scalar type.Literal (scalar.Boolean false)) refl (ap literal_of q)
      literal-by (Err r) q = tt

    literal-own : ReadOwn a b i e (λ (f : ℕ). literal_at b i f) (literal_at a i e)
    unfolding literal_at
    literal-own = go (leb e i) refl
      where
        go : (t : Bool) → leb e i ≡ t → ReadOwn a b i e (λ (f : ℕ). literal_at b i f) (cond t (Err refusal.Cut) (literal_of (literal_type (get_or a i 0))))
        go true l = tt
        go false l = literal-by (leb-false e i l) (literal_type (get_or a i 0)) refl

    -- ---- numbers
    number-own : (t : JsonbType) (w : ℕ) (make : ℕ → Number) → number_bytes t ≡ w → 0 < w →
        ReadOwn a b i e (λ (f : ℕ). number_at t w i f (make (le w b i f))) (number_at t w i e (make (le w a i e)))
    unfolding number_at
    number-own t w make n p = go (ltb (e - i) w) refl
      where
        go : (c : Bool) → ltb (e - i) w ≡ c →
            ReadOwn a b i e (λ (f : ℕ). cond (ltb (f - i) w) (Err refusal.Cut) (number t (make (le w b i f)))) (cond c (Err refusal.Cut) (number t (make (le w a i e))))
        go true l = tt
        go false l =
            let h = ltb-false (e - i) w l in
            record {
              low = omega arith;
              high = omega arith;
              again = λ q f z.
                  rw (le-ltb (f - i) w (omega arith)) (ap (λ (m : ℕ). number t (make m)) (sym (le-again a b (i + number_bytes t) q e f w i (omega arith) (omega arith) (omega arith))));
            }

    -- ---- containers
    container-by : (k : Kind) (h : Result Header Refusal) → header_at a k i e ≡ h → ReadOwn a b i e (λ (f : ℕ). viewed k i (header_at b k i f)) (viewed k i h)
    container-by k (Ok h) q =
        record {
          low = omega (arith, size-two k, fields_in a k i e h.count h.size q);
          high = header-ends a k i e h.count h.size q;
          again = λ s f y. ap (viewed k i) (header-again a k i e h.count h.size q b f s y);
        }
    container-by k (Err r) q = tt

    container-own : (k : Kind) → ReadOwn a b i e (λ (f : ℕ). viewed k i (header_at b k i f)) (viewed k i (header_at a k i e))
    container-own k = container-by k (header_at a k i e) refl

    content-own : (t : JsonbType) → ReadOwn a b i e (λ (f : ℕ). content_at b t i f) (content_at a t i e)
    unfolding content_at
    content-own type.SmallObject = container-own (kind true false)
    content-own type.LargeObject = container-own (kind true true)
    content-own type.SmallArray = container-own (kind false false)
    content-own type.LargeArray = container-own (kind false true)
    content-own type.Literal = literal-own
    content-own type.Int16 = number-own type.Int16 2 (λ (n : ℕ). Int (to_z w16 n)) refl (omega arith)
    content-own type.Uint16 = number-own type.Uint16 2 Uint refl (omega arith)
    content-own type.Int32 = number-own type.Int32 4 (λ (n : ℕ). Int (to_z w32 n)) refl (omega arith)
    content-own type.Uint32 = number-own type.Uint32 4 Uint refl (omega arith)
    content-own type.Int64 = number-own type.Int64 8 (λ (n : ℕ). Int (to_z w64 n)) refl (omega arith)
    content-own type.Uint64 = number-own type.Uint64 8 Uint refl (omega arith)
    content-own type.Double = number-own type.Double 8 double_of refl (omega arith)
    content-own type.String = string-own a b i e
    content-own type.Opaque = opaque-own

    module _ (t : JsonbType) (x : Value) (q : content_at a t i e ≡ Ok x) where
      own : Own a b i e (end_at i x) (λ (f : ℕ). content_at b t i f) (Ok x)
      own = subst (ReadOwn a b i e (λ (f : ℕ). content_at b t i f)) q (content-own t)

      -- a value has a byte at least, and ends where it was read up to or before
      pub content-ends : (i < end_at i x) × (end_at i x ≤ e)
      content-ends = (own.low, own.high)

      pub content-again : take (end_at i x) a ≡ take (end_at i x) b → (f : ℕ) → end_at i x ≤ f → content_at b t i f ≡ Ok x
      content-again s f y = own.again s f y
