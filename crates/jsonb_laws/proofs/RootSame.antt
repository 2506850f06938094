-- The root is decided by the bytes up to its own end: what follows it is not read.
-- Assumes nothing.
use mathlib.Core.Path.{◌≡◌, refl, sym, ap, ◌∙◌}
use mathlib.Core.Bool.{Bool, true, false, cond}
use mathlib.Core.List.{List, ◌++◌}
use Prim.Native.Nat.{ℕ, ◌≤◌, ◌<◌}
use native.Mathlib.Nat.{le_refl}
use native.Mathlib.Omega.{arith}
use lib.Dec.{ltb, eqb}
use lib.ListN.{length, get_or, take, length-take}
use lib.Seq.{take-append-le}
use borrow.Author.Tests.{le-ltb, ltb-false, eqb-true, eqb-false, eq-eqb, ne_eqb}
use Rattle.codes.specs.Types.{type_of}
use Rattle.codes.specs.declared.types.JsonbType.{JsonbType}
use Rattle.codes.specs.declared.types.JsonbType.TheVariants as type
use Rattle.std.specs.Prelude.{Result, Ok, Err}
use Rattle.refusal.specs.declared.Refusal.{Refusal}
use Rattle.refusal.specs.declared.Refusal.TheVariants as refusal
use Rattle.value.specs.declared.Scalar.TheVariants as scalar
use Rattle.value.specs.declared.Value.{Value}
use Rattle.value.specs.declared.Value.TheVariants as value
use Rattle.content.specs.Reading.{read_at}
use Rattle.content.proofs.Placed.{read-so}
use Rattle.header.proofs.Placed.{placed-within}
use Rattle.jsonb.specs.Views.{typed_at, root_read}
use Rattle.jsonb_laws.specs.Ends.{end_at}
use Rattle.jsonb_laws.proofs.OwnEnd.{byte-same, reaches, content-ends, content-again}

-- ---- a value at a place
module _ (a b : List ℕ) (t : JsonbType) (i e : ℕ) (x : Value) (q : read_at a t i e ≡ Ok x) where
  pub read-ends : (i < end_at i x) × (end_at i x ≤ e)
  read-ends = content-ends a b i e t x (read-so a t i e q).0

  pub read_again : take (end_at i x) a ≡ take (end_at i x) b → (f : ℕ) → end_at i x ≤ f → f ≤ length b → length b ≤ 16777216 → read_at b t i f ≡ Ok x
  unfolding read_at
  read_again s f y l sb =
      placed-within b i f (record { order = omega (arith, read-ends.0); inside = l; short = sb })
      ∙ content-again a b i e t x (read-so a t i e q).0 s f y

-- ---- the root
module _ (d : List ℕ) (short : length d ≤ 16777216) where
  empty-root : length d ≡ 0 → root_read d ≡ Ok (value.Scalar type.Literal scalar.Null)
  unfolding root_read
  empty-root z = rw (le-ltb 16777216 (length d) short, eq-eqb (length d) 0 z)

  typed-root : (length d ≡ 0 → ⊥) → root_read d ≡ typed_at d (type_of (get_or d 0 0)) 1 (length d)
  unfolding root_read
  typed-root z = rw (le-ltb 16777216 (length d) short, ne_eqb (length d) 0 z)

-- a document whose root is read is within the limit
root-short : (d : List ℕ) (x : Value) → root_read d ≡ Ok x → length d ≤ 16777216
unfolding root_read
root-short d x q = go (ltb 16777216 (length d)) refl q
  where
    go : (a : Bool) → ltb 16777216 (length d) ≡ a →
        cond a (Err refusal.Document)
        (cond (eqb (length d) 0) (Ok (value.Scalar type.Literal scalar.Null)) (typed_at d (type_of (get_or d 0 0)) 1 (length d))) ≡ Ok x →
        length d ≤ 16777216
    go true h p = cc
    go false h p = ltb-false 16777216 (length d) h

-- the type of a root that is read, and its value there
record Typed (d : List ℕ) (x : Value) : Type 0 where
  code : JsonbType
  known : type_of (get_or d 0 0) ≡ Ok code
  value : read_at d code 1 (length d) ≡ Ok x

root-typed : (d : List ℕ) (x : Value) → root_read d ≡ Ok x → (length d ≡ 0 → ⊥) → Typed d x
root-typed d x q z = go (type_of (get_or d 0 0)) refl (sym (typed-root d (root-short d x q) z) ∙ q)
  where
    go : (y : Result JsonbType Refusal) → type_of (get_or d 0 0) ≡ y → typed_at d y 1 (length d) ≡ Ok x → Typed d x
    go (Ok t) h p = record { code = t; known = h; value = p }
    go (Err r) h p = cc

-- after its type byte a root has one byte at least, and ends within the document
pub root_ends : (d : List ℕ) (x : Value) → root_read d ≡ Ok x → 0 < length d → (1 < end_at 1 x) × (end_at 1 x ≤ length d)
root_ends d x q h =
    let r = root-typed d x q (λ z. omega arith) in
    read-ends d d r.code 1 (length d) x r.value

module _ (a b : List ℕ) (x : Value) (q : root_read a ≡ Ok x) where
  pub root-same : take (end_at 1 x) a ≡ take (end_at 1 x) b → length b ≤ 16777216 → root_read b ≡ Ok x
  root-same s sb = go (eqb (length a) 0) refl
    where
      go : (c : Bool) → eqb (length a) 0 ≡ c → root_read b ≡ Ok x
      go true h =
          let n = eqb-true (length a) 0 h in
          let v = sym (empty-root a (root-short a x q) n) ∙ q in
          let u : value.Scalar type.Literal scalar.Null ≡ x = cc in
          let m : 2 ≡ end_at 1 x = ap (end_at 1) u in
          let e : length b ≡ 0 = omega (arith, ap length s, length-take (end_at 1 x) a, length-take (end_at 1 x) b) in
          empty-root b sb e ∙ v
      go false h =
          let r = root-typed a x q (eqb-false (length a) 0 h) in
          let ends = read-ends a b r.code 1 (length a) x r.value in
          let l = reaches a b (end_at 1 x) s ends.1 in
          typed-root b sb (λ z. omega (arith, ends.0))
          ∙ ap (λ (n : ℕ). typed_at b (type_of n) 1 (length b)) (sym (byte-same a b (end_at 1 x) s 0 (omega (arith, ends.0))))
          ∙ ap (λ (y : Result JsonbType Refusal). typed_at b y 1 (length b)) r.known
          ∙ read_again a b r.code 1 (length a) x r.value s (length b) l (le_refl (length b)) sb

-- whatever follows
pub root-followed : (a c : List ℕ) (x : Value) → root_read a ≡ Ok x → 0 < length a → length (a ++ c) ≤ 16777216 → root_read (a ++ c) ≡ Ok x
root-followed a c x q h l = root-same a (a ++ c) x q (sym (take-append-le (end_at 1 x) a c (root_ends a x q h).1)) l
