-- A value that is read is what is read at its start: in the entry, or at its offset. So its place is within the limit, a number of 32 bits.
-- Assumes nothing.
use mathlib.Core.Path.{◌≡◌, refl, ap, ◌∙◌}
use mathlib.Core.Bool.{Bool, true, false, cond}
use mathlib.Core.List.{List}
use Prim.Native.Nat.{ℕ, ◌+◌, ◌≤◌}
use native.Mathlib.Omega.{arith}
use lib.Dec.{ltb}
use lib.ListN.{get_or}
use Rattle.codes.specs.Types.{type_of}
use Rattle.codes.specs.declared.types.JsonbType.{JsonbType}
use Rattle.std.specs.Prelude.{Result, Ok, Err}
use Rattle.refusal.specs.declared.Refusal.{Refusal}
use Rattle.refusal.specs.declared.Refusal.TheVariants as refusal
use Rattle.layout.specs.Layout.{offset_size, offset_at}
use Rattle.content.specs.Reading.{read_at}
use Rattle.content.proofs.Placed.{read-so}
use Rattle.header.proofs.Placed.{placed-so}
use Rattle.value.specs.declared.View.{View}
use Rattle.value.specs.declared.Value.{Value}
use Rattle.entry.specs.Entries.{end_of, is_inlined, place_at, value_end, pointed_at, typed_entry, entry_of, entry_at, entry_read, start_of, end_for, typed_start, value_start}

module _ (d : List ℕ) (v : View) (i : ℕ) (x : Value) where
  abbrev body : ℕ
  body = place_at v i + 1

  abbrev there : ℕ
  there = v.start + offset_at d v.kind body (end_of v)

  pointed-by : (t : JsonbType) → pointed_at d v t body ≡ Ok x → read_at d t there (end_of v) ≡ Ok x
  unfolding pointed_at
  pointed-by t e = go (ltb there (body + offset_size v.kind)) (ltb (end_of v) there) e
    where
      go : (a b : Bool) → cond a (Err refusal.Pointer) (cond b (Err refusal.Pointer) (read_at d t there (end_of v))) ≡ Ok x → read_at d t there (end_of v) ≡ Ok x
      go true b q = cc
      go false true q = cc
      go false false q = q

  typed-by : (t : JsonbType) → typed_entry d v t body ≡ Ok x → read_at d t (start_of d v i t) (end_for v i t) ≡ Ok x
  unfolding typed_entry start_of end_for
  typed-by t e = go (is_inlined t v.kind.large) e
    where
      go : (a : Bool) → cond a (read_at d t body (value_end v i)) (pointed_at d v t body) ≡ Ok x →
          read_at d t (cond a body there) (cond a (value_end v i) (end_of v)) ≡ Ok x
      go true q = q
      go false q = pointed-by t q

  -- the type of the entry, and the value as it is read at its start
  pub record Started : Type 0 where
    pub code : JsonbType
    pub known : type_of (get_or d (place_at v i) 0) ≡ Ok code
    pub value : read_at d code (value_start d v i) (end_for v i code) ≡ Ok x

  entry-by : (y : Result JsonbType Refusal) → type_of (get_or d (place_at v i) 0) ≡ y → entry_of d v y body ≡ Ok x → Started
  unfolding value_start
  entry-by (Ok t) h e =
      record { code = t; known = h; value = ap (λ (y : Result JsonbType Refusal). read_at d t (typed_start d v i y) (end_for v i t)) h ∙ typed-by t e }
  entry-by (Err r) h e = cc

module _ (d : List ℕ) (v : View) (i : ℕ) {x : Value} (q : entry_read d v i ≡ Ok x) where
  pub value-start-read : Started d v i x
  unfolding entry_read entry_at
  value-start-read =
      entry-by d v i x (type_of (get_or d (place_at v i) 0)) refl
      (placed-so d (value_end v i) (end_of v) (entry_at d v i) q).0

  pub start_small : value_start d v i ≤ 16777216
  start_small =
      let s = value-start-read in
      let w = (read-so d s.code (value_start d v i) (end_for v i s.code) s.value).1 in
      omega (arith, w.order, w.inside, w.short)
