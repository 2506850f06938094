-- What an open gate says, and what each answer of the gate makes of the definitions that go by it.
-- Assumes nothing.
use mathlib.Core.Path.{◌≡◌, refl, sym, ap, ◌∙◌}
use mathlib.Core.Bool.{Bool, true, false, cond}
use mathlib.Core.List.{List}
use Prim.Native.Nat.{ℕ, ◌+◌, ◌*◌, ◌-◌, ◌≤◌}
use native.Mathlib.Omega.{arith}
use lib.ListN.{length}
use lib.Dec.{ltb, leb, eqb}
use borrow.Author.Tests.{ltb-false, leb-false, eqb-true}
use Rattle.std.specs.Prelude.{Result, Ok, Err}
use Rattle.refusal.specs.declared.Refusal.{Refusal}
use Rattle.refusal.specs.declared.Refusal.TheVariants as refusal
use Rattle.refusal.specs.Refusals.{number_of}
use Rattle.layout.specs.Layout.{offset_size, offset_at, header_size}
use Rattle.header.specs.Headers.{header, header_at, header_read}
use Rattle.layout.specs.declared.Kind.{Kind}
use Rattle.value.specs.declared.View.{View}
use Rattle.header.specs.declared.Header.{Header}
use Rattle.gate.specs.Said.{Said, nothing, refuses, read_said}
use Rattle.gate.specs.Before.{matches, names, gated, gate_of, Whole}
use Rattle.layout.proofs.Inside.{size-two, value-inside, key-inside}
use Rattle.header.proofs.Placed.{placed-so, placed-within}
use Rattle.entry.specs.Entries.{end_of, value_end, entry_at, entry_read, key_end, key_entry_at, key_read}

-- a header that is whole
record Headed (k : Kind) (i e n s : ℕ) : Type 0 where
  fields : 2 * offset_size k ≤ e - i
  inside : s ≤ e - i
  header : header_size k n ≤ s

pub head-by : (a b c : Bool) {h g : Header} → cond a (Err refusal.Cut) (cond b (Err refusal.Size) (cond c (Err refusal.Size) (Ok h))) ≡ Ok g →
    (a ≡ false) × (b ≡ false) × (c ≡ false) × (h ≡ g)
head-by true b c e = cc
head-by false true c e = cc
head-by false false true e = cc
head-by false false false e = (refl, refl, refl, cc)

module _ (d : List ℕ) (k : Kind) (i e n s : ℕ) where
  abbrev count : ℕ
  count = offset_at d k i e

  abbrev size : ℕ
  size = offset_at d k (i + offset_size k) e

  headed : header_read d k i e ≡ Ok (header n s) → Headed k i e n s
  unfolding header_read header_at
  headed h =
      let f = head-by (ltb (e - i) (2 * offset_size k)) (ltb (e - i) size) (ltb size (header_size k count)) (placed-so d i e _ h).0 in
      let p : count ≡ n = ap (λ (x : Header). x.count) f.3 in
      let q : size ≡ s = ap (λ (x : Header). x.size) f.3 in
      record {
        fields = ltb-false _ _ f.0;
        inside = rw q at (ltb-false (e - i) size f.1);
        header = rw (q, p) at (ltb-false size (header_size k count) f.2);
      }

both : (a b : Bool) → cond a b false ≡ true → (a ≡ true) × (b ≡ true)
both true b e = (refl, e)
both false b e = cc

names-so : (h : Result Header Refusal) (n s : ℕ) → names h n s ≡ true → h ≡ Ok (header n s)
names-so (Ok h) n s e =
    let f = both (eqb h.count n) (eqb h.size s) e in
    ap (λ (x : ℕ). Ok (header x h.size)) (eqb-true h.count n f.0) ∙ ap (λ (x : ℕ). Ok (header n x)) (eqb-true h.size s f.1)
names-so (Err r) n s e = cc

pub matched : (d : List ℕ) (v : View) → matches d v ≡ true → header_read d v.kind v.start (length d) ≡ Ok (header v.count v.size)
unfolding matches
matched d v e = names-so (header_read d v.kind v.start (length d)) v.count v.size e

gate-by : (a b m c : Bool) →
    cond a (Err refusal.Document) (cond b (cond m (cond c (Ok false) (Ok true)) (Err refusal.View)) (Err refusal.View)) ≡ Ok true →
    (a ≡ false) × (b ≡ true) × (m ≡ true) × (c ≡ false)
gate-by true b m c e = cc
gate-by false false m c e = cc
gate-by false true false c e = cc
gate-by false true true true e = cc
gate-by false true true false e = (refl, refl, refl, refl)

-- what each answer of the gate says
abbrev pub through : {A : Type 0} → Result Bool Refusal → Said A → Said A
through (Ok true) x = x
through (Ok false) x = nothing
through (Err r) x = refuses (number_of r)

module _ (d : List ℕ) (v : View) (asked : Bool) (i : ℕ) where
  pub gated_by : {A : Type 0} (x : Said A) → gated d v asked i x ≡ through (gate_of d v asked i) x
  unfolding gated gate_of
  gated_by x = go (ltb 16777216 (length d)) asked (matches d v) (leb v.count i)
    where
      go : (a b m c : Bool) →
          cond a (refuses 1) (cond b (cond m (cond c nothing x) (refuses 13)) (refuses 13))
          ≡ through (cond a (Err refusal.Document) (cond b (cond m (cond c (Ok false) (Ok true)) (Err refusal.View)) (Err refusal.View))) x
      go true b m c = refl
      go false false m c = refl
      go false true false c = refl
      go false true true true = refl
      go false true true false = refl

  module _ (ge : gate_of d v asked i ≡ Ok true) where
    facts : (ltb 16777216 (length d) ≡ false) × (asked ≡ true) × (matches d v ≡ true) × (leb v.count i ≡ false)
    unfolding gate_of
    facts = gate-by (ltb 16777216 (length d)) asked (matches d v) (leb v.count i) ge

    pub open-whole : Whole d v i
    open-whole =
        let h = headed d v.kind v.start (length d) v.count v.size (matched d v facts.2) in
        record {
          short = ltb-false _ _ facts.0;
          inside = omega (arith, size-two v.kind, h.fields, h.inside);
          header = h.header;
          below = leb-false _ _ facts.3;
        }

-- in a whole container every entry below the count stands, so that nothing is in the way of reading it
module _ (d : List ℕ) (v : View) (i : ℕ) (w : Whole d v i) where
  pub whole-entry : entry_read d v i ≡ entry_at d v i
  unfolding entry_read
  whole-entry =
      placed-within d (value_end v i) (end_of v)
      (record { order = omega (arith, value-inside v.kind v.count i w.below, w.header); inside = w.inside; short = w.short })

  pub whole-key : key_read d v i ≡ key_entry_at d v i
  unfolding key_read
  whole-key =
      placed-within d (key_end v i) (end_of v)
      (record { order = omega (arith, key-inside v.kind v.count i w.below, w.header); inside = w.inside; short = w.short })

-- so what goes by the gate may be read as of any view
module _ (d : List ℕ) (v : View) (asked : Bool) (i : ℕ) where
  pub gated_same : {A : Type 0} (x y : Said A) → (Whole d v i → x ≡ y) → gated d v asked i x ≡ gated d v asked i y
  gated_same x y f = gated_by d v asked i x ∙ go (gate_of d v asked i) refl ∙ sym (gated_by d v asked i y)
    where
      go : (g : Result Bool Refusal) → gate_of d v asked i ≡ g → through g x ≡ through g y
      go (Ok true) e = f (open-whole d v asked i e)
      go (Ok false) e = refl
      go (Err r) e = refl

  pub entry_gated : gated d v asked i (read_said (entry_at d v i)) ≡ gated d v asked i (read_said (entry_read d v i))
  entry_gated = gated_same _ _ (λ w. ap read_said (sym (whole-entry d v i w)))

  pub key_gated : gated d v asked i (read_said (key_entry_at d v i)) ≡ gated d v asked i (read_said (key_read d v i))
  key_gated = gated_same _ _ (λ w. ap read_said (sym (whole-key d v i w)))
