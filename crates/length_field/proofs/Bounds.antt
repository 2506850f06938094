-- What a caller may rely on: where a length field ends, and how large its length is.
-- Assumes nothing.
use mathlib.Core.Path.{◌≡◌, refl, ap, subst}
use mathlib.Core.Bool.{Bool, true, false, cond}
use mathlib.Core.List.{List, [], ◌∷◌}
use Prim.Native.Nat.{ℕ, zero, suc, ◌+◌, ◌-◌, ◌≤◌, ◌<◌, min}
use native.Mathlib.Omega.{arith}
use lib.Dec.{ltb}
use lib.ListN.{length, take, drop}
use lib.Seq.{slice}
use borrow.Author.Tests.{ltb-true}
use Rattle.std.specs.Prelude.{Result, Ok, Err}
use Rattle.refusal.specs.declared.Refusal.{Refusal}
use Rattle.length_field.specs.declared.Length.{Length}
use Rattle.refusal.specs.declared.Refusal.TheVariants as refusal
use Rattle.raw.proofs.Parts.{slice-length}
use Rattle.length_field.specs.Length.{Groups, got, short, long, above, groups, field_of, length_at}

-- what stands at the end or past it does not count
pub length-same : (a b : List ℕ) (at end : ℕ) → take end a ≡ take end b → length_at a at end ≡ length_at b at end
unfolding length_at
length-same a b at end e = ap (λ (l : List ℕ). field_of at (groups 5 (drop at l))) e

-- ---- a length field that is answered
pub record Placed (doc : List ℕ) (at end n next : ℕ) : Type 0 where
  pub small : n < 4294967296
  pub past : at < next
  pub within : next ≤ end
  pub there : next ≤ length doc

-- a number takes at least one of m bytes
abbrev Taken : ℕ → Groups → Type 0
Taken m (got v k) = (0 < k) × (k ≤ m)
Taken m short = Unit {0}
Taken m long = Unit {0}

taken-above : (m x : ℕ) (g : Groups) → Taken m g → Taken (suc m) (above x g)
taken-above m x (got v k) t = omega arith
taken-above m x short t = tt
taken-above m x long t = tt

taken : (n : ℕ) (s : List ℕ) → Taken (length s) (groups n s)
unfolding groups
taken zero s = tt
taken (suc n) [] = tt
taken (suc n) (b ∷ s) = go (ltb b 128) (taken-above (length s) (b - 128) (groups n s) (taken n s))
  where
    go : (t : Bool) → Taken (suc (length s)) (above (b - 128) (groups n s)) → Taken (suc (length s)) (cond t (got b 1) (above (b - 128) (groups n s)))
    go true a = omega arith
    go false a = a

module _ (doc : List ℕ) (at end n next : ℕ) where
  placed : (g : Groups) → Taken (min end (length doc) - at) g → field_of at g ≡ Ok (record { length = n; next = next }) → Placed doc at end n next
  placed (got v k) t e = go (ltb v 4294967296) refl e
    where
      go : (b : Bool) → ltb v 4294967296 ≡ b → cond {A = Result Length Refusal} b (Ok (record { length = v; next = at + k })) (Err refusal.Length) ≡ Ok (record { length = n; next = next }) → Placed doc at end n next
      go true l e =
          let h = ltb-true v 4294967296 l in
          let r : ◌≡◌ {A = Length} (record { length = v; next = at + k }) (record { length = n; next = next }) = cc in
          let x = ap (λ (r : Length). r.length) r in
          let y = ap (λ (r : Length). r.next) r in
          record { small = omega arith; past = omega arith; within = omega arith; there = omega arith }
      go false l e = cc
  placed short t e = cc
  placed long t e = cc

  pub length-placed : length_at doc at end ≡ Ok (record { length = n; next = next }) → Placed doc at end n next
  unfolding length_at
  length-placed e =
      let s = slice at end doc in
      placed (groups 5 s) (subst (λ (m : ℕ). Taken m (groups 5 s)) (slice-length doc at end) (taken 5 s)) e
