-- The gate's answer tells whether there is an item, and of a whole container a member is what its key and its value give.
-- Assumes nothing.
use mathlib.Core.Path.{◌≡◌, refl}
use mathlib.Core.Bool.{Bool, true, false, cond}
use mathlib.Core.List.{List}
use Prim.Native.Nat.{ℕ, ◌<◌}
use lib.ListN.{length}
use lib.Dec.{ltb, leb}
use Rattle.std.specs.Prelude.{Result, Ok, Err}
use Rattle.refusal.specs.declared.Refusal.{Refusal}
use Rattle.refusal.specs.declared.Refusal.TheVariants as refusal
use Rattle.value.specs.declared.View.{View}
use Rattle.entry.specs.Entries.{entry_read, key_read}
use Rattle.gate.specs.Said.{read_said}
use Rattle.gate.specs.Before.{matches, gated, gate_of}
use Rattle.gate.proofs.Gates.{gated_same, open-whole, whole-entry, whole-key}
use Rattle.steps.specs.Steps.{is_open, member_of, member_item}

-- whether an answer of the gate is open
abbrev pub opened : Result Bool Refusal → Bool
opened (Ok b) = b
opened (Err r) = false

module _ (d : List ℕ) (v : View) (asked : Bool) (i : ℕ) where
  pub open_by : is_open d v asked i ≡ opened (gate_of d v asked i)
  unfolding is_open gate_of
  open_by = go (ltb 16777216 (length d)) asked (matches d v) (leb v.count i)
    where
      go : (a b m c : Bool) →
          cond a false (cond b (cond m (cond c false true) false) false)
          ≡ opened (cond a (Err refusal.Document) (cond b (cond m (cond c (Ok false) (Ok true)) (Err refusal.View)) (Err refusal.View)))
      go true b m c = refl
      go false false m c = refl
      go false true false c = refl
      go false true true true = refl
      go false true true false = refl

  pub below : gate_of d v asked i ≡ Ok true → i < v.count
  below e = (open-whole d v asked i e).below

-- a member is what the gate makes of what is read of any view
pub member_is : (d : List ℕ) (v : View) (i : ℕ) →
    member_item d v i ≡ gated d v v.kind.object i (member_of (read_said (key_read d v i)) (read_said (entry_read d v i)))
unfolding member_item
member_is d v i = gated_same d v v.kind.object i _ _ (λ w. rw (whole-entry d v i w, whole-key d v i w) refl)
