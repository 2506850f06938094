-- The iteration gives, step by step from its first place, exactly the answers by position at 0, 1, 2 and so on up to the count, and stays there.
-- Assumes nothing.
use mathlib.Core.Path.{◌≡◌, refl, ap, ◌∙◌}
use mathlib.Core.Bool.{Bool, true, false, cond, not}
use mathlib.Core.List.{List}
use Prim.Native.Nat.{ℕ, zero, suc, ◌≤◌, ◌<◌}
use native.Mathlib.Omega.{arith}
use lib.Dec.{ltb, leb}
use lib.ListN.{length}
use borrow.Author.Tests.{le-ltb, le-leb, lt-leb, leb-true, leb-false}
use Rattle.value.specs.declared.View.{View}
use Rattle.value.specs.declared.Span.{Span}
use Rattle.value.specs.declared.Value.{Value}
use Rattle.gate.specs.Said.{Said, nothing, refuses, read_said}
use Rattle.entry.specs.Entries.{entry_at, key_entry_at}
use Rattle.gate.specs.Before.{matches, gated}
use Rattle.jsonb.specs.Views.{elem_at, key_at}
use Rattle.steps.specs.Steps.{is_open, after, member_of, element_item, key_item, member_item}
use Rattle.jsonb_laws.specs.Walked.{steps_to}

-- ---- an item is the answer by position
pub element-item : (d : List ℕ) (v : View) (i : ℕ) → v.kind.object ≡ false → element_item d v i ≡ elem_at d v i
unfolding element_item elem_at
element-item d v i e = ap (λ (b : Bool). gated d v (not b) i (read_said (entry_at d v i))) e

pub key-item : (d : List ℕ) (v : View) (i : ℕ) → key_item d v i ≡ key_at d v i
unfolding key_item key_at
key-item d v i = refl

-- by the tests of the gate: a is too long, b asked for, m a match, c past the count
member-by : (a b m c : Bool) (s : Said Span) (x : Said Value) →
    cond a (refuses 1) (cond b (cond m (cond c nothing (member_of s x)) (refuses 13)) (refuses 13))
    ≡ member_of (cond a (refuses 1) (cond b (cond m (cond c nothing s) (refuses 13)) (refuses 13)))
    (cond a (refuses 1) (cond m (cond c nothing x) (refuses 13)))
member-by true b m c s x = refl
member-by false false m c s x = refl
member-by false true false c s x = refl
member-by false true true true s x = refl
member-by false true true false s x = refl

-- also for a view of an array, where both are 13
pub member-item : (d : List ℕ) (v : View) (i : ℕ) → member_item d v i ≡ member_of (key_at d v i) (elem_at d v i)
unfolding member_item key_at elem_at gated
member-item d v i =
    member-by (ltb 16777216 (length d)) v.kind.object (matches d v) (leb v.count i) (read_said (key_entry_at d v i)) (read_said (entry_at d v i))

-- ---- the places
pub stays : (d : List ℕ) (v : View) (asked : Bool) (p : ℕ) → is_open d v asked p ≡ false → after (is_open d v asked p) p ≡ p
stays d v asked p e = ap (λ (b : Bool). after b p) e

module _ (d : List ℕ) (v : View) (s : length d ≤ 16777216) (m : matches d v ≡ true) where
  open_by : (p : ℕ) {c : Bool} → leb v.count p ≡ c → is_open d v true p ≡ cond c false true
  unfolding is_open
  open_by p e =
      ap (λ (a : Bool). cond a false (cond (matches d v) (cond (leb v.count p) false true) false)) (le-ltb 16777216 (length d) s)
      ∙ ap (λ (a : Bool). cond a (cond (leb v.count p) false true) false) m
      ∙ ap (λ (a : Bool). cond a false true) e

  steps_on : (p : ℕ) → p < v.count → after (is_open d v true p) p ≡ suc p
  steps_on p h = ap (λ (b : Bool). after b p) (open_by p (lt-leb v.count p h)) ∙ omega arith

  steps-end : (p : ℕ) → v.count ≤ p → after (is_open d v true p) p ≡ p
  steps-end p h = stays d v true p (open_by p (le-leb v.count p h))

  pub steps-count : (n : ℕ) → n ≤ v.count → steps_to d v true n ≡ n
  unfolding steps_to
  steps-count zero h = refl
  steps-count (suc n) h = ap (λ (p : ℕ). after (is_open d v true p) p) (steps-count n (omega arith)) ∙ steps_on n h

  pub steps-past : (n : ℕ) → v.count ≤ n → steps_to d v true n ≡ v.count
  unfolding steps_to
  steps-past zero h = omega arith
  steps-past (suc n) h = go (λ (l : v.count ≤ n). steps-past n l) (leb v.count n) refl
    where
      go : (v.count ≤ n → steps_to d v true n ≡ v.count) → (b : Bool) → leb v.count n ≡ b → steps_to d v true (suc n) ≡ v.count
      go past true e =
          ap (λ (p : ℕ). after (is_open d v true p) p) (past (leb-true v.count n e)) ∙ steps-end v.count (omega arith)
      go past false e = let l = leb-false v.count n e in steps-count (suc n) (omega arith) ∙ omega arith

  -- ---- the n-th item is the answer at n, and at the count there is nothing
  pub elements-walked : v.kind.object ≡ false → (n : ℕ) → n ≤ v.count → element_item d v (steps_to d v (not v.kind.object) n) ≡ elem_at d v n
  elements-walked o n h =
      ap (λ (b : Bool). element_item d v (steps_to d v (not b) n)) o ∙ ap (element_item d v) (steps-count n h) ∙ element-item d v n o

  module _ (o : v.kind.object ≡ true) (n : ℕ) (h : n ≤ v.count) where
    place_is : steps_to d v v.kind.object n ≡ n
    place_is = ap (λ (b : Bool). steps_to d v b n) o ∙ steps-count n h

    pub keys-walked : key_item d v (steps_to d v v.kind.object n) ≡ key_at d v n
    keys-walked = ap (key_item d v) place_is ∙ key-item d v n

    pub members-walked : member_item d v (steps_to d v v.kind.object n) ≡ member_of (key_at d v n) (elem_at d v n)
    members-walked = ap (member_item d v) place_is ∙ member-item d v n
