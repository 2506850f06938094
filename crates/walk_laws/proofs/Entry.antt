-- A path below the root leads to an entry of a whole container, since every container that is read is one. So the key and the string that stand there lie
-- in the document.
-- Assumes nothing.
use mathlib.Core.Path.{◌≡◌, refl, subst}
use mathlib.Core.Bool.{Bool, true, false, cond}
use mathlib.Core.List.{List, [], ◌∷◌}
use Prim.Native.Nat.{ℕ, ◌+◌, ◌≤◌, ◌<◌}
use native.Mathlib.Omega.{arith}
use lib.ListN.{length}
use borrow.Author.Tests.{le-ltb, lt-leb}
use Rattle.value.specs.declared.View.{View}
use Rattle.value.specs.declared.Span.{Span}
use Rattle.value.specs.declared.Scalar.TheVariants as scalar
use Rattle.value.specs.declared.Value.{Value}
use Rattle.value.specs.declared.Value.TheVariants as value
use Rattle.std.specs.Prelude.{Result, Ok, Err}
use Rattle.refusal.specs.declared.Refusal.{Refusal}
use Rattle.gate.specs.Said.{Said, says, nothing, refuses, read_said}
use Rattle.gate.specs.Before.{Whole, gate_of}
use Rattle.gate.proofs.Gates.{open-whole}
use Rattle.jsonb.specs.Views.{root_read, key_at}
use Rattle.jsonb_laws.proofs.Inside.{root-inside, elem-inside, key-inside}
use Rattle.events.specs.Events.{no_key}
use Rattle.paths.specs.Judged.{Stand}
use Rattle.paths.specs.Paths.{root_stand, child, view_in, count_in, Below, here, down}
use Rattle.paths.proofs.Whole.{Stands, SaidStands, root_stands, elem-stands}
use Rattle.walk_laws.specs.Promise.{Leads, TextInside, TextsInside}

-- ---- a path below the root leads to an entry of a whole container
pub record Entry (d : List ℕ) (s : Stand) : Type 0 where
  pub view : View
  pub position : ℕ
  pub whole : Stands d view
  pub below : position < view.count
  pub is : child d view position ≡ s

entry_of : (d : List ℕ) (x : Said Value) → SaidStands d x → (i : ℕ) → i < count_in x → Entry d (child d (view_in x) i)
entry_of d (says (value.Scalar t s)) w i h = absurd (omega arith)
entry_of d (says (value.Container v)) w i h = record { view = v; position = i; whole = w; below = h; is = refl }
entry_of d nothing w i h = absurd (omega arith)
entry_of d (refuses n) w i h = absurd (omega arith)

entry-below : {d : List ℕ} {s t : Stand} {π : List ℕ} → Entry d s → SaidStands d s.value → Below d s π t → Entry d t
entry-below n w here = n
entry-below {d} {s = s} n w (down {i = i} h b) =
    entry-below (entry_of d s.value w i h) (elem-stands d (view_in s.value) i) b

pub leads-entry : {d : List ℕ} {i : ℕ} {π : List ℕ} {s : Stand} → Leads d (i ∷ π) s → Entry d s
leads-entry {d} (down {i = i} h b) =
    entry-below (entry_of d (root_stand d).value (root_stands d) i h) (elem-stands d (view_in (root_stand d).value) i) b

-- ---- its view lies in the document
module _ (d : List ℕ) (v : View) (w : Stands d v) (i : ℕ) (h : i < v.count) where
  opens : gate_of d v true i ≡ Ok true
  unfolding gate_of
  opens = rw (le-ltb 16777216 (length d) w.short, w.whole, lt-leb v.count i h)

  pub is_whole : Whole d v i
  is_whole = open-whole d v true i opens

-- ---- and so do its key and a string
-- what is said of a key that is none, and of one that is there
pub said-key : {k j : Span} → says k ≡ says j → k ≡ j
said-key e = cc

module _ (d : List ℕ) (v : View) (w : Stands d v) (i : ℕ) (h : i < v.count) where
  child-inside : TextInside d (child d v i)
  child-inside =
      record {
        key = λ e. go v.kind.object e;
        string = λ {t} {x} e. let o = is_whole d v w i h in let s = elem-inside d v i (value.Scalar t (scalar.String x)) e in omega (arith, o.inside, s.high);
      }
    where
      go : (b : Bool) {k : Span} → cond b (key_at d v i) (says no_key) ≡ says k → k.start + k.len ≤ length d
      go true {k} e = let o = is_whole d v w i h in let s = key-inside d v i k e in omega (arith, o.inside, s.high)
      go false {k} e = subst (λ (j : Span). j.start + j.len ≤ length d) (said-key e) (omega arith)

read-said : (r : Result Value Refusal) {x : Value} → read_said r ≡ says x → r ≡ Ok x
read-said (Ok y) {x} e = cc
read-said (Err f) e = cc

root-texts : (d : List ℕ) → TextInside d (root_stand d)
root-texts d =
    record {
      key = λ e. subst (λ (j : Span). j.start + j.len ≤ length d) (said-key e) (omega arith);
      string = λ {t} {x} e. (root-inside d (value.Scalar t (scalar.String x)) (read-said (root_read d) e)).high;
    }

pub texts-inside : TextsInside
texts-inside d [] s here = root-texts d
texts-inside d (i ∷ π) s b = let e = leads-entry b in subst (TextInside d) e.is (child-inside d e.view e.whole e.position e.below)
