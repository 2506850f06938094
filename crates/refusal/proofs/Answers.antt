-- Two answers that a contract allows are equal: each contract is an equation of the answer, or of what is told of it, and what is told gives the
-- answer back.
-- Assumes nothing.
use mathlib.Core.Path.{◌≡◌, refl, sym, ap, ◌∙◌}
use Rattle.std.specs.Prelude.{ℕ, ◌-◌, cond, List, [], ◌∷◌, ltb, get_or, Result, Ok, Err}
use lib.Dec.{eqb}
use Rattle.refusal.specs.declared.Refusal.{Refusal}
use Rattle.refusal.specs.declared.Refusal.TheVariants as refusal
use Rattle.refusal.specs.Told.{Told, told_by}

-- two answers of which the same is said are equal, where what is said gives the answer back. An answer that is a record is said by itself
pub one_answer : {A B : Type 0} (say : A → B) (back : B → A) → ((r : A) → back (say r) ≡ r) → (d : B) (r s : A) → say r ≡ d → say s ≡ d → r ≡ s
one_answer say back again d r s p q = sym (again r) ∙ ap back (p ∙ sym q) ∙ again s

pub record-answer : {A : Type 0} (d r s : A) → r ≡ d → s ≡ d → r ≡ s
record-answer d r s p q = one_answer (λ x. x) (λ x. x) (λ x. refl) d r s p q

-- ---- an answer of which its refusal's number or its values are told
first : List Refusal
first = refusal.Document ∷ refusal.Type ∷ refusal.Cut ∷ refusal.Size ∷ refusal.Key ∷ refusal.Pointer ∷ refusal.Literal ∷ refusal.Length ∷ refusal.Utf8 ∷ refusal.Column ∷ refusal.Depth ∷ refusal.Events ∷ refusal.View ∷ []

second : List Refusal
second = refusal.Range ∷ refusal.Short ∷ refusal.Group ∷ refusal.Text ∷ refusal.Digits ∷ refusal.Room ∷ refusal.Record ∷ []

by_number : ℕ → Refusal
by_number n = cond (ltb n 20) (get_or first (n - 1) refusal.View) (cond (ltb n 30) (get_or second (n - 20) refusal.Record) (cond (ltb n 31) refusal.TimeField refusal.TimeShort))

module _ {A : Type 0} (values : A → List ℕ) (back : List ℕ → A) (again : (x : A) → back (values x) ≡ x) where
  result_by : Told → Result A Refusal
  result_by t = cond (eqb t.number 0) (Ok (back t.values)) (Err (by_number t.number))

  result-again : (r : Result A Refusal) → result_by (told_by values r) ≡ r
  unfolding result_by by_number first second
  result-again (Ok x) = ap Ok (again x)
  result-again (Err refusal.Document) = refl
  result-again (Err refusal.Type) = refl
  result-again (Err refusal.Cut) = refl
  result-again (Err refusal.Size) = refl
  result-again (Err refusal.Key) = refl
  result-again (Err refusal.Pointer) = refl
  result-again (Err refusal.Literal) = refl
  result-again (Err refusal.Length) = refl
  result-again (Err refusal.Utf8) = refl
  result-again (Err refusal.Column) = refl
  result-again (Err refusal.Depth) = refl
  result-again (Err refusal.Events) = refl
  result-again (Err refusal.View) = refl
  result-again (Err refusal.Range) = refl
  result-again (Err refusal.Short) = refl
  result-again (Err refusal.Group) = refl
  result-again (Err refusal.Text) = refl
  result-again (Err refusal.Digits) = refl
  result-again (Err refusal.Room) = refl
  result-again (Err refusal.Record) = refl
  result-again (Err refusal.TimeField) = refl
  result-again (Err refusal.TimeShort) = refl

  pub told-answer : (d : Told) (r s : Result A Refusal) → told_by values r ≡ d → told_by values s ≡ d → r ≡ s
  told-answer d r s p q = one_answer (told_by values) result_by result-again d r s p q
