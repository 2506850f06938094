-- Bad readers that document 01 names: one that only refuses, one that answers null each time, and an iteration that is right at its first step
-- alone. No function that keeps the promise is such a one, since document 01 has a document where the promise says a thing that is not null.
-- Assumes nothing.
use Prim.Native.Nat.{ℕ, ◌≤◌}
use native.Mathlib.Omega.{arith}
use mathlib.Core.Path.{◌≡◌, refl, sym, ◌∙◌, subst}
use mathlib.Core.Bool.{true, false}
use mathlib.Core.List.{List}
use lib.IntN.{negsuc}
use Rattle.raw.specs.Numbers.{value as number_of, le}
use Rattle.codes.specs.Lists.{search as searched}
use Rattle.codes.specs.Types.{type_of}
use Rattle.codes.specs.Literals.{type_of as literal_type}
use Rattle.codes.specs.declared.types.JsonbType.TheVariants as type
use Rattle.layout.specs.Layout.{offset_size, key_entry, key_place, value_place, header_size, offset_at}
use Rattle.std.specs.Prelude.{Result, Option}
use Rattle.refusal.specs.declared.Refusal.{Refusal}
use Rattle.value.specs.declared.View.{View}
use Rattle.value.specs.declared.Span.{Span}
use Rattle.value.specs.declared.Value.{Value}
use Rattle.value.specs.declared.Value.TheVariants as value
use Rattle.value.specs.declared.Scalar.TheVariants as scalar
use Rattle.value.specs.declared.Number.TheVariants as number
use Rattle.content.specs.Reading.{kind, span, view, literal_at, number_at, content_at, read_at}
use Rattle.header.specs.Headers.{header_at, place_of, header_read}
use Rattle.entry.specs.Entries.{typed_entry, entry_at, key_of, key_entry_at}
use Rattle.gate.specs.Said.{says, read_said, said}
use Rattle.jsonb.specs.Views.{root_read, elem_at, key_at}
use Rattle.gate.specs.Before.{matches, gated}
use Rattle.steps.specs.Steps.{element_item}
use Rattle.steps.specs.declared.Step.{Step}
use Rattle.steps.specs.declared.Elements.{Elements}
use Rattle.paper.specs.Paper.{true_and_minus_two, zoe}
use Rattle.paper.specs.Readers.{Silent, OnlyNull}

-- ---- what the promises say of two of document 01's documents
abbrev array : View
array = view 1 10 2 (kind false false)

abbrev object : View
object = view 1 17 1 (kind true false)

root_said : read_said (root_read true_and_minus_two) ≡ says (value.Container array)
unfolding number_of le searched type_of offset_size key_entry value_place header_size offset_at header_at content_at place_of read_at root_read
root_said = refl

first_said : elem_at true_and_minus_two array 0 ≡ says (value.Scalar type.Literal (scalar.Boolean true))
unfolding number_of le searched type_of literal_type offset_size key_entry value_place header_size offset_at header_at literal_at content_at place_of read_at header_read typed_entry entry_at matches gated elem_at
first_said = refl

second-said : element_item true_and_minus_two array 1 ≡ says (value.Scalar type.Int16 (scalar.Number (number.Int (negsuc 1))))
unfolding number_of le searched type_of offset_size key_entry value_place header_size offset_at header_at number_at content_at place_of read_at header_read typed_entry entry_at matches gated element_item
second-said = refl

key-said : key_at (zoe 0x0B) object 0 ≡ says (span 12 1)
unfolding number_of le offset_size key_entry key_place value_place header_size offset_at header_at place_of header_read key_of key_entry_at matches gated key_at
key-said = refl

-- ---- the root
module _ (f : List ℕ → Result Value Refusal) (promise : (d : List ℕ) → f d ≡ root_read d) where
  root_answer : read_said (f true_and_minus_two) ≡ says (value.Container array)
  root_answer = subst (λ (r : Result Value Refusal). read_said r ≡ says (value.Container array)) (sym (promise true_and_minus_two)) root_said

  pub root-not-only-refuses : ((d : List ℕ) → Silent (read_said (f d))) → ⊥
  root-not-only-refuses bad = subst Silent root_answer (bad true_and_minus_two)

  pub root-not-only-null : ((d : List ℕ) → OnlyNull (read_said (f d))) → ⊥
  root-not-only-null bad = subst OnlyNull root_answer (bad true_and_minus_two)

-- ---- elements and members' values by position
module _ (f : List ℕ → View → ℕ → Result (Option Value) Refusal) (promise : (d : List ℕ) (v : View) (i : ℕ) → said (f d v i) ≡ elem_at d v i) where
  element-answer : said (f true_and_minus_two array 0) ≡ says (value.Scalar type.Literal (scalar.Boolean true))
  element-answer = promise true_and_minus_two array 0 ∙ first_said

  pub element-not-only-refuses : ((d : List ℕ) (v : View) (i : ℕ) → Silent (said (f d v i))) → ⊥
  element-not-only-refuses bad = subst Silent element-answer (bad true_and_minus_two array 0)

  pub element-not-only-null : ((d : List ℕ) (v : View) (i : ℕ) → OnlyNull (said (f d v i))) → ⊥
  element-not-only-null bad = subst OnlyNull element-answer (bad true_and_minus_two array 0)

-- ---- keys by position
module _ (f : List ℕ → View → ℕ → Result (Option Span) Refusal) (promise : (d : List ℕ) (v : View) (i : ℕ) → said (f d v i) ≡ key_at d v i) where
  pub key-not-only-refuses : ((d : List ℕ) (v : View) (i : ℕ) → Silent (said (f d v i))) → ⊥
  key-not-only-refuses bad = subst Silent (promise (zoe 0x0B) object 0 ∙ key-said) (bad (zoe 0x0B) object 0)

-- ---- iteration over elements: right at place 0, and silent from there on
module _ (f : List ℕ → Elements → Step Value Elements) (promise : (d : List ℕ) (p : Elements) → said (f d p).item ≡ element_item d p.view p.at) where
  abbrev second : Elements
  second = record { view = array; at = 1 }

  pub iteration-not-first-step-alone : ((d : List ℕ) (p : Elements) → 1 ≤ p.at → Silent (said (f d p).item)) → ⊥
  iteration-not-first-step-alone bad =
      subst Silent (promise true_and_minus_two second ∙ second-said) (bad true_and_minus_two second (omega arith))
