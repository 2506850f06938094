-- What is said of an answer of jsonb gives it back, so two answers that a contract allows are equal; a step is its item and the place that follows.
-- Assumes nothing.
use mathlib.Core.Path.{◌≡◌, refl, sym, ap, ◌∙◌}
use mathlib.Core.Bool.{Bool, not}
use mathlib.Core.List.{List, []}
use Prim.Native.Nat.{ℕ, ◌≤◌}
use lib.ListN.{length, take}
use Rattle.std.specs.Prelude.{Result, Ok, Err, Option, Some, None}
use Rattle.refusal.specs.declared.Refusal.{Refusal}
use Rattle.refusal.specs.Refusals.{number_of}
use Rattle.refusal.specs.Told.{refusal}
use Rattle.refusal.proofs.Answers.{told-answer}
use Rattle.value.specs.declared.Span.{Span}
use Rattle.value.specs.declared.Value.{Value}
use Rattle.gate.specs.Said.{Said, read_said, said}
use Rattle.steps.specs.Steps.{after, element_item, key_item, member_item}
use Rattle.steps.specs.declared.Elements.{Elements}
use Rattle.steps.specs.declared.Keys.{Keys}
use Rattle.steps.specs.declared.Members.{Members}
use Rattle.steps.specs.declared.Member.{Member}
use Rattle.steps.specs.declared.Step.{Step}
use Rattle.entry.specs.Entries.{end_of}
use Rattle.jsonb_laws.specs.Allowed.{ElementAllowed, KeyAllowed, MemberAllowed}
use Rattle.jsonb_laws.proofs.SameFront.{element-item-same, key-item-same, member-item-same, open-same}

-- ---- a refusal by its number
refused-same : (r s : Refusal) → number_of r ≡ number_of s → r ≡ s
refused-same r s e =
    let q : ◌≡◌ {A = Result (Unit {0}) Refusal} (Err r) (Err s) =
    told-answer (λ (u : Unit {0}). []) (λ (l : List ℕ). tt) (λ u. refl) (refusal (number_of s)) (Err r) (Err s) (ap refusal e) refl in
    cc

-- ---- an answer that is never nothing, and one that may be
read-same : {A : Type 0} (r s : Result A Refusal) → read_said r ≡ read_said s → r ≡ s
read-same (Ok x) (Ok y) e = let p : x ≡ y = cc in ap Ok p
read-same (Ok x) (Err s) e = cc
read-same (Err r) (Ok y) e = cc
read-same (Err r) (Err s) e = let p : number_of r ≡ number_of s = cc in ap Err (refused-same r s p)

said_same : {A : Type 0} (r s : Result (Option A) Refusal) → said r ≡ said s → r ≡ s
said_same (Ok (Some x)) (Ok (Some y)) e = let p : x ≡ y = cc in ap (λ z. Ok (Some z)) p
said_same (Ok (Some x)) (Ok None) e = cc
said_same (Ok (Some x)) (Err s) e = cc
said_same (Ok None) (Ok (Some y)) e = cc
said_same (Ok None) (Ok None) e = refl
said_same (Ok None) (Err s) e = cc
said_same (Err r) (Ok (Some y)) e = cc
said_same (Err r) (Ok None) e = cc
said_same (Err r) (Err s) e = let p : number_of r ≡ number_of s = cc in ap Err (refused-same r s p)

-- deserialize, element_count
pub count-answer : {A : Type 0} (d : Said A) (r s : Result A Refusal) → read_said r ≡ d → read_said s ≡ d → r ≡ s
count-answer d r s p q = read-same r s (p ∙ sym q)

-- elem_at, key_at, and the items of the steps
pub found-answer : {A : Type 0} (d : Said A) (r s : Result (Option A) Refusal) → said r ≡ d → said s ≡ d → r ≡ s
found-answer d r s p q = said_same r s (p ∙ sym q)

pub key-answer : (d : Said Span) (r s : Result (Option Span) Refusal) → said r ≡ d → said s ≡ d → r ≡ s
key-answer d r s p q = found-answer d r s p q

pub member-answer : (d : Said Member) (r s : Result (Option Member) Refusal) → said r ≡ d → said s ≡ d → r ≡ s
member-answer d r s p q = found-answer d r s p q

-- ---- steps: the item and the place that follows, and so the record
pub element-answer : (d : List ℕ) (self : Elements) (r s : Step Value Elements) → ElementAllowed d self r → ElementAllowed d self s → r ≡ s
element-answer d self r s p q =
    let e = found-answer (element_item d self.view self.at) r.item s.item p.item q.item in
    let v = p.view ∙ sym q.view in
    let a = p.at ∙ sym q.at in
    λ j. record { item = e j; next = record { view = v j; at = a j } }

pub key-step-answer : (d : List ℕ) (self : Keys) (r s : Step Span Keys) → KeyAllowed d self r → KeyAllowed d self s → r ≡ s
key-step-answer d self r s p q =
    let e = key-answer (key_item d self.view self.at) r.item s.item p.item q.item in
    let v = p.view ∙ sym q.view in
    let a = p.at ∙ sym q.at in
    λ j. record { item = e j; next = record { view = v j; at = a j } }

pub member-step-answer : (d : List ℕ) (self : Members) (r s : Step Member Members) → MemberAllowed d self r → MemberAllowed d self s → r ≡ s
member-step-answer d self r s p q =
    let e = member-answer (member_item d self.view self.at) r.item s.item p.item q.item in
    let v = p.view ∙ sym q.view in
    let a = p.at ∙ sym q.at in
    λ j. record { item = e j; next = record { view = v j; at = a j } }

-- ---- over a document that differs only past the end of the view, the step is the same record
module _ (a b : List ℕ) (sa : length a ≤ 16777216) (sb : length b ≤ 16777216) where
  pub element-same : (self : Elements) → take (end_of self.view) a ≡ take (end_of self.view) b →
      (r s : Step Value Elements) → ElementAllowed a self r → ElementAllowed b self s → r ≡ s
  element-same self h r s p q =
      let v = self.view in
      let i = self.at in
      element-answer b self r s
      (record {
        item = p.item ∙ element-item-same a b v h sa sb i;
        view = p.view;
        at = p.at ∙ ap (λ (c : Bool). after c i) (open-same a b v h sa sb (not v.kind.object) i);
      })
      q

  pub key-step-same : (self : Keys) → take (end_of self.view) a ≡ take (end_of self.view) b →
      (r s : Step Span Keys) → KeyAllowed a self r → KeyAllowed b self s → r ≡ s
  key-step-same self h r s p q =
      let v = self.view in
      let i = self.at in
      key-step-answer b self r s
      (record {
        item = p.item ∙ key-item-same a b v h sa sb i;
        view = p.view;
        at = p.at ∙ ap (λ (c : Bool). after c i) (open-same a b v h sa sb v.kind.object i);
      })
      q

  pub member-step-same : (self : Members) → take (end_of self.view) a ≡ take (end_of self.view) b →
      (r s : Step Member Members) → MemberAllowed a self r → MemberAllowed b self s → r ≡ s
  member-step-same self h r s p q =
      let v = self.view in
      let i = self.at in
      member-step-answer b self r s
      (record {
        item = p.item ∙ member-item-same a b v h sa sb i;
        view = p.view;
        at = p.at ∙ ap (λ (c : Bool). after c i) (open-same a b v h sa sb v.kind.object i);
      })
      q
