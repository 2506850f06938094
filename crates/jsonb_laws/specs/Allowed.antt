-- What the contract of a step allows as its answer, over the document and the place of the step.
-- Assumes nothing.
use Rattle.std.specs.Prelude.{◌≡◌, not, List, ℕ}
use Rattle.value.specs.declared.Span.{Span}
use Rattle.value.specs.declared.Value.{Value}
use Rattle.gate.specs.Said.{said}
use Rattle.steps.specs.Steps.{is_open, after, element_item, key_item, member_item}
use Rattle.steps.specs.declared.Elements.{Elements}
use Rattle.steps.specs.declared.Keys.{Keys}
use Rattle.steps.specs.declared.Members.{Members}
use Rattle.steps.specs.declared.Member.{Member}
use Rattle.steps.specs.declared.Step.{Step}

-- Elements::next
pub record ElementAllowed (d : List ℕ) (self : Elements) (r : Step Value Elements) : Type 0 where
  pub item : said r.item ≡ element_item d self.view self.at
  pub view : r.next.view ≡ self.view
  pub at : r.next.at ≡ after (is_open d self.view (not self.view.kind.object) self.at) self.at

-- Keys::next
pub record KeyAllowed (d : List ℕ) (self : Keys) (r : Step Span Keys) : Type 0 where
  pub item : said r.item ≡ key_item d self.view self.at
  pub view : r.next.view ≡ self.view
  pub at : r.next.at ≡ after (is_open d self.view self.view.kind.object self.at) self.at

-- Members::next
pub record MemberAllowed (d : List ℕ) (self : Members) (r : Step Member Members) : Type 0 where
  pub item : said r.item ≡ member_item d self.view self.at
  pub view : r.next.view ≡ self.view
  pub at : r.next.at ≡ after (is_open d self.view self.view.kind.object self.at) self.at
