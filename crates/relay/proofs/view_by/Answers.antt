-- A code up to 3 says of what kind the view is.
-- Assumes nothing.
use mathlib.Core.Path.{refl}
use Rattle.surface.specs.Documents.{kind_by}
use Rattle.surface.proofs.Documents.{no_kind, a-kind}
use Rattle.relay.proofs.view_by.Goals as goal

pub returns-then-code-gt3 : goal.returns-then-code-gt3
returns-then-code-gt3 c = no_kind c.args.code c.args.start c.args.size c.args.count c.if-code-gt3.true

pub returns : goal.returns
unfolding kind_by
returns c = a-kind c.args.code c.args.start c.args.size c.args.count c.if-code-gt3.false refl
