-- Groups that were read are those of a precision and a scale within the limits.
-- Assumes nothing.
use Rattle.std.proofs.Common.{sym, ◌∙◌}
use Rattle.groups.proofs.Accept.{in-range}
use Rattle.groups.proofs.Opened.{opened}
use Rattle.decimal.proofs.Decimal.read_bin.Goals as goal

pub overflow_sub-parts : goal.overflow_sub-parts
overflow_sub-parts c = (in-range _ _ (opened _ _ _ _ _ (sym c.read.ensures ∙ c.in_ok-groups.was)).0).1.1
