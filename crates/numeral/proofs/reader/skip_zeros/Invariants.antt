-- What is left says the same of the text, and is shorter each time.
-- Assumes nothing.
use Rattle.std.proofs.Common.{◌≡◌, length}
use Rattle.numeral.specs.Read.{strip}
use Rattle.numeral.proofs.reader.skip_zeros.Given as goal

abbrev pub invariant-loop-rest : goal.invariant-loop-rest
invariant-loop-rest l = strip l.rest ≡ strip l.text

abbrev pub decreases-loop-rest : goal.decreases-loop-rest
decreases-loop-rest l = length l.rest
