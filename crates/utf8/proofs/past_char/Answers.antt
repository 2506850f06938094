-- ASCII is a character by itself.
-- Assumes nothing.
use Rattle.std.proofs.Common.{arith}
use Rattle.utf8.proofs.Steps.{one}
use Rattle.utf8.proofs.past_char.Goals as goal

pub returns-in-0-to-127 : goal.returns-in-0-to-127
returns-in-0-to-127 c = (one _ _ (omega arith) (omega arith), omega arith)
