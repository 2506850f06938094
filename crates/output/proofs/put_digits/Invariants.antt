-- The digits of the bytes so far stand at the front.
-- Assumes nothing.
use Rattle.std.proofs.Common.{◌≡◌, ◌*◌, take}
use Rattle.std.specs.Prelude.{flat_map}
use Rattle.output.specs.Words.{two_digits}
use Rattle.output.proofs.put_digits.Given as goal

abbrev pub invariant-loop-i : goal.invariant-loop-i
invariant-loop-i l = take (2 * l.i) l.text ≡ flat_map two_digits (take l.i l.bytes)
