-- The digits come lowest first: what is left to write, put before those already written, is the whole.
-- Assumes what the contract requires, and nothing else.
use Rattle.std.proofs.Common.{◌≡◌, length}
use Rattle.groups.specs.Numbers.{digits}
use Rattle.writing.specs.Course.{laid_at}
use Rattle.writing.proofs.put_bytes.Given as goal

abbrev pub invariant-loop-i : goal.invariant-loop-i
invariant-loop-i l = record {
  long : length l.out ≡ length l.fn.out;
  whole : laid_at l.out l.at l.i (digits 256 l.i l.rest) ≡ laid_at l.fn.out l.at l.w (digits 256 l.w l.x);
}
