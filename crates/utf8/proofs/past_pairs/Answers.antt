-- Blocks begin where a character does, and the byte at the place that they reach tells whether one ends before it or with it.
-- Assumes nothing.
use Rattle.std.proofs.Common.{arith}
use Rattle.utf8.proofs.Pairs.{half, full}
use Rattle.utf8.proofs.past_pairs.Goals as goal

pub returns-then-is_tail-2 : goal.returns-then-is_tail-2
returns-then-is_tail-2 c = half (omega arith) c.is_tail.ensures c.if-is_tail.false c.pairs_end-j.ensures c.is_tail-2.ensures c.if-is_tail-2.true

pub returns : goal.returns
returns c = full (omega arith) c.is_tail.ensures c.if-is_tail.false c.pairs_end-j.ensures c.is_tail-2.ensures c.if-is_tail-2.false
