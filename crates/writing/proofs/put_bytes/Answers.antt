-- The digits come lowest first: what is left to write, put before those already written, is the whole.
-- Assumes what the contract requires, and nothing else.
use Rattle.std.proofs.Common.{◌≡◌, suc, ◌-◌, arith, sym, ◌∙◌}
use lib.ListN.{length-set}
use Rattle.groups.specs.Numbers.{digits}
use Rattle.writing.proofs.Laid.{laid_none, digit-laid}
use Rattle.writing.proofs.put_bytes.Goals as goal

pub loop-i-preserved : goal.loop-i-preserved
loop-i-preserved c =
    let l = c.loop-i in
    let a = c.args in
    let e : suc (l.i - 1) ≡ l.i = omega arith in
    record {
      long = simp length-set l.invariant.long;
      whole = rw e at (digit-laid l.out a.at (l.i - 1) l.rest (omega arith)) ∙ l.invariant.whole;
    }

pub returns : goal.returns
unfolding digits
returns c =
    let l = c.loop-i in
    let e : l.i ≡ 0 = omega arith in
    sym (laid_none l.out c.args.at) ∙ rw e at l.invariant.whole
