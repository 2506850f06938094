-- The digits come lowest first: what is left to print, put before those already printed, is the whole.
-- Assumes what the contract requires, and nothing else.
use Rattle.std.proofs.Common.{◌≡◌, suc, ◌-◌, arith, sym, ◌∙◌}
use native.Mathlib.Nat.{add-zero}
use lib.ListN.{length-set, take-append-drop}
use Rattle.groups.specs.Numbers.{digits}
use Rattle.printing.proofs.Pieces.{put-shown}
use Rattle.printing.proofs.put_group.Goals as goal

pub loop-i-preserved : goal.loop-i-preserved
loop-i-preserved c =
    let l = c.loop-i in
    let a = c.args in
    let e : suc (l.i - 1) ≡ l.i = omega arith in
    record {
      long = simp length-set l.invariant.long;
      whole = rw c.last_shown.ensures (rw e at (put-shown l.out a.at (l.i - 1) l.rest (omega arith)) ∙ l.invariant.whole);
    }

pub returns : goal.returns
unfolding digits
returns c =
    let l = c.loop-i in
    let a = c.args in
    let e : l.i ≡ 0 = omega arith in
    sym (take-append-drop a.at l.out) ∙ rw (e, add-zero) at l.invariant.whole
