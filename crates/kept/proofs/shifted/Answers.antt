-- A place more holds its group, and nine are all.
-- Assumes what the contract requires, and nothing else.
use Rattle.std.proofs.Common.{◌≡◌, ◌+◌, get_or, rules, arith}
use Rattle.groups.proofs.Tab.{fill_more, filled}
use lib.ListN.{length-set}
use Rattle.kept.proofs.shifted.Goals as goal

pub loop-k-preserved : goal.loop-k-preserved
loop-k-preserved c =
    let l = c.loop-k in
    let e : c.unwrap_or.result ≡ get_or c.args.groups.now (l.k + c.args.z) 0 = search rules in
    record {
      long = simp length-set l.invariant.long;
      passed = fill_more (λ j. get_or c.args.groups.now (j + c.args.z) 0) l.out l.k c.unwrap_or.result (omega arith) l.invariant.passed e;
    }

pub returns : goal.returns
returns c =
    let l = c.loop-k in
    let e : l.k ≡ 9 = omega arith in
    filled 9 (λ j. get_or c.args.groups.now (j + c.args.z) 0) l.out l.invariant.long (rw e at l.invariant.passed)
