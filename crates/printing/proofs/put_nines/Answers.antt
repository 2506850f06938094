-- After each turn the groups passed are printed, and the rest is as it was.
-- Assumes what the contract requires, and nothing else.
use Rattle.std.proofs.Common.{◌≡◌, ◌-◌, arith, sym, ◌∙◌, refl}
use lib.ListN.{take-append-drop}
use Rattle.printing.specs.Course.{nines}
use Rattle.printing.proofs.Pieces.{nines-more}
use Rattle.printing.proofs.put_nines.Goals as goal

pub loop-k-init : goal.loop-k-init
unfolding nines
loop-k-init c =
    let a = c.args in
    let e : a.from - a.from ≡ 0 = omega arith in
    record { from = omega arith; to = omega arith; place = omega arith; long = refl; printed = rw e (sym (take-append-drop a.at a.out.now)) }

pub loop-k-preserved : goal.loop-k-preserved
loop-k-preserved c =
    let a = c.args in
    let l = c.loop-k in
    let i = l.invariant in
    record {
      from = omega arith;
      to = omega arith;
      place = omega arith;
      long = c.put_group.auto.out ∙ i.long;
      printed = nines-more a.groups.now a.out.now a.at a.from l.k i.from (omega arith) i.place i.printed c.put_group.ensures;
    }
