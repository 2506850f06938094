-- The groups passed are written, and the rest is as it was.
-- Assumes what the contract requires, and nothing else.
use Rattle.std.proofs.Common.{get_or, arith, ◌∙◌, refl}
use Rattle.writing.specs.Course.{shade}
use Rattle.writing.proofs.Laid.{run-start, run-next}
use Rattle.writing.proofs.put_fours.Goals as goal

pub loop-k-init : goal.loop-k-init
loop-k-init c =
    let a = c.args in
    record { from = omega arith; to = omega arith; place = omega arith; long = refl; laid = run-start a.out.now a.at 256 4 (λ j. shade a.inverted (get_or a.groups.now j 0)) a.from }

pub loop-k-preserved : goal.loop-k-preserved
loop-k-preserved c =
    let a = c.args in
    let l = c.loop-k in
    let i = l.invariant in
    record {
      from = omega arith;
      to = omega arith;
      place = omega arith;
      long = c.put_bytes.auto.out ∙ i.long;
      laid = c.put_bytes.ensures ∙ rw (i.laid, i.place, c.shaded_number.ensures) (run-next a.out.now a.at 256 4 (λ j. shade a.inverted (get_or a.groups.now j 0)) a.from l.k i.from (omega arith));
    }
