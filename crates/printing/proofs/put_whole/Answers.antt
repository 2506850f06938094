-- Without integral groups a 0 is put; otherwise the first group in its own width, and then the others.
-- Assumes what the contract requires, and nothing else.
use Rattle.std.proofs.Common.{◌-◌, ◌*◌, map, get_or, arith, ◌∙◌, refl}
use lib.ListN.{length-map}
use Rattle.groups.specs.Numbers.{digits}
use Rattle.groups.proofs.Radix.{length_digits}
use Rattle.printing.specs.Print.{show}
use Rattle.printing.specs.Course.{nines, whole_text}
use Rattle.printing.proofs.Pieces.{two-parts, no_whole, some-whole, put-one}
use Rattle.printing.proofs.put_whole.Goals as goal

pub bounds-out-at : goal.bounds-out-at
bounds-out-at c = let n = (no_whole c.args.n c.args.w c.args.groups.now c.if-n-eq0.true).1 in omega arith

pub returns-then-n-eq0-clause-value : goal.returns-then-n-eq0-clause-value
returns-then-n-eq0-clause-value c =
    let a = c.args in
    rw (no_whole a.n a.w a.groups.now c.if-n-eq0.true).1 refl

pub returns-then-n-eq0-clause-out_after : goal.returns-then-n-eq0-clause-out_after
returns-then-n-eq0-clause-out_after c =
    let a = c.args in
    let n = no_whole a.n a.w a.groups.now c.if-n-eq0.true in
    let h = n.1 in
    rw n.0 (put-one a.out.now a.at 48 (omega arith))

pub put_group-requires : goal.put_group-requires
put_group-requires c = let n = (some-whole c.args.n c.args.w c.args.groups.now c.if-n-eq0.false).1 in omega arith

pub overflow_add-at : goal.overflow_add-at
overflow_add-at c = let n = (some-whole c.args.n c.args.w c.args.groups.now c.if-n-eq0.false).1 in omega arith

pub put_nines-requires-clause-from_in_bounds : goal.put_nines-requires-clause-from_in_bounds
put_nines-requires-clause-from_in_bounds c = let n = (some-whole c.args.n c.args.w c.args.groups.now c.if-n-eq0.false).1 in omega arith

pub returns-clause-value : goal.returns-clause-value
returns-clause-value c = let n = (some-whole c.args.n c.args.w c.args.groups.now c.if-n-eq0.false).1 in omega arith

pub returns-clause-out_after : goal.returns-clause-out_after
returns-clause-out_after c =
    let a = c.args in
    let gs = a.groups.now in
    let n = some-whole a.n a.w gs c.if-n-eq0.false in
    let k = n.1 in
    let A = digits 10 a.w (get_or gs 0 0) in
    two-parts (map show A) (map show (nines gs 1 (a.n - 1))) (whole_text a.n a.w gs) a.out.now a.at (9 * (a.n - 1))
    (length-map A show ∙ length_digits 10 a.w (get_or gs 0 0)) (omega arith) n.0 refl c.put_nines.ensures.value c.put_group.ensures c.put_nines.ensures.out_after
