-- Every place passed is as it must be; the first that is not decides.
-- Assumes nothing.
use Rattle.std.proofs.Common.{arith, ◌≡◌, sym, get_or}
use borrow.Author.Tests.{lt-ltb, le-ltb, ne_eqb}
use Rattle.groups.specs.Course.{capped_at}
use Rattle.groups.proofs.Tab.{all_true, all-false}
use Rattle.formed.proofs.capped.Goals as goal

pub returns-then-g-ge1000000000 : goal.returns-then-g-ge1000000000
unfolding capped_at
returns-then-g-ge1000000000 c =
    let a = c.args in
    let k = c.loop-k.k in
    sym (all-false (λ k. capped_at a.t k (get_or a.groups.now k 0)) 9 k (omega arith)
    (simp (lt-ltb k a.t c.if-k-t.true, le-ltb _ _ c.if-g-ge1000000000.true)))

pub returns-then-g-ne0 : goal.returns-then-g-ne0
unfolding capped_at
returns-then-g-ne0 c =
    let a = c.args in
    let k = c.loop-k.k in
    sym (all-false (λ k. capped_at a.t k (get_or a.groups.now k 0)) 9 k (omega arith)
    (simp (le-ltb k a.t c.if-k-t.false, ne_eqb _ _ c.if-g-ne0.true)))

pub returns : goal.returns
returns c =
    let a = c.args in
    let l = c.loop-k in
    let e : l.k ≡ 9 = omega arith in
    sym (all_true (λ k. capped_at a.t k (get_or a.groups.now k 0)) 9 (λ j h. l.invariant j (rw e h)))
