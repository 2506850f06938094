-- What is counted are the bytes that stand before the first that is looked for; past the end there are none.
-- Assumes nothing.
use Rattle.std.proofs.Common.{ℕ, ◌≡◌, ◌+◌, ◌<◌, ◌∙◌, ap, sym, length, drop, arith}
use Rattle.std.proofs.lemmas.Grind.{common_steps}
use Rattle.request.proofs.Scan.{before_prefix, before_end}
use Rattle.request.proofs.find.Goals as goal

pub returns-in-Some : goal.returns-in-Some
returns-in-Some c =
    let rest = drop c.args.from c.args.text.now in
    let e : c.in-Some.rest.now ≡ rest = grind (arith, common_steps) in
    ap (λ (n : ℕ). c.args.from + n) (rw e at c.before-in-Some.ensures.value ∙ sym (before_prefix c.args.byte rest))

pub returns-in-None : goal.returns-in-None
returns-in-None c =
    let h : length c.args.text.now < c.args.from = grind (arith, common_steps) in
    omega (arith, before_end c.args.byte c.args.text.now c.args.from h)
