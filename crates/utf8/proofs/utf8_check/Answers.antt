-- What is passed leaves the machine's verdict as it is, and the answer that says the same is the one that tells.
-- Assumes nothing.
use Rattle.std.proofs.Common.{◌≡◌, ap, sym, ◌∙◌, arith}
use Rattle.std.proofs.lemmas.Grind.{common_steps}
use Rattle.utf8.specs.Answer.{answer, checked}
use Rattle.utf8.proofs.Steps.{out}
use Rattle.utf8.proofs.Answers.{told}
use Rattle.utf8.proofs.utf8_check.Goals as goal

pub returns-in_err-i-clause-tells : goal.returns-in_err-i-clause-tells
returns-in_err-i-clause-tells c =
    let v : c.from_residual.result ≡ checked c.args.s.now = grind (arith, common_steps) in
    told _ v

pub returns-in_err-i-2-clause-tells : goal.returns-in_err-i-2-clause-tells
returns-in_err-i-2-clause-tells c =
    let v : c.from_residual-in_err-i-2.result ≡ checked c.args.s.now = grind (arith, common_steps) in
    told _ v

pub returns : goal.returns
returns c =
    let v = ap answer (sym (c.loop-i.invariant.same ∙ out _ _ _ c.loop-i-test.false)) in
    record { value = v; tells = told _ v }
