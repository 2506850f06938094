-- The size of a decimal's digits, before and after the point, is that of its precision and scale.
-- Assumes nothing.
use Rattle.std.proofs.Common.{◌≡◌, true, arith, sym, ◌∙◌}
use Rattle.groups.proofs.Accept.{well-digits}
use Rattle.groups.proofs.Opened.{well-size}
use Rattle.groups.proofs.Sign.{formed-groups}
use Rattle.decimal.specs.Write.{is_well, bin_size}
use Rattle.decimal.proofs.Decimal.bin_size.Goals as goal

pub overflow_add-d : goal.overflow_add-d
overflow_add-d c =
    let h = well-digits _ _ _ (formed-groups _ _ _ _ c.in_ok-d.d.well) in
    omega arith

pub returns : goal.returns
unfolding bin_size
returns c =
    let d = c.args.self in
    let f = c.from-parts.ensures in
    let v : is_well d ≡ true = rw f at c.in_ok-d.ensures.1 in
    rw (c.in_ok-d.ensures.0, f) at c.size.ensures ∙ well-size d.intg d.frac d.groups (formed-groups _ _ _ _ v) ∙ sym (simp v)
