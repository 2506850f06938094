-- The range is tested first, and then the sum over the groups is that over the sides.
-- Assumes nothing.
use Rattle.std.proofs.Common.{◌≡◌, ℕ, true, [], ◌∷◌, sym, ◌∙◌, ap, arith}
use Rattle.refusal.specs.Told.{answer}
use Rattle.groups.specs.Read.{in_range}
use Rattle.groups.specs.Write.{size_of}
use Rattle.groups.specs.declared.layout.Sides.{Sides}
use Rattle.groups.proofs.Accept.{in-range}
use Rattle.groups.proofs.Sizes.{packed-sides}
use Rattle.groups.proofs.layout.size.Goals as goal

pub overflow_sub-precision : goal.overflow_sub-precision
overflow_sub-precision c = (in-range _ _ (sym c.if-not-accepted.ensures)).1.1

pub returns : goal.returns
unfolding size_of
returns c =
    let e : in_range c.args.precision c.args.scale ≡ true = sym c.if-not-accepted.ensures in
    let h = in-range _ _ e in
    ap (λ (n : ℕ). answer (n ∷ [])) (ap (λ (s : Sides). s.size) c.sides_of.ensures ∙ sym (packed-sides _ _ (omega arith))) ∙ sym (simp e)
