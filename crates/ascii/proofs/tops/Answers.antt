-- The top bits are clear up to the first byte that is not ASCII.
-- Assumes nothing.
use Rattle.std.proofs.Common.{ap, ◌≡◌, ◌∙◌, ◌+◌, ◌/◌, ℕ, take, drop, bit_and, arith, rules, ◌==◌}
use Rattle.std.specs.Int.{w64, trailing_zeros}
use Rattle.raw.specs.Numbers.{value}
use Rattle.raw.proofs.Bounds.{first_eight}
use Rattle.ascii.proofs.Words.{tops-clear, tops-first}
use Rattle.ascii.proofs.tops.Goals as goal

pub returns-clause-clear : goal.returns-clause-clear
returns-clause-clear g c =
    let e : c.number_of.result ≡ value (take g.row.N (drop c.args.at c.args.s.now)) =
    search (rules, first_eight g.row.N (drop c.args.at c.args.s.now) (omega arith)) in
    ap (λ (x : ℕ). bit_and x 9259542123273814144 == 0) e
    ∙ tops-clear g.row.N c.args.s.now c.args.at (λ k. (c.type_inv.s k).fits) (omega arith) (omega arith)

pub returns-clause-first : goal.returns-clause-first
returns-clause-first g c e =
    let f : c.number_of.result ≡ value (take g.row.N (drop c.args.at c.args.s.now)) =
    search (rules, first_eight g.row.N (drop c.args.at c.args.s.now) (omega arith)) in
    let v = rw e at f in
    ap (λ (x : ℕ). c.args.at + trailing_zeros w64 (bit_and x 9259542123273814144) / 8) v
    ∙ tops-first c.args.s.now c.args.at (λ k. (c.type_inv.s k).fits) (omega arith)
