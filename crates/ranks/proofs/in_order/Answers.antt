-- `ranks::in_order` meets its contract: where the first pair is not in order nothing more is asked, and else the second decides, by the law `carries`.
-- Assumes nothing.
use Rattle.std.proofs.Common.{◌≡◌, true, false, sym, ◌∙◌}
use Rattle.order_laws.specs.Order.{is_le}
use Rattle.ranks.proofs.Order.{out_of_order, in_order_lem}
use Rattle.ranks.proofs.in_order.Goals as goal

-- `rt check --allow-holes` prints a goal with the names that its proof can cite where a `?` stands for that proof. What a call gave is its `.ensures`, and
-- which way a test went its `.true` or `.false`.
pub returns-then-is_le : goal.returns-then-is_le
returns-then-is_le c =
    let a = c.args in
    let e : is_le c.compare.result ≡ true = sym c.is_le.ensures ∙ c.if-is_le.true in
    c.is_le-then-is_le.ensures ∙ sym (in_order_lem a.low a.middle a.high _ c.compare.ensures _ c.compare-then-is_le.ensures e)

pub returns-else-is_le : goal.returns-else-is_le
returns-else-is_le c =
    let a = c.args in
    let e : is_le c.compare.result ≡ false = sym c.is_le.ensures ∙ c.if-is_le.false in
    c.if-is_le.false ∙ sym (out_of_order a.low a.middle a.high _ c.compare.ensures e)
