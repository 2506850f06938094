-- The order of the two decimals is put; where either is none, it is 26, as of any record that is no decimal.
-- Assumes nothing.
use Rattle.lent.proofs.Puts.{same-told}
use Rattle.surface.proofs.Twelve.{order-told}
use Rattle.relay.proofs.bratthelm_decimal_compare.Goals as goal

pub returns : goal.returns
returns c =
    let a = c.args in
    same-told (order-told a.left.now a.right.now c.decimal_in.ensures c.decimal_in-2.ensures c.compare.ensures) c.put_compared.ensures
