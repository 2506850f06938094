-- The decimal that is read is put; as every decimal that is answered is well formed, its numbers are told whole.
-- Assumes nothing.
use Rattle.decimal_laws.proofs.Formed.{packed-formed}
use Rattle.lent.specs.Layout.{flag}
use Rattle.lent.proofs.Puts.{same-told}
use Rattle.surface.proofs.Twelve.{answer-told}
use Rattle.relay.proofs.bratthelm_decimal_read_packed.Goals as goal

pub returns : goal.returns
returns c =
    let a = c.args in
    same-told (answer-told c.read_packed.ensures (packed-formed a.bytes.now (flag a.keep) (λ k. (c.type_inv.bytes k).fits))) c.put_answer.ensures
