-- The decimal that is read is put; as every decimal that is answered is well formed, its numbers are told whole.
-- Assumes nothing.
use Rattle.decimal_laws.proofs.Formed.{parse-formed}
use Rattle.lent.proofs.Puts.{same-told}
use Rattle.surface.proofs.Twelve.{answer-told}
use Rattle.relay.proofs.bratthelm_decimal_parse.Goals as goal

pub returns : goal.returns
returns c = same-told (answer-told c.parse_str_bytes.ensures (parse-formed c.args.text.now)) c.put_answer.ensures
