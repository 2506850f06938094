-- The answer's room is tested first; else what is written stands in the lent slice, and the count is put. Where there is no decimal, it is 26, as of any record that is none.
-- Assumes nothing.
use mathlib.Core.Path.{◌≡◌, refl}
use Rattle.surface.specs.Decimals.{printed_leaves}
use Rattle.lent.proofs.Puts.{too_short, same-told, as_it_was}
use Rattle.surface.proofs.Twelve.{printed-told, printed-left}
use Rattle.relay.proofs.bratthelm_decimal_print.Goals as goal

pub returns-then-answer-lt1-clause-relays : goal.returns-then-answer-lt1-clause-relays
returns-then-answer-lt1-clause-relays c =
    let n : c.from.result ≡ 25 = cc (c.from.ensures, c.number.ensures) in
    rw n (too_short 1 _ c.if-answer-lt1.true)

pub returns-then-answer-lt1-clause-text_after : goal.returns-then-answer-lt1-clause-text_after
unfolding printed_leaves
returns-then-answer-lt1-clause-text_after c = as_it_was 1 _ _ _ c.if-answer-lt1.true refl

pub returns-clause-relays : goal.returns-clause-relays
returns-clause-relays c =
    let a = c.args in
    same-told (printed-told a.decimal.now a.text.now c.decimal_in.ensures c.print.result c.print.ensures.result_value) c.put_counted.ensures

pub returns-clause-text_after : goal.returns-clause-text_after
returns-clause-text_after c =
    let a = c.args in
    printed-left a.decimal.now a.text.now c.decimal_in.ensures a.answer.now c.if-answer-lt1.false c.print.ensures.out_after
