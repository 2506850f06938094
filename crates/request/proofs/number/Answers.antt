-- The digits passed and those from there on write the same number as all; it is none at any other character, and once it is too large.
-- Assumes nothing.
use Rattle.std.proofs.Common.{◌≡◌, ◌+◌, ◌-◌, ◌*◌, ◌<◌, ◌∙◌, sym, get_or, drop, length, arith}
use Rattle.std.proofs.lemmas.Grind.{common_steps}
use Rattle.request.proofs.Value.{none-empty, some-digits, too_large, number-end, number_more, number_other}
use Rattle.request.proofs.number.Goals as goal

pub returns-then-is_empty : goal.returns-then-is_empty
returns-then-is_empty c =
    let h : length c.args.text.now ≡ 0 = grind (arith, common_steps) in
    sym (none-empty c.args.text.now h)

pub loop-b-init : goal.loop-b-init
loop-b-init c =
    let h : 0 < length c.args.text.now = grind (arith, common_steps) in
    record { small = omega arith; value = some-digits c.args.text.now (λ e. omega arith) }

pub returns-then-not-is_ascii_digit : goal.returns-then-not-is_ascii_digit
returns-then-not-is_ascii_digit c =
    let t = c.args.text.now in
    let l = c.loop-b in
    sym (l.invariant.value ∙ number_other t l.b-index l.n c.loop-b-test.true (sym c.if-not-is_ascii_digit.ensures.value))

pub returns-in_err-checked_mul : goal.returns-in_err-checked_mul
returns-in_err-checked_mul c =
    let t = c.args.text.now in
    let l = c.loop-b in
    let more = number_more t l.b-index l.n c.loop-b-test.true (sym c.if-not-is_ascii_digit.ensures.value) in
    c.from_residual.ensures ∙ sym (l.invariant.value ∙ more ∙ too_large _ (drop (l.b-index + 1) t) (omega (arith, c.in_err-checked_mul.ensures)))

pub returns-in_err-n : goal.returns-in_err-n
returns-in_err-n c =
    let t = c.args.text.now in
    let l = c.loop-b in
    let more = number_more t l.b-index l.n c.loop-b-test.true (sym c.if-not-is_ascii_digit.ensures.value) in
    let v = 10 * l.n + (get_or t l.b-index 0 - 48) in
    let m = c.in_ok-checked_mul.ensures in
    let d = c.in_err-n.ensures in
    c.from_residual-in_err-n.ensures ∙ sym (l.invariant.value ∙ more ∙ too_large v (drop (l.b-index + 1) t) (omega (arith, m.1, c.from.ensures, d)))

pub loop-b-preserved : goal.loop-b-preserved
loop-b-preserved c =
    let t = c.args.text.now in
    let l = c.loop-b in
    let more = number_more t l.b-index l.n c.loop-b-test.true (sym c.if-not-is_ascii_digit.ensures.value) in
    let m = c.in_ok-checked_mul.ensures in
    let d = c.in_ok-n.ensures in
    let e : c.in_ok-n.n ≡ 10 * l.n + (get_or t l.b-index 0 - 48) = omega (arith, m.1, c.from.ensures, d.1) in
    record { small = omega (arith, d.1); value = rw e (l.invariant.value ∙ more) }

pub returns : goal.returns
returns c =
    let l = c.loop-b in
    sym (l.invariant.value ∙ number-end c.args.text.now l.b-index l.n (omega arith) l.invariant.small)
