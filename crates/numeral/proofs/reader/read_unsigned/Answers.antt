-- The answer, by the numbers of digits.
-- Assumes nothing.
use Rattle.std.proofs.Common.{◌≡◌, ℕ, take, drop, rules, arith, sym, ap, ◌∙◌, refl}
use Rattle.refusal.specs.declared.Refusal.TheVariants as refusal
use Rattle.numeral.specs.Read.{run}
use Rattle.numeral.proofs.Scans.{run-digits, pointed-digits}
use Rattle.numeral.proofs.Parts.{read-other, read_none, read-many, read_some, some-of, none-of}
use Rattle.numeral.proofs.reader.read_unsigned.Goals as goal

pub returns-in_err-fraction : goal.returns-in_err-fraction
returns-in_err-fraction c =
    let t = c.args.text.now in
    let b : c.split_at.result.1.now ≡ drop (run t) t = c.split_at.ensures.back ∙ ap (λ (n : ℕ). drop n t) c.digit_run.ensures.0 in
    let n = none-of c.fraction_of.result refusal.Text _ (sym c.ok_or.ensures.value ∙ c.in_err-fraction.was) in
    let f = rw n.0 at c.fraction_of.ensures in
    let e = read-other c.args.negative t (rw b at f) in
    rw e (search rules)

pub returns-then-digits-eq0 : goal.returns-then-digits-eq0
returns-then-digits-eq0 c =
    let t = c.args.text.now in
    let b : c.split_at.result.1.now ≡ drop (run t) t = c.split_at.ensures.back ∙ ap (λ (n : ℕ). drop n t) c.digit_run.ensures.0 in
    let f = rw (some-of c.fraction_of.result refusal.Text _ (sym c.ok_or.ensures.value ∙ c.in_ok-fraction.was)) at c.fraction_of.ensures in
    let w = c.split_at.ensures.front ∙ ap (λ (n : ℕ). take n t) c.digit_run.ensures.0 in
    rw (read_none c.args.negative t c.split_at.result.0.now c.in_ok-fraction.fraction.now w (rw b at f.1) (rw b at f.0) c.if-digits-eq0.true) refl

pub returns-then-digits-gt65 : goal.returns-then-digits-gt65
returns-then-digits-gt65 c =
    let t = c.args.text.now in
    let b : c.split_at.result.1.now ≡ drop (run t) t = c.split_at.ensures.back ∙ ap (λ (n : ℕ). drop n t) c.digit_run.ensures.0 in
    let f = rw (some-of c.fraction_of.result refusal.Text _ (sym c.ok_or.ensures.value ∙ c.in_ok-fraction.was)) at c.fraction_of.ensures in
    let w = c.split_at.ensures.front ∙ ap (λ (n : ℕ). take n t) c.digit_run.ensures.0 in
    rw (read-many c.args.negative t c.split_at.result.0.now c.in_ok-fraction.fraction.now w (rw b at f.1) (rw b at f.0) c.if-digits-eq0.false c.then-digits-gt65.either) refl

pub groups_in-requires-clause-digits : goal.groups_in-requires-clause-digits
groups_in-requires-clause-digits c =
    let t = c.args.text.now in
    let b : c.split_at.result.1.now ≡ drop (run t) t = c.split_at.ensures.back ∙ ap (λ (n : ℕ). drop n t) c.digit_run.ensures.0 in
    let f = rw (some-of c.fraction_of.result refusal.Text _ (sym c.ok_or.ensures.value ∙ c.in_ok-fraction.was)) at c.fraction_of.ensures in
    let w = c.split_at.ensures.front ∙ ap (λ (n : ℕ). take n t) c.digit_run.ensures.0 in
    (rw w (run-digits t), rw f.1 (pointed-digits c.split_at.result.1.now f.0))

pub returns : goal.returns
returns c =
    let t = c.args.text.now in
    let b : c.split_at.result.1.now ≡ drop (run t) t = c.split_at.ensures.back ∙ ap (λ (n : ℕ). drop n t) c.digit_run.ensures.0 in
    let f = rw (some-of c.fraction_of.result refusal.Text _ (sym c.ok_or.ensures.value ∙ c.in_ok-fraction.was)) at c.fraction_of.ensures in
    let w = c.split_at.ensures.front ∙ ap (λ (n : ℕ). take n t) c.digit_run.ensures.0 in
    rw c.groups_in.ensures (sym (read_some c.args.negative t c.split_at.result.0.now c.in_ok-fraction.fraction.now w (rw b at f.1) (rw b at f.0) c.if-digits-eq0.false (omega arith) (omega arith)))
