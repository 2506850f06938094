-- The length that is tested is that of the text, which is printed part after part.
-- Assumes nothing.
use Rattle.std.proofs.Common.{◌≡◌, ℕ, ◌+◌, Bool, true, List, ◌++◌, length, get_or, drop, arith, sym, ap, ◌∙◌}
use lib.ListN.{length-append}
use Rattle.std.specs.Int.{div_ceil}
use Rattle.groups.specs.Layout.{groups_of, Digits}
use Rattle.groups.specs.Write.{well_formed, digits_to}
use Rattle.groups.proofs.Accept.{well-digits}
use Rattle.groups.proofs.Base.{well-below}
use Rattle.groups.proofs.Places.{ceil-nine}
use Rattle.groups.proofs.Room.{short, fits}
use Rattle.groups.proofs.Sign.{formed-groups}
use Rattle.printing.specs.Print.{sign_text, text_of}
use Rattle.printing.specs.Course.{whole_text, whole_length, point_text, fraction_length, Significant}
use Rattle.printing.proofs.Pieces.{text-is, whole-count, point-count, three-parts}
use Rattle.printing.proofs.print_well.Goals as goal

pub significant-w-requires : goal.significant-w-requires
significant-w-requires c = let d = c.args.d in well-below _ _ _ d.nine (formed-groups _ _ _ _ d.well) 0

pub whole_len-requires : goal.whole_len-requires
whole_len-requires c =
    let h = well-digits _ _ _ (formed-groups _ _ _ _ c.args.d.well) in
    (omega arith, c.significant-w.ensures.0.1)

pub text_len-size-requires : goal.text_len-size-requires
text_len-size-requires c =
    let h = well-digits _ _ _ (formed-groups _ _ _ _ c.args.d.well) in
    (omega arith, omega arith)

-- how long the text is
counted : (neg : Bool) (i f : ℕ) (gs : List ℕ) (w n whole size : ℕ) → well_formed neg i f gs ≡ true → Significant w (get_or gs 0 0) → n ≡ div_ceil i 9
    → whole ≡ whole_length n w → size ≡ length (sign_text neg) + (whole + fraction_length f) → length (text_of neg i f (digits_to Digits i f gs 9)) ≡ size
counted neg i f gs w n whole size v s e a b =
    let W = whole_text (groups_of i) w gs in
    let F = point_text (groups_of i) f gs in
    let t = ap length (text-is neg i f gs w (formed-groups neg i f gs v) s) ∙ length-append (sign_text neg) (W ++ F) in
    let m = length-append W F in
    let p = whole-count (groups_of i) w gs in
    let q = point-count (groups_of i) f gs in
    let x : whole ≡ whole_length (groups_of i) w = rw (e, ceil-nine i) at a in
    omega arith

pub returns-then-out-size-clause-result_value : goal.returns-then-out-size-clause-result_value
returns-then-out-size-clause-result_value c =
    let d = c.args.d in
    let n = counted _ _ _ _ _ _ _ _ d.well c.significant-w.ensures c.div_ceil-n.ensures c.whole_len.ensures.0 c.text_len-size.ensures in
    sym (short _ c.args.out.now n c.if-out-size.true).0

pub returns-then-out-size-clause-out_after : goal.returns-then-out-size-clause-out_after
returns-then-out-size-clause-out_after c =
    let d = c.args.d in
    let n = counted _ _ _ _ _ _ _ _ d.well c.significant-w.ensures c.div_ceil-n.ensures c.whole_len.ensures.0 c.text_len-size.ensures in
    sym (short _ c.args.out.now n c.if-out-size.true).1

pub put_whole-b-requires-clause-n_bound : goal.put_whole-b-requires-clause-n_bound
put_whole-b-requires-clause-n_bound c =
    let h = well-digits _ _ _ (formed-groups _ _ _ _ c.args.d.well) in
    omega arith

pub put_fraction-requires-clause-frac_bound : goal.put_fraction-requires-clause-frac_bound
put_fraction-requires-clause-frac_bound c =
    let h = well-digits _ _ _ (formed-groups _ _ _ _ c.args.d.well) in
    (omega arith, omega arith)

pub returns-clause-result_value : goal.returns-clause-result_value
returns-clause-result_value c =
    let p = c.args.d.parts.now in
    let gs = p.groups in
    let n = counted _ _ _ _ _ _ _ _ c.args.d.well c.significant-w.ensures c.div_ceil-n.ensures c.whole_len.ensures.0 c.text_len-size.ensures in
    let e : length (text_of p.negative p.intg p.frac (digits_to Digits p.intg p.frac gs 9)) ≡ c.put_fraction.result = n ∙ omega arith in
    sym (fits _ c.args.out.now e (omega arith)).0

pub returns-clause-out_after : goal.returns-clause-out_after
returns-clause-out_after c =
    let p = c.args.d.parts.now in
    let gs = p.groups in
    let i = groups_of p.intg in
    let g = c.div_ceil-n.ensures ∙ ceil-nine p.intg in
    let w = whole-count i c.significant-w.result gs in
    let q = point-count i p.frac gs in
    let S = sign_text p.negative in
    let W = whole_text i c.significant-w.result gs in
    let F = point_text i p.frac gs in
    let t =
    three-parts S W F c.args.out.now c.put_sign-a.ensures.value.0 c.put_sign-a.ensures.out_after
    (rw g at c.put_whole-b.ensures.value ∙ ap (λ (n : ℕ). c.put_sign-a.result + n) (sym w)) (rw g at c.put_whole-b.ensures.out_after)
    (c.put_fraction.ensures.value ∙ ap (λ (n : ℕ). c.put_whole-b.result + n) (sym q)) (rw g at c.put_fraction.ensures.out_after) in
    let x = text-is p.negative p.intg p.frac gs c.significant-w.result (formed-groups _ _ _ _ c.args.d.well) c.significant-w.ensures in
    let n = counted _ _ _ _ _ _ _ _ c.args.d.well c.significant-w.ensures c.div_ceil-n.ensures c.whole_len.ensures.0 c.text_len-size.ensures in
    let e : length (text_of p.negative p.intg p.frac (digits_to Digits p.intg p.frac gs 9)) ≡ c.put_fraction.result = ap length x ∙ sym t.0 in
    let r = fits (text_of p.negative p.intg p.frac (digits_to Digits p.intg p.frac gs 9)) c.args.out.now e (omega arith) in
    t.1 ∙ ap (λ (X : List ℕ). X ++ drop c.put_fraction.result c.args.out.now) (sym x) ∙ sym r.1
