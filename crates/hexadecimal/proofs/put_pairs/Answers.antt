-- Each pair is two digits, so its byte fits; the bytes written so far and the next are those of one pair more.
-- Assumes what the contract requires, and nothing else.
use Rattle.std.proofs.Common.{ℕ, List, ◌≡◌, ◌+◌, ◌*◌, ◌++◌, ◌∙◌, sym, ap, get_or, set, drop, length, arith}
use Rattle.std.proofs.Math.Seq.{paste}
use Rattle.std.proofs.lemmas.List.Edits.{paste_more, paste_all}
use Rattle.hexadecimal.specs.Hex.{pairs}
use Rattle.hexadecimal.proofs.Pairs.{half, pair_at}
use Rattle.hexadecimal.proofs.put_pairs.Goals as goal

pub digit-requires : goal.digit-requires
digit-requires c =
    let h = half c.args.text.now c.requires.text_value in
    (pair_at c.args.text.now c.loop-k.k c.requires.text_value (omega arith)).first

pub overflow_mul-out : goal.overflow_mul-out
overflow_mul-out c =
    let h = half c.args.text.now c.requires.text_value in
    let p = pair_at c.args.text.now c.loop-k.k c.requires.text_value (omega arith) in
    omega (arith, p.first, c.digit.ensures)

pub digit-requires-in-loop-k : goal.digit-requires-in-loop-k
digit-requires-in-loop-k c =
    let h = half c.args.text.now c.requires.text_value in
    (pair_at c.args.text.now c.loop-k.k c.requires.text_value (omega arith)).second

pub overflow_add-out : goal.overflow_add-out
overflow_add-out c =
    let h = half c.args.text.now c.requires.text_value in
    let p = pair_at c.args.text.now c.loop-k.k c.requires.text_value (omega arith) in
    omega (arith, p.first, p.second, c.digit.ensures, c.digit-in-loop-k.ensures)

pub bounds-out-k : goal.bounds-out-k
bounds-out-k c = omega (arith, half c.args.text.now c.requires.text_value)

pub loop-k-preserved : goal.loop-k-preserved
loop-k-preserved c =
    let t = c.args.text.now in
    let k = c.loop-k.k in
    let h = half t c.requires.text_value in
    let p = pair_at t k c.requires.text_value (omega arith) in
    let e : 16 * c.digit.result + c.digit-in-loop-k.result ≡ get_or (pairs t) k 0 = omega (arith, p.byte, c.digit.ensures, c.digit-in-loop-k.ensures) in
    let m = paste_more c.args.out.now 0 (pairs t) k 0 (omega arith) (omega arith) in
    let z : 0 + k ≡ k = omega arith in
    ap (λ (o : List ℕ). set o k (16 * c.digit.result + c.digit-in-loop-k.result)) c.loop-k.invariant
    ∙ ap (set (paste c.args.out.now 0 (pairs t) k) k) e
    ∙ ap (λ (i : ℕ). set (paste c.args.out.now 0 (pairs t) k) i (get_or (pairs t) k 0)) (sym z)
    ∙ m

pub returns : goal.returns
returns c =
    let t = c.args.text.now in
    let n : c.loop-k.k ≡ length (pairs t) = omega (arith, half t c.requires.text_value) in
    let z : 0 + c.loop-k.k ≡ length (pairs t) = omega arith in
    c.loop-k.invariant ∙ paste_all c.args.out.now 0 (pairs t) c.loop-k.k n ∙ ap (λ (i : ℕ). pairs t ++ drop i c.args.out.now) z
