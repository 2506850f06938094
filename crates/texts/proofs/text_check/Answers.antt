-- The bytes that are handed over are the part's, and none of them is past the document.
-- Assumes nothing.
use Rattle.std.proofs.Common.{◌+◌, ◌-◌, arith}
use Rattle.texts.proofs.Parts.{outside, inside, near, length_taken}
use Rattle.texts.proofs.text_check.Goals as goal

pub returns-then-doc-end : goal.returns-then-doc-end
returns-then-doc-end c = outside c.args.doc.now c.args.s c.if-doc-end.true

pub returns-in-Ok : goal.returns-in-Ok
returns-in-Ok c = inside c.args.doc.now c.args.s c.if-doc-end.false c.in-Ok.ensures.value

pub returns-in-Err : goal.returns-in-Err
returns-in-Err c = inside c.args.doc.now c.args.s c.if-doc-end.false c.in-Err.ensures.value

pub overflow_add-result : goal.overflow_add-result
overflow_add-result c =
    let h = near _ c.in-Err.e c.in-Err.is c.utf8_check.ensures.tells in
    omega (arith, h, length_taken (c.args.s.start + c.args.s.len - c.args.s.start) c.args.s.start c.args.doc.now)
