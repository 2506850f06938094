-- Where an entry's value stands, by the tests of the code.
-- Assumes nothing.
use Rattle.std.proofs.Common.{sym, ap, ◌∙◌, arith, ◌+◌, rules, length}
use Rattle.header.specs.Course.{Within}
use Rattle.sight.proofs.Entries.{past-end, in-entry, pointed-right}
use Rattle.sight.proofs.sight_at.Goals as goal

pub returns-in_err-new : goal.returns-in_err-new
returns-in_err-new c =
    let e = past-end c.args.doc.now c.args.large c.args.start c.args.size c.args.place c.offset_size.ensures.value c.saturating_add-next.ensures (omega arith) c.in_err-new.ensures.placed in
    rw (← e) (search rules)

pub returns-then-is_inlined : goal.returns-then-is_inlined
returns-then-is_inlined c =
    let q = c.in_ok-new.ensures.placed in
    let l = ap length q.0 in
    let w : Within (length c.args.doc.now) c.saturating_add-next.result (c.args.start + c.args.size) =
    record { order = omega (arith, c.in_ok-new.field-0.ordered, q.1, q.2); inside = omega (arith, c.in_ok-new.field-0.inside, l, q.2); short = omega (arith, c.in_ok-new.field-0.short, l) } in
    c.shown.ensures
    ∙ in-entry c.args.doc.now c.args.large c.args.start c.args.size c.args.place c.offset_size.ensures.value c.saturating_add-next.ensures (omega arith) w
    (sym c.try_from.ensures ∙ c.in_ok-t.was) (sym c.is_inlined.ensures ∙ c.if-is_inlined.true)

pub returns : goal.returns
returns c =
    let q = c.in_ok-new.ensures.placed in
    let l = ap length q.0 in
    let w : Within (length c.args.doc.now) c.saturating_add-next.result (c.args.start + c.args.size) =
    record { order = omega (arith, c.in_ok-new.field-0.ordered, q.1, q.2); inside = omega (arith, c.in_ok-new.field-0.inside, l, q.2); short = omega (arith, c.in_ok-new.field-0.short, l) } in
    c.shown-2.ensures
    ∙ pointed-right c.args.doc.now c.args.large c.args.start c.args.size c.args.place c.offset_size.ensures.value c.saturating_add-next.ensures (omega arith) w
    (sym c.try_from.ensures ∙ c.in_ok-t.was) (sym c.is_inlined.ensures ∙ c.if-is_inlined.false) c.offset.ensures (omega arith) (omega arith)
