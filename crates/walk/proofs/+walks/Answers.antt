-- What is below a container, laid from an event on, is what its walker answers and leaves: the loop keeps `Going`, an entry is listed and then what is
-- below it, with one level less; what is kept as known was tested. The measure is the levels left.
-- Assumes nothing.
use Rattle.std.proofs.Common.{◌≡◌, refl, ◌-◌, sym, ap, ◌∙◌, arith, rules, Err}
use Rattle.refusal.specs.Refusals.{number_of}
use Rattle.events.specs.Lay.{lay}
use Rattle.events.proofs.Room.{room-same, room_small}
use Rattle.walk.specs.declared.Level.{Level}
use Rattle.walk.proofs.Entries.{element-laid, member-laid, leads-same, entry-fits}
use Rattle.walk.proofs.Going.{told, start, over, deep, stopped, stopped-below, on}
use Rattle.walk.proofs.+walks.Goals as goal

-- ---- the walker of arrays
pub walk_array-overflow_cast-level : goal.walk_array-overflow_cast-level
walk_array-overflow_cast-level t c =
    omega (arith, c.requires.last.0.fits, room_small c.args.out.now)

pub walk_array-loop-position-init : goal.walk_array-loop-position-init
walk_array-loop-position-init t c =
    record { going = start c.requires.last.0.some; last = c.requires.last.0 }

pub walk_array-returns-then-levels-eq0-clause-listed : goal.walk_array-returns-then-levels-eq0-clause-listed
walk_array-returns-then-levels-eq0-clause-listed t c =
    deep c.loop-position.invariant.going c.loop-position-test.true c.if-levels-eq0.true
    ∙ told (ap number_of (sym c.stopped.ensures.0)) (sym (c.stopped.ensures.1.0 ∙ c.value_place.ensures.value)) (sym c.stopped.ensures.1.1)

pub walk_array-list_element-requires-clause-last : goal.walk_array-list_element-requires-clause-last
walk_array-list_element-requires-clause-last t c =
    (c.loop-position.invariant.last, c.requires.last.1 ∙ room-same _ _ (sym c.loop-position.invariant.going.same))

pub walk_array-returns-in_err-list_element-clause-listed : goal.walk_array-returns-in_err-list_element-clause-listed
walk_array-returns-in_err-list_element-clause-listed t c =
    let e : Level = record { view = c.args.view.now; depth = 101 - c.args.levels; parent = c.args.from - 1 } in
    let r : c.from_residual.result ≡ Err c.in_err-list_element.field-0.0 = search rules in
    rw r
    (stopped c.loop-position.invariant.going c.loop-position-test.true c.if-levels-eq0.false c.requires.array.0
    (element-laid c.args.doc.now e c.loop-position.position c.loop-position.out c.loop-position.n c.requires.array.1 ∙ c.in_err-list_element.ensures.listed) refl)

pub walk_array-walk_below-requires : goal.walk_array-walk_below-requires
walk_array-walk_below-requires t c =
    let e : Level = record { view = c.args.view.now; depth = 101 - c.args.levels; parent = c.args.from - 1 } in
    let u = c.container_at-leads.ensures ∙ c.in_ok-list_element.ensures.leads ∙ leads-same c.args.doc.now e c.loop-position.position c.loop-position.out c.loop-position.n in (
      omega arith,
      (
        (omega arith, entry-fits c.args.doc.now c.args.view.now c.loop-position.position u),
        (c.in_ok-list_element.ensures.last, c.requires.last.1 ∙ room-same _ _ (sym (c.list_element.auto.out ∙ c.loop-position.invariant.going.same))),
      ),
    )

pub walk_array-returns-in_err-n-clause-listed : goal.walk_array-returns-in_err-n-clause-listed
walk_array-returns-in_err-n-clause-listed t c =
    let e : Level = record { view = c.args.view.now; depth = 101 - c.args.levels; parent = c.args.from - 1 } in
    let u = c.container_at-leads.ensures ∙ c.in_ok-list_element.ensures.leads ∙ leads-same c.args.doc.now e c.loop-position.position c.loop-position.out c.loop-position.n in
    let r : c.from_residual-in_err-n.result ≡ Err c.in_err-n.field-0.0 = search rules in
    rw r
    (stopped-below c.loop-position.invariant.going c.loop-position-test.true c.if-levels-eq0.false c.requires.array.0
    (element-laid c.args.doc.now e c.loop-position.position c.loop-position.out c.loop-position.n c.requires.array.1 ∙ c.in_ok-list_element.ensures.listed) refl u c.in_err-n.ensures.listed refl)

pub walk_array-loop-position-preserved : goal.walk_array-loop-position-preserved
walk_array-loop-position-preserved t c =
    let e : Level = record { view = c.args.view.now; depth = 101 - c.args.levels; parent = c.args.from - 1 } in
    let u = c.container_at-leads.ensures ∙ c.in_ok-list_element.ensures.leads ∙ leads-same c.args.doc.now e c.loop-position.position c.loop-position.out c.loop-position.n in
    record {
      going =
          on c.loop-position.invariant.going c.loop-position-test.true c.if-levels-eq0.false c.requires.array.0
          (element-laid c.args.doc.now e c.loop-position.position c.loop-position.out c.loop-position.n c.requires.array.1 ∙ c.in_ok-list_element.ensures.listed) refl u c.in_ok-n.ensures.listed refl (c.walk_below.auto.out ∙ c.list_element.auto.out);
      last = c.in_ok-n.ensures.kept;
    }

pub walk_array-returns-clause-listed : goal.walk_array-returns-clause-listed
walk_array-returns-clause-listed t c =
    over c.loop-position.invariant.going c.loop-position-test.false

-- ---- the walker of objects
pub walk_object-overflow_cast-level : goal.walk_object-overflow_cast-level
walk_object-overflow_cast-level t c =
    omega (arith, c.requires.last.0.fits, room_small c.args.out.now)

pub walk_object-loop-position-init : goal.walk_object-loop-position-init
walk_object-loop-position-init t c =
    record { going = start c.requires.last.0.some; last = c.requires.last.0 }

pub walk_object-returns-then-levels-eq0-clause-listed : goal.walk_object-returns-then-levels-eq0-clause-listed
walk_object-returns-then-levels-eq0-clause-listed t c =
    deep c.loop-position.invariant.going c.loop-position-test.true c.if-levels-eq0.true
    ∙ told (ap number_of (sym c.stopped.ensures.0)) (sym (c.stopped.ensures.1.0 ∙ c.value_place.ensures.value)) (sym c.stopped.ensures.1.1)

pub walk_object-list_member-requires-clause-last : goal.walk_object-list_member-requires-clause-last
walk_object-list_member-requires-clause-last t c =
    (c.loop-position.invariant.last, c.requires.last.1 ∙ room-same _ _ (sym c.loop-position.invariant.going.same))

pub walk_object-returns-in_err-list_member-clause-listed : goal.walk_object-returns-in_err-list_member-clause-listed
walk_object-returns-in_err-list_member-clause-listed t c =
    let e : Level = record { view = c.args.view.now; depth = 101 - c.args.levels; parent = c.args.from - 1 } in
    let r : c.from_residual.result ≡ Err c.in_err-list_member.field-0.0 = search rules in
    rw r
    (stopped c.loop-position.invariant.going c.loop-position-test.true c.if-levels-eq0.false c.requires.object.0
    (member-laid c.args.doc.now e c.loop-position.position c.loop-position.out c.loop-position.n c.requires.object.1 c.requires.fit c.loop-position-test.true ∙ c.in_err-list_member.ensures.listed) refl)

pub walk_object-walk_below-requires : goal.walk_object-walk_below-requires
walk_object-walk_below-requires t c =
    let e : Level = record { view = c.args.view.now; depth = 101 - c.args.levels; parent = c.args.from - 1 } in
    let u = c.container_at-leads.ensures ∙ c.in_ok-list_member.ensures.leads ∙ leads-same c.args.doc.now e c.loop-position.position c.loop-position.out c.loop-position.n in (
      omega arith,
      (
        (omega arith, entry-fits c.args.doc.now c.args.view.now c.loop-position.position u),
        (c.in_ok-list_member.ensures.last, c.requires.last.1 ∙ room-same _ _ (sym (c.list_member.auto.out ∙ c.loop-position.invariant.going.same))),
      ),
    )

pub walk_object-returns-in_err-n-clause-listed : goal.walk_object-returns-in_err-n-clause-listed
walk_object-returns-in_err-n-clause-listed t c =
    let e : Level = record { view = c.args.view.now; depth = 101 - c.args.levels; parent = c.args.from - 1 } in
    let u = c.container_at-leads.ensures ∙ c.in_ok-list_member.ensures.leads ∙ leads-same c.args.doc.now e c.loop-position.position c.loop-position.out c.loop-position.n in
    let r : c.from_residual-in_err-n.result ≡ Err c.in_err-n.field-0.0 = search rules in
    rw r
    (stopped-below c.loop-position.invariant.going c.loop-position-test.true c.if-levels-eq0.false c.requires.object.0
    (member-laid c.args.doc.now e c.loop-position.position c.loop-position.out c.loop-position.n c.requires.object.1 c.requires.fit c.loop-position-test.true ∙ c.in_ok-list_member.ensures.listed) refl u c.in_err-n.ensures.listed refl)

pub walk_object-loop-position-preserved : goal.walk_object-loop-position-preserved
walk_object-loop-position-preserved t c =
    let e : Level = record { view = c.args.view.now; depth = 101 - c.args.levels; parent = c.args.from - 1 } in
    let u = c.container_at-leads.ensures ∙ c.in_ok-list_member.ensures.leads ∙ leads-same c.args.doc.now e c.loop-position.position c.loop-position.out c.loop-position.n in
    record {
      going =
          on c.loop-position.invariant.going c.loop-position-test.true c.if-levels-eq0.false c.requires.object.0
          (member-laid c.args.doc.now e c.loop-position.position c.loop-position.out c.loop-position.n c.requires.object.1 c.requires.fit c.loop-position-test.true ∙ c.in_ok-list_member.ensures.listed) refl u c.in_ok-n.ensures.listed refl (c.walk_below.auto.out ∙ c.list_member.auto.out);
      last = c.in_ok-n.ensures.kept;
    }

pub walk_object-returns-clause-listed : goal.walk_object-returns-clause-listed
walk_object-returns-clause-listed t c =
    over c.loop-position.invariant.going c.loop-position-test.false

-- ---- a value that is no container has nothing below it
pub walk_below-returns-in-None-clause-listed : goal.walk_below-returns-in-None-clause-listed
unfolding lay
walk_below-returns-in-None-clause-listed t c = rw c.in-None.is refl
