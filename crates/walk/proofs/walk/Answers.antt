-- The root is listed, and then what is below it, with 100 levels left: together the listing of the document, which keeps the promise.
-- Assumes nothing.
use Rattle.std.proofs.Common.{◌≡◌, arith, rules, Err}
use Rattle.paths.proofs.Bridge.{walks}
use Rattle.walk.proofs.Root.{root-stopped, root-done, root-last, root-fits}
use Rattle.walk.proofs.walk.Goals as goal

pub returns-in_err-leads : goal.returns-in_err-leads
returns-in_err-leads c =
    let r : c.from_residual.result ≡ Err c.in_err-leads.field-0.0 = search rules in
    rw r (walks c.args.doc.now c.args.out.now (root-stopped c.args.doc.now c.args.out.now c.in_err-leads.ensures.listed))

pub walk_below-requires-clause-fit : goal.walk_below-requires-clause-fit
walk_below-requires-clause-fit c = (omega arith, root-fits c.args.doc.now c.in_ok-leads.ensures.leads)

pub walk_below-requires-clause-last : goal.walk_below-requires-clause-last
walk_below-requires-clause-last c = (root-last c.args.doc.now c.args.out.now c.in_ok-leads.ensures.listed, c.room_in-room.ensures)

pub returns : goal.returns
returns c =
    walks c.args.doc.now c.args.out.now
    (root-done c.args.doc.now c.args.out.now c.in_ok-leads.ensures.listed c.in_ok-leads.ensures.leads c.walk_below.ensures.listed)
