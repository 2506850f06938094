-- An event that is laid was tested.
-- Assumes nothing.
use Rattle.std.proofs.Common.{◌≡◌, Ok, List, ℕ, ◌+◌, refl, ap, ◌∙◌, subst, sym, arith, rules}
use Rattle.events.proofs.Room.{room_for}
use Rattle.walk.specs.Course.{seen_text, seen_event, listed_container, container_in}
use Rattle.walk.specs.Tested.{Last}
use Rattle.walk.proofs.Values.{event-last, string-text, put-leads}
use Rattle.walk.proofs.list_value.Goals as goal

pub put-requires : goal.put-requires
put-requires c = room_for c.args.out.now c.args.n (omega (arith, c.requires.last.1))

pub returns-clause-leads : goal.returns-clause-leads
returns-clause-leads c =
    let e = seen_event c.args.level.now c.args.position c.args.key c.in-Ok.x in
    ap (λ (l : List ℕ). listed_container l c.args.n) c.put.ensures
    ∙ put-leads c.args.out.now c.args.n e c.in-Ok.x (omega (arith, c.requires.last.1)) refl refl refl
    ∙ ap container_in (sym c.in-Ok.is ∙ c.sight_at.ensures)

pub returns-clause-last : goal.returns-clause-last
returns-clause-last c =
    let d = c.args.doc.now in
    let x = c.in-Ok.x in
    let e : seen_text d x ≡ Ok _ = search rules in
    subst (λ (l : List ℕ). Last d l (c.args.n + 1)) (sym c.put.ensures)
    (event-last d c.args.out.now c.args.n (seen_event c.args.level.now c.args.position c.args.key x) (omega (arith, c.requires.last.1)) c.requires.known (string-text d x e))
