-- The answer's room is tested first, and then nothing has changed; else the walk has listed what it shows, and how it ended is put.
-- Assumes nothing.
use mathlib.Core.Path.{◌≡◌, refl}
use Rattle.events.specs.Walked.{walked as ended}
use Rattle.surface.proofs.Documents.{walk-told, walked}
use Rattle.lent.proofs.Puts.{too_short, same-told, as_it_was, changed}
use Rattle.relay.proofs.bratthelm_walk.Goals as goal

pub returns-then-answer-lt2-clause-relays : goal.returns-then-answer-lt2-clause-relays
returns-then-answer-lt2-clause-relays c =
    let n : c.from.result ≡ 25 = cc (c.from.ensures, c.number.ensures) in
    rw n (too_short 2 _ c.if-answer-lt2.true)

pub returns-then-answer-lt2-clause-events_after : goal.returns-then-answer-lt2-clause-events_after
returns-then-answer-lt2-clause-events_after c = as_it_was 2 _ _ _ c.if-answer-lt2.true refl

pub returns-clause-relays : goal.returns-clause-relays
returns-clause-relays c =
    let a = c.args in
    same-told (walk-told a.doc.now a.events.now (ended c.walk.result) _ c.walk.ensures) c.put_walked.ensures

pub returns-clause-events_after : goal.returns-clause-events_after
returns-clause-events_after c = changed 2 _ _ _ c.if-answer-lt2.false (walked _ _ c.walk.ensures)
