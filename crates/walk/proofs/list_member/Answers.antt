-- The key entry stands in the container's header, and so in the document.
-- Assumes nothing.
use Rattle.std.proofs.Common.{arith, refl}
use Rattle.walk.proofs.Keys.{key-fits}
use Rattle.walk.proofs.list_member.Goals as goal

pub invariant_of-key_at : goal.invariant_of-key_at
invariant_of-key_at c =
    let f = c.requires.fit.0 in
    let h = key-fits c.args.doc.now c.args.level.now.view c.args.position c.requires.object c.key_place.ensures.value f c.requires.fit.1 in
    record { ordered = omega (arith, h); inside = f.inside; short = f.short }

pub key_at-requires-clause-whole : goal.key_at-requires-clause-whole
key_at-requires-clause-whole c =
    (key-fits c.args.doc.now c.args.level.now.view c.args.position c.requires.object c.key_place.ensures.value c.requires.fit.0 c.requires.fit.1, refl)
