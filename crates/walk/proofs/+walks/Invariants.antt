-- What is below a container, laid from an event on, is what its walker answers and leaves: the loop keeps `Going`, an entry is listed and then what is
-- below it, with one level less; what is kept as known was tested. The measure is the levels left.
-- Assumes nothing.
use Rattle.std.proofs.Common.{◌+◌, ◌*◌}
use Rattle.walk.specs.Tested.{Last}
use Rattle.walk.proofs.Going.{Going}
use Rattle.walk.proofs.+walks.Given as goal

abbrev pub decreases-walk_array : goal.decreases-walk_array
decreases-walk_array l = 2 * l.levels

abbrev pub decreases-walk_object : goal.decreases-walk_object
decreases-walk_object l = 2 * l.levels

abbrev pub decreases-walk_below : goal.decreases-walk_below
decreases-walk_below l = 2 * l.levels + 1

abbrev pub invariant-walk_array-loop-position : goal.invariant-walk_array-loop-position
invariant-walk_array-loop-position l = record { going : Going l.levels l.doc l.fn.view l.fn.out l.from l.out l.n l.position; last : Last l.doc l.out l.n }

abbrev pub invariant-walk_object-loop-position : goal.invariant-walk_object-loop-position
invariant-walk_object-loop-position l = record { going : Going l.levels l.doc l.fn.view l.fn.out l.from l.out l.n l.position; last : Last l.doc l.out l.n }
