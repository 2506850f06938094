-- The digits passed and those from there on write the same number as all.
-- Assumes nothing.
use Rattle.std.proofs.Common.{◌≡◌, ◌<◌, drop}
use Rattle.request.specs.Number.{number_from, number_of}
use Rattle.request.proofs.number.Given as goal

abbrev pub invariant-loop-b : goal.invariant-loop-b
invariant-loop-b l = record { small : l.n < 4294967296; value : number_of l.text ≡ number_from l.n (drop l.b-index l.text) }
