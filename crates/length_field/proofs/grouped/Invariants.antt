-- What the groups passed hold, put below those to come, is the whole field.
-- Assumes nothing.
use Rattle.std.proofs.Common.{◌≡◌, ◌^◌, ◌<◌}
use Rattle.length_field.proofs.Fields.{Passed}
use Rattle.length_field.proofs.grouped.Given as goal

abbrev pub invariant-loop-k : goal.invariant-loop-k
invariant-loop-k l = record { unit : l.unit ≡ 128 ^ l.k; low : l.low < l.unit; passed : Passed l.doc l.at l.end l.low l.unit l.k }
