-- The groups before the loop's place are in range and stored, and the others are 0.
-- Assumes what the contract requires, and nothing else.
use Rattle.std.proofs.Common.{◌≡◌, ◌+◌, ◌-◌, ◌*◌, ◌≤◌, length}
use Rattle.groups.specs.Layout.{width, form_of}
use Rattle.groups.specs.Sides.{rest, lead_places, wholes}
use Rattle.groups.specs.Packed.{digits_in}
use Rattle.reading.proofs.Sided.{Filled}
use Rattle.reading.proofs.read_groups.Given as goal

abbrev pub invariant-loop-k : goal.invariant-loop-k
invariant-loop-k l = record {
  from : lead_places l.intg ≤ l.k;
  to : l.k ≤ lead_places l.intg + wholes l.intg l.frac;
  nine : length l.gs ≡ 9;
  place : l.at ≡ width (rest l.intg) + 4 * (l.k - lead_places l.intg);
  filled : Filled l.intg l.frac (digits_in (form_of l.inverted) l.bytes) l.inverted l.k l.gs;
}
