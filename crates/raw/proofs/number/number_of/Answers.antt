-- A part's bytes are below 256, so eight of them or fewer hold no more than its length can.
-- Assumes nothing.
use Rattle.std.proofs.Common.{◌≡◌, take, arith}
use Rattle.raw.specs.Numbers.{value}
use Rattle.raw.proofs.Bounds.{part_below}
use Rattle.raw.proofs.Filled.{filled}
use Rattle.raw.proofs.number.number_of.Goals as goal

pub returns-clause-upper_bound : goal.returns-clause-upper_bound
returns-clause-upper_bound c =
    let part = c.args.part.now in
    let e : c.from_le_bytes.result ≡ value (take 8 part) = grind (arith, filled) in
    let b = part_below part (λ k. (c.type_inv.part k).fits) in
    omega arith
