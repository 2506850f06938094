-- The first four bytes and the last four are all of four to seven.
-- Assumes nothing.
use Rattle.std.proofs.Common.{◌+◌, ◌-◌, ◌≤◌, length, arith}
use Rattle.std.proofs.lemmas.Bool.Decides.{nat_tests}
use Rattle.ascii.specs.Ascii.{ascii_end, front}
use Rattle.ascii.proofs.Low.{pass, front-le}
use Rattle.ascii.proofs.front8.Goals as goal

pub returns-then-tops-eq0-2 : goal.returns-then-tops-eq0-2
unfolding front
returns-then-tops-eq0-2 c =
    let s = c.args.s.now in
    let f = front-le s 0 (omega arith) in
    let a : length s - 4 ≤ ascii_end s 0 = grind (arith, nat_tests) in
    let b : length s - 4 + 4 ≤ ascii_end s (length s - 4) = grind (arith, nat_tests) in
    let p = pass s 0 (length s - 4) (omega arith) (omega arith) in
    grind (arith, nat_tests)
