-- A byte is missing, too low or too high, and the machine that asks for it stops there.
-- Assumes nothing.
use Rattle.std.proofs.Common.{◌≡◌, ◌<◌, ◌≤◌, refl, get_or, length, arith}
use Rattle.std.proofs.lemmas.Grind.{common_steps}
use Rattle.utf8.proofs.Steps.{takes-end, takes-below, takes-above}
use Rattle.utf8.proofs.need.Goals as goal

pub returns-in_default : goal.returns-in_default
returns-in_default c =
    let s = c.args.s.now in
    let at = c.args.at in
    let h : at < length s = grind (arith, common_steps) in
    let b : c.in-Some.b.now ≡ get_or s at 0 = grind (arith, common_steps) in
    (refl, takes-above c.args.lo c.args.hi s at h (omega arith) (omega arith))

pub returns-in_default-2 : goal.returns-in_default-2
returns-in_default-2 c =
    let s = c.args.s.now in
    let at = c.args.at in
    let h : at < length s = grind (arith, common_steps) in
    let b : c.in-Some.b.now ≡ get_or s at 0 = grind (arith, common_steps) in
    (refl, takes-below c.args.lo c.args.hi s at h (omega arith))

pub returns-in_default-3 : goal.returns-in_default-3
returns-in_default-3 c =
    let h : length c.args.s.now ≤ c.args.at = grind (arith, common_steps) in
    (refl, takes-end c.args.lo c.args.hi c.args.s.now c.args.at h)
