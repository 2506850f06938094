-- Without fractional digits nothing is put; otherwise the point, whole groups, and the highest digits of the last.
-- Assumes what the contract requires, and nothing else.
use Rattle.std.proofs.Common.{◌≡◌, ℕ, suc, ◌+◌, ◌-◌, ◌*◌, ◌/◌, ◌^◌, [], ◌∷◌, map, get_or, length, arith, sym, ap, ◌∙◌, refl}
use native.Mathlib.Nat.{add-zero}
use lib.ListN.{length-map, length-set, take-append-drop}
use Rattle.groups.specs.Numbers.{digits}
use Rattle.groups.proofs.Places.{power-is, pow-pos10}
use Rattle.printing.specs.Print.{show}
use Rattle.printing.specs.Course.{nines, before, rest, point_text}
use Rattle.printing.proofs.Pieces.{two-parts, length-nines, no-point, some-point, put-one}
use Rattle.printing.proofs.put_fraction.Goals as goal

pub returns-then-frac-eq0-clause-value : goal.returns-then-frac-eq0-clause-value
returns-then-frac-eq0-clause-value c =
    let a = c.args in
    let n = no-point a.n a.frac a.groups.now c.if-frac-eq0.true in
    rw n.1 (sym (add-zero a.at))

pub returns-then-frac-eq0-clause-out_after : goal.returns-then-frac-eq0-clause-out_after
returns-then-frac-eq0-clause-out_after c =
    let a = c.args in
    let n = no-point a.n a.frac a.groups.now c.if-frac-eq0.true in
    rw n.0 (sym (take-append-drop a.at a.out.now))

pub bounds-out-at : goal.bounds-out-at
bounds-out-at c = let n = (some-point c.args.n c.args.frac c.args.groups.now c.if-frac-eq0.false).1 in omega arith

pub put_nines-b-requires-clause-from_in_bounds : goal.put_nines-b-requires-clause-from_in_bounds
put_nines-b-requires-clause-from_in_bounds c =
    let n = (some-point c.args.n c.args.frac c.args.groups.now c.if-frac-eq0.false).1 in
    rw length-set (omega arith)

pub nonzero_div-groups : goal.nonzero_div-groups
nonzero_div-groups c =
    let r = rest c.args.frac in
    rw (c.power.ensures, power-is (9 - r) (omega arith)) (pow-pos10 (9 - r))

pub put_group-requires : goal.put_group-requires
put_group-requires c =
    let n = (some-point c.args.n c.args.frac c.args.groups.now c.if-frac-eq0.false).1 in
    let l = length-set c.args.out.now c.args.at 46 in
    omega arith

pub returns-clause-value : goal.returns-clause-value
returns-clause-value c =
    let n = (some-point c.args.n c.args.frac c.args.groups.now c.if-frac-eq0.false).1 in
    omega arith

pub returns-clause-out_after : goal.returns-clause-out_after
returns-clause-out_after c =
    let a = c.args in
    let f = a.frac in
    let gs = a.groups.now in
    let m = before f in
    let n = (some-point a.n f gs c.if-frac-eq0.false).1 in
    let s : a.n + m - a.n ≡ m = omega arith in
    let N = map show (nines gs a.n m) in
    let L = map show (digits 10 (rest f) (get_or gs (a.n + m) 0 / 10 ^ (9 - rest f))) in
    let q : c.put_nines-b.result ≡ a.at + 1 + 9 * m = c.put_nines-b.ensures.value ∙ ap (λ (k : ℕ). a.at + 1 + 9 * k) s in
    let o = two-parts (46 ∷ []) N (46 ∷ N) a.out.now a.at (9 * m) refl (omega arith) refl refl q (put-one a.out.now a.at 46 (omega arith)) (rw s at c.put_nines-b.ensures.out_after) in
    let l : suc (length N) ≡ 1 + 9 * m = (let k = length-map (nines gs a.n m) show ∙ length-nines gs a.n m in omega arith) in
    let t = c.power.ensures ∙ power-is (9 - rest f) (omega arith) in
    two-parts (46 ∷ N) L (point_text a.n f gs) a.out.now a.at (rest f) l (omega arith) (some-point a.n f gs c.if-frac-eq0.false).0 (omega arith) refl o (rw t at c.put_group.ensures)
