-- The three parts are those of all groups.
-- Assumes what the contract requires, and nothing else.
use Rattle.std.proofs.Common.{◌≡◌, ◌+◌, ◌-◌, length, arith, ◌∙◌}
use Rattle.groups.specs.Sides.{rest, lead_places, wholes}
use Rattle.groups.proofs.Accept.{well-digits}
use Rattle.groups.proofs.Caps.{well-groups}
use Rattle.groups.proofs.Places.{power-is, pow-pos10}
use Rattle.groups.proofs.Sign.{formed-groups}
use Rattle.groups.proofs.Sizes.{width-le}
use Rattle.groups.proofs.SidesLaws.{fields}
use Rattle.writing.proofs.Parts.{places, packed-room, packed_all}
use Rattle.writing.proofs.put_packed.Goals as goal

pub put_bytes-requires : goal.put_bytes-requires
put_bytes-requires c =
    let a = c.args.d.parts.now in
    let h = well-digits _ _ _ (formed-groups _ _ _ _ c.args.d.well) in
    let r = packed-room a.intg a.frac (length c.args.out.now) h.1.0 c.requires.1 in
    let f = fields a.intg a.frac c.args.s c.requires.0 in
    let w = width-le (rest a.intg) in
    omega arith

pub put_fours-at-requires-clause-from_le_to : goal.put_fours-at-requires-clause-from_le_to
put_fours-at-requires-clause-from_le_to c =
    let a = c.args.d.parts.now in
    let h = well-digits _ _ _ (formed-groups _ _ _ _ c.args.d.well) in
    let f = fields a.intg a.frac c.args.s c.requires.0 in
    let q = places a.intg a.frac h.1.0 in
    rw (f.1.0.0, f.1.1.0.0) q.0

pub put_fours-at-requires-clause-from_in_bounds : goal.put_fours-at-requires-clause-from_in_bounds
put_fours-at-requires-clause-from_in_bounds c =
    let a = c.args.d.parts.now in
    let h = well-digits _ _ _ (formed-groups _ _ _ _ c.args.d.well) in
    let r = packed-room a.intg a.frac (length c.args.out.now) h.1.0 c.requires.1 in
    let f = fields a.intg a.frac c.args.s c.requires.0 in
    rw (f.0.1, f.1.0.0, f.1.1.0.0, c.put_bytes.auto.out) r.1.0

pub bounds-gs-s : goal.bounds-gs-s
bounds-gs-s c =
    let a = c.args.d.parts.now in
    let h = well-digits _ _ _ (formed-groups _ _ _ _ c.args.d.well) in
    let f = fields a.intg a.frac c.args.s c.requires.0 in
    let q = places a.intg a.frac h.1.0 in
    omega arith

pub offset_bounds-gs-s : goal.offset_bounds-gs-s
offset_bounds-gs-s c =
    let a = c.args.d.parts.now in
    let h = well-digits _ _ _ (formed-groups _ _ _ _ c.args.d.well) in
    let f = fields a.intg a.frac c.args.s c.requires.0 in
    let q = places a.intg a.frac h.1.0 in
    omega arith

pub nonzero_div-rest : goal.nonzero_div-rest
nonzero_div-rest c =
    let a = c.args.d.parts.now in
    let f = fields a.intg a.frac c.args.s c.requires.0 in
    rw (c.power.ensures, f.1.1.1.0, power-is (9 - rest a.frac) (omega arith)) (pow-pos10 (9 - rest a.frac))

pub put_bytes-requires-2 : goal.put_bytes-requires-2
put_bytes-requires-2 c =
    let a = c.args.d.parts.now in
    let h = well-digits _ _ _ (formed-groups _ _ _ _ c.args.d.well) in
    let r = packed-room a.intg a.frac (length c.args.out.now) h.1.0 c.requires.1 in
    let f = fields a.intg a.frac c.args.s c.requires.0 in
    let g = c.put_fours-at in
    let p = rw (f.0.1, f.1.0.0, f.1.1.0.0) at g.ensures.value in
    rw (f.1.1.1.1, p, g.auto.out, c.put_bytes.auto.out) (width-le (rest a.frac), r.1.1)

pub returns : goal.returns
returns c =
    let a = c.args.d.parts.now in
    let w = formed-groups _ _ _ _ c.args.d.well in
    let h = well-digits _ _ _ w in
    let f = fields a.intg a.frac c.args.s c.requires.0 in
    let u = well-groups a.intg a.frac a.groups w in
    let e : lead_places a.intg + wholes a.intg a.frac - lead_places a.intg ≡ wholes a.intg a.frac = omega arith in
    let g = c.put_fours-at in
    c.put_bytes-2.ensures
    ∙ rw (c.shaded_number-2.ensures, g.ensures.out_after, g.ensures.value, c.put_bytes.ensures, c.shaded_number.ensures, c.power.ensures, f.0.1, f.1.0.0, f.1.1.0.0, f.1.1.1.0, f.1.1.1.1, power-is (9 - rest a.frac) (omega arith), e) (packed_all a.intg a.frac a.groups c.args.out.now h.1.0 a.negative c.requires.1 (λ k l. let v = u k l in omega arith))
