-- An ill formed record is refused, and nothing else but for want of room; then the groups are written and the first bit is flipped.
-- Assumes nothing.
use Rattle.std.proofs.Common.{◌≡◌, ℕ, Bool, true, List, length, arith, sym, ◌∙◌, ap}
use Rattle.groups.specs.Layout.{size, form_of}
use Rattle.groups.specs.Packed.{flip_first}
use Rattle.groups.specs.Sides.{sides_of}
use Rattle.groups.specs.Write.{well_formed, written, write_told, write_leaves}
use Rattle.groups.specs.declared.layout.Sides.{Sides}
use Rattle.groups.proofs.Accept.{well-digits}
use Rattle.groups.proofs.Sign.{formed-groups}
use Rattle.groups.proofs.Store.{length-written}
use Rattle.groups.proofs.Sizes.{packed-size, packed-sides, size-pos}
use Rattle.groups.proofs.Room.{short, fits}
use Rattle.writing.proofs.Parts.{packed-form}
use Rattle.writing.proofs.write.Goals as goal

-- the size that is tested is that of the bytes
sized : (v : Bool) (i f : ℕ) (gs : List ℕ) (s : Sides) → well_formed v i f gs ≡ true → s ≡ sides_of i f → s.size ≡ size i f
sized v i f gs s w e = let h = well-digits i f gs (formed-groups v i f gs w) in ap (λ (s : Sides). s.size) e ∙ sym (packed-sides i f h.1.0)

count : (v : Bool) (i f : ℕ) (gs : List ℕ) (s : Sides) → well_formed v i f gs ≡ true → s ≡ sides_of i f → length (written (form_of v) i f gs) ≡ s.size
count v i f gs s w e = length-written (form_of v) i f gs ∙ packed-size v i f ∙ sym (sized v i f gs s w e)

pub returns-then-out-s-clause-result_value : goal.returns-then-out-s-clause-result_value
unfolding write_told
returns-then-out-s-clause-result_value c =
    let a = c.args.parts.now in
    let w = c.in_ok-d.ensures.1 in
    let r = short (written (form_of a.negative) a.intg a.frac a.groups) c.args.out.now (count _ _ _ _ _ w c.sides_of-s.ensures) c.if-out-s.true in
    sym (simp (w, r.0))

pub returns-then-out-s-clause-out_after : goal.returns-then-out-s-clause-out_after
unfolding write_leaves
returns-then-out-s-clause-out_after c =
    let a = c.args.parts.now in
    let w = c.in_ok-d.ensures.1 in
    let r = short (written (form_of a.negative) a.intg a.frac a.groups) c.args.out.now (count _ _ _ _ _ w c.sides_of-s.ensures) c.if-out-s.true in
    sym (simp (w, r.1))

pub put_packed-requires : goal.put_packed-requires
put_packed-requires c =
    let s = sized _ _ _ _ _ c.in_ok-d.ensures.1 c.sides_of-s.ensures in
    rw c.in_ok-d.ensures.0 (c.sides_of-s.ensures, rw s at c.if-out-s.false)

pub flip_first-requires : goal.flip_first-requires
flip_first-requires c =
    let a = c.args.parts.now in
    let w = c.in_ok-d.ensures.1 in
    let h = well-digits _ _ _ (formed-groups _ _ _ _ w) in
    let l = size-pos a.intg a.frac h.1.0 h.0 in
    let s = sized _ _ _ _ _ w c.sides_of-s.ensures in
    let k = c.put_packed.auto.out in
    omega arith

pub returns-clause-result_value : goal.returns-clause-result_value
unfolding write_told
returns-clause-result_value c =
    let a = c.args.parts.now in
    let w = c.in_ok-d.ensures.1 in
    let r = fits (written (form_of a.negative) a.intg a.frac a.groups) c.args.out.now (count _ _ _ _ _ w c.sides_of-s.ensures) c.if-out-s.false in
    sym (simp (w, r.0))

pub returns-clause-out_after : goal.returns-clause-out_after
unfolding write_leaves
returns-clause-out_after c =
    let a = c.args.parts.now in
    let w = c.in_ok-d.ensures.1 in
    let h = well-digits _ _ _ (formed-groups _ _ _ _ w) in
    let s = sized _ _ _ _ _ w c.sides_of-s.ensures in
    let r = fits (written (form_of a.negative) a.intg a.frac a.groups) c.args.out.now (count _ _ _ _ _ w c.sides_of-s.ensures) c.if-out-s.false in
    let o = c.flip_first.ensures ∙ ap flip_first (rw c.in_ok-d.ensures.0 at c.put_packed.ensures) ∙ packed-form a.negative a.intg a.frac a.groups c.args.out.now (size-pos a.intg a.frac h.1.0 h.0) in
    rw (← s) at o ∙ sym (simp (w, r.1))
