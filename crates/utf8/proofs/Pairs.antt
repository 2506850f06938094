-- The machine along bytes of which each is right before the next: behind a character it is at the start, and behind the first byte of one it asks
-- for the second. So the byte that comes tells the state.
-- Assumes nothing.
use Prim.Native.Nat.{ℕ, zero, suc, ◌+◌, ◌-◌, ◌<◌}
use mathlib.Core.Path.{◌≡◌, refl, sym, ap, ◌∙◌, subst}
use mathlib.Core.Bool.{Bool, true, false}
use mathlib.Core.List.{List}
use native.Mathlib.Nat.{add-zero}
use native.Mathlib.Omega.{arith}
use lib.Dec.{ltb}
use lib.ListN.{length, get_or, drop}
use borrow.Author.Tests.{ltb-true, ltb-false, le-leb}
use Rattle.pairs.specs.Pairs.{tail, right, Rights}
use Rattle.pairs.specs.Pairs as pairs
use Rattle.pairs.proofs.Pairs.{by, no, tail-up, tail-there, lead-there, behind-lead, behind-other, shorter, inside}
use Rattle.rfc3629.specs.Machine.{State, start, more, to, Verdict, next, run}
use Rattle.rfc3629.proofs.Steps.{lead1, lead2}
use Rattle.rfc3629.proofs.Steps as steps
use Rattle.utf8.specs.Course.{Runs}
use Rattle.utf8.proofs.Steps.{step}

-- the state before a byte, by whether it is a second one
abbrev awaits : Bool → State
awaits true = more 0 128 191
awaits false = start

below-tail : (a : ℕ) → tail a ≡ false → a < 192 → a < 128
below-tail a e h =
    by (ltb a 128) (λ t. ltb-true a 128 t)
    (λ t. no (sym e ∙ sym (tail-up a (ltb-false a 128 t)) ∙ le-leb a 191 (omega arith)))

-- one byte
turn : (a b : ℕ) → right a b ≡ true → next (awaits (tail a)) a ≡ to (awaits (tail b))
turn a b e =
    by (tail a)
    (λ t.
    let w = tail-there a t in
    by (pairs.lead a) (λ l. let v = lead-there a l in absurd (omega arith))
    (λ l.
    ap (λ (x : Bool). next (awaits x) a) t
    ∙ steps.inside 0 128 191 a w
    ∙ ap (λ (x : Bool). to (awaits x)) (sym (behind-other a b e l).1)))
    (λ t.
    by (pairs.lead a)
    (λ l.
    let v = lead-there a l in
    ap (λ (x : Bool). next (awaits x) a) t
    ∙ lead2 a v.0 (omega arith)
    ∙ ap (λ (x : Bool). to (awaits x)) (sym (behind-lead a b e l)))
    (λ l.
    let v = behind-other a b e l in
    ap (λ (x : Bool). next (awaits x) a) t
    ∙ lead1 a (below-tail a t v.0)
    ∙ ap (λ (x : Bool). to (awaits x)) (sym v.1)))

module _ (s : List ℕ) where
  abbrev at_place : ℕ → Verdict
  at_place k = run (awaits (tail (get_or s k 0))) k (drop k s)

  further : (k j : ℕ) → j ≡ k + 1 → k < length s → right (get_or s k 0) (get_or s (k + 1) 0) ≡ true → at_place k ≡ at_place j
  further k j e h p =
      step (awaits (tail (get_or s k 0))) s k (awaits (tail (get_or s j 0))) j e h
      (turn _ _ (subst (λ (m : ℕ). right (get_or s k 0) (get_or s m 0) ≡ true) (sym e) p))

  -- n bytes
  along : (at n : ℕ) → Rights s at (at + n) → at_place at ≡ at_place (at + n)
  along at zero p = ap at_place (sym (add-zero at))
  along at (suc n) p =
      let w = p.each (at + n) (omega arith) (omega arith) in
      along at n (shorter s at (at + n) (at + suc n) (omega arith) (omega arith) p)
      ∙ further (at + n) (at + suc n) (omega arith) (omega (arith, w.0)) w.1

module _ {s : List ℕ} {at j : ℕ} {q : Bool} (h : at < length s) (a : q ≡ tail (get_or s at 0)) (n : q ≡ false) (p : Rights s at j) where
  reach : run start at (drop at s) ≡ at_place s j
  reach =
      let e : at + (j - at) ≡ j = omega (arith, p.on) in
      ap (λ (x : Bool). run (awaits x) at (drop at s)) (sym n ∙ a)
      ∙ along s at (j - at) (subst (Rights s at) (sym e) p)
      ∙ ap (at_place s) e

  -- a character that the last byte begins has its second byte there
  pub half : {r : Bool} → r ≡ tail (get_or s j 0) → r ≡ true → Runs s at (j + 1)
  half e t =
      let l = inside h p in
      let w = sym e ∙ t in
      record {
        on = omega (arith, p.on);
        within = omega arith;
        same =
            reach
            ∙ ap (λ (x : Bool). run (awaits x) j (drop j s)) w
            ∙ step (more 0 128 191) s j start (j + 1) refl l (steps.inside 0 128 191 _ (tail-there _ w));
      }

  pub full : {r : Bool} → r ≡ tail (get_or s j 0) → r ≡ false → Runs s at j
  full e t =
      let l = inside h p in
      record {
        on = p.on;
        within = omega arith;
        same = reach ∙ ap (λ (x : Bool). run (awaits x) j (drop j s)) (sym e ∙ t);
      }
