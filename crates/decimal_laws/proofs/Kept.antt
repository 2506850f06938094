-- Reading without kept precision refuses the same inputs and gives the same value: it leaves out leading groups that are 0 and so count nothing.
-- Assumes nothing.
use mathlib.Core.Path.{◌≡◌, refl, sym, ap, ◌∙◌}
use mathlib.Core.Bool.{Bool, true, false, cond, not}
use mathlib.Core.List.{List, [], ◌∷◌, ◌++◌}
use Prim.Native.Nat.{ℕ, zero, suc, ◌+◌, ◌-◌, ◌*◌, ◌^◌, ◌≤◌, ◌<◌}
use native.Mathlib.Nat.{zero-mul, zero-sub, mul_assoc}
use native.Mathlib.Omega.{arith}
use lib.Dec.{eqb}
use lib.Pow.{pow-add}
use lib.IntN.{pos}
use lib.ListN.{length, get_or, drop, replicate, length-append, length-drop, length-replicate}
use lib.Seq.{get_or-drop}
use borrow.Author.Tests.{le-ltb, eqb-true}
use Rattle.std.specs.Prelude.{Result, Ok, Err}
use Rattle.std.specs.Result.{result_err}
use Rattle.refusal.specs.declared.Refusal.{Refusal}
use Rattle.groups.specs.Numbers.{number, tab, leading_in}
use Rattle.groups.specs.Layout.{width, groups_of, side, form_of, wide_of, digits_at, Form, Plain, Inverted, Digits}
use Rattle.groups.specs.Packed.{digits_in}
use Rattle.groups.specs.Read.{group_at, stored_at, read_groups}
use Rattle.groups.specs.Sign.{is_nought, below_zero}
use Rattle.std.proofs.lemmas.Bool.Decides.{nat_tests}
use Rattle.groups.proofs.Accept.{in-range}
use Rattle.groups.proofs.Tab.{tab-at, length-tab, filled}
use Rattle.groups.proofs.Opened.{opened}
use Rattle.kept.specs.Kept.{Kept, without}
use Rattle.decimal.specs.Read.{negative, nought, decimal_of, or_nought, finished, from_groups, read_bin, read_packed}
use Rattle.order.specs.Value.{magnitude, signed}
use Rattle.decimal.specs.Value.{value}
use Rattle.decimal.specs.declared.Decimal.{Decimal}
use Rattle.decimal_laws.specs.Valued.{valued}
use Rattle.order.proofs.Lex.{zeros-before, zeros-after, at_after, all-zero}
use Rattle.order.proofs.Values.{nought-number}

-- ---- leading zeros
pub leading_le : (n : ℕ) (gs : List ℕ) → leading_in n gs ≤ n
unfolding leading_in
leading_le zero gs = omega arith
leading_le (suc n) [] = omega arith
leading_le (suc n) (x ∷ xs) = grind (arith, nat_tests, leading_le n xs)

leading_zeros : (n : ℕ) (gs : List ℕ) → replicate (leading_in n gs) 0 ++ drop (leading_in n gs) gs ≡ gs
unfolding leading_in
leading_zeros zero gs = refl
leading_zeros (suc n) [] = refl
leading_zeros (suc n) (x ∷ xs) = grind (arith, nat_tests, leading_zeros n xs)

leading-number : (b n : ℕ) (gs : List ℕ) → number b (drop (leading_in n gs) gs) ≡ number b gs
leading-number b n gs = sym (zeros-before b (leading_in n gs) (drop (leading_in n gs) gs)) ∙ ap (number b) (leading_zeros n gs)

-- ---- the groups from place z on, and zeros after them
shifted : (gs : List ℕ) (z : ℕ) → length gs ≡ 9 → z ≤ 9 → drop z gs ++ replicate z 0 ≡ tab 9 (λ k. get_or gs (k + z) 0)
shifted gs z e l =
    filled 9 (λ k. get_or gs (k + z) 0) (drop z gs ++ replicate z 0) (simp (length-append, length-drop, length-replicate, e) (omega arith))
    (λ k m. at_after (drop z gs) z k ∙ get_or-drop z gs k 0 ∙ ap (λ (j : ℕ). get_or gs j 0) (omega arith))

module _ (n : ℕ) (gs : List ℕ) (e : length gs ≡ 9) (l : n ≤ 9) where
  without-number : (b : ℕ) → number b (tab 9 (λ k. get_or gs (k + leading_in n gs) 0)) ≡ number b gs * b ^ leading_in n gs
  without-number b =
      let z = leading_in n gs in
      let h = leading_le n gs in
      rw (← shifted gs z e (omega arith), zeros-after b (drop z gs) z, leading-number b n gs)

  without-magnitude : magnitude (n - leading_in n gs) (tab 9 (λ k. get_or gs (k + leading_in n gs) 0)) ≡ magnitude n gs
  unfolding magnitude
  without-magnitude =
      let z = leading_in n gs in
      let h = leading_le n gs in
      let q : z + (n - z) ≡ n = omega arith in
      let p : 1000000000 ^ z * 1000000000 ^ (n - z) ≡ 1000000000 ^ n = sym (pow-add 1000000000 z (n - z)) ∙ ap (λ (m : ℕ). 1000000000 ^ m) q in
      rw (without-number 1000000000, mul_assoc, p)

-- ---- the value of a decimal, whose groups are 0 where it has no digits
nought-value : value nought ≡ pos 0
unfolding value magnitude number groups_of
nought-value = refl

signed-zero : (neg : Bool) → signed neg 0 ≡ pos 0
signed-zero true = refl
signed-zero false = refl

pub zero-value : (neg : Bool) (n : ℕ) (gs : List ℕ) → number 1000000000 gs ≡ 0 → signed neg (magnitude n gs) ≡ pos 0
unfolding magnitude
zero-value neg n gs h = rw (h, zero-mul) (signed-zero neg)

-- a zero that is read with a minus has the same value without it
pub sign-value : (neg : Bool) (n : ℕ) (gs : List ℕ) → length gs ≡ 9 → signed (below_zero neg gs) (magnitude n gs) ≡ signed neg (magnitude n gs)
unfolding below_zero
sign-value false n gs l = refl
sign-value true n gs l = go (is_nought gs) refl
  where
    go : (t : Bool) → is_nought gs ≡ t → signed (not t) (magnitude n gs) ≡ signed true (magnitude n gs)
    go true e = let z = eqb-true _ _ (sym (nought-number gs l) ∙ e) in zero-value false n gs z ∙ sym (zero-value true n gs z)
    go false e = refl

value-of : (i f : ℕ) (neg : Bool) (gs : List ℕ) → length gs ≡ 9 → (i + f ≡ 0 → number 1000000000 gs ≡ 0)
    → value (or_nought i f neg gs) ≡ signed neg (magnitude (groups_of i) gs)
unfolding value decimal_of or_nought
value-of i f neg gs l h = go (eqb (i + f) 0) refl
  where
    go : (t : Bool) → eqb (i + f) 0 ≡ t → value (cond t nought (decimal_of i f neg gs)) ≡ signed neg (magnitude (groups_of i) gs)
    go true q = nought-value ∙ sym (zero-value neg (groups_of i) gs (h (eqb-true (i + f) 0 q)))
    go false q = sign-value neg (groups_of i) gs l

-- ---- the precision kept or not
pub whole-groups : (m : ℕ) → groups_of (9 * m) ≡ m
unfolding groups_of
whole-groups m = omega arith

groups-le : (i : ℕ) → i ≤ 65 → groups_of i ≤ 9
unfolding groups_of
groups-le i h = omega arith

-- the decimal of what is kept, with f digits after the point
abbrev of-kept : ℕ → Bool → Kept → Decimal
of-kept f neg k = or_nought k.intg f neg k.groups

either-value : (f : ℕ) (neg : Bool) (t : Bool) (a b : Kept) → value (of-kept f neg b) ≡ value (of-kept f neg a) → value (of-kept f neg (cond t a b)) ≡ value (of-kept f neg a)
either-value f neg true a b h = refl
either-value f neg false a b h = h

-- where there is no fraction, every group past the integral ones is 0
abbrev Ends : ℕ → ℕ → List ℕ → Type 0
Ends i f gs = f ≡ 0 → (k : ℕ) → groups_of i ≤ k → k < 9 → get_or gs k 0 ≡ 0

module _ (i f : ℕ) (neg : Bool) (gs : List ℕ) (e : length gs ≡ 9) (l : i ≤ 65) (h : Ends i f gs) where
  -- no fraction and no integral group but zeros: no digit is left
  none_left : f ≡ 0 → groups_of i ≤ leading_in (groups_of i) gs → number 1000000000 gs ≡ 0
  none_left q m =
      let z = leading_in (groups_of i) gs in
      let d = length-drop z gs in
      sym (leading-number 1000000000 (groups_of i) gs)
      ∙ all-zero 1000000000 (drop z gs) (λ k j. get_or-drop z gs k 0 ∙ h q (z + k) (omega arith) (omega arith))

  kept-value : value (or_nought i f neg gs) ≡ signed neg (magnitude (groups_of i) gs)
  unfolding groups_of
  kept-value = value-of i f neg gs e (λ (q : i + f ≡ 0). none_left (omega arith) (omega arith))

  without-value : value (or_nought (9 * (groups_of i - leading_in (groups_of i) gs)) f neg (tab 9 (λ k. get_or gs (k + leading_in (groups_of i) gs) 0)))
      ≡ signed neg (magnitude (groups_of i) gs)
  without-value =
      let n = groups_of i in
      let z = leading_in n gs in
      let m = groups-le i l in
      value-of (9 * (n - z)) f neg (tab 9 (λ k. get_or gs (k + z) 0)) (length-tab 9 _)
      (λ (q : 9 * (n - z) + f ≡ 0). without-number n gs e m 1000000000 ∙ rw (none_left (omega arith) (omega arith), zero-mul))
      ∙ rw (whole-groups (n - z), without-magnitude n gs e m)

  same-finished : value (finished false i f neg gs) ≡ value (finished true i f neg gs)
  unfolding finished without
  same-finished = either-value f neg (eqb (leading_in (groups_of i) gs) 0) (record { intg = i; groups = gs }) _ (without-value ∙ sym kept-value)

-- ---- groups that were read are such: a place past the last group has no digits
none-wide : (F : Form) → wide_of F 0 ≡ 0
unfolding width
none-wide Plain = refl
none-wide Inverted = refl
none-wide Digits = refl

past-digits : (i k : ℕ) → groups_of i ≤ k → digits_at i 0 k ≡ 0
unfolding digits_at side
past-digits i k h = rw (le-ltb k (groups_of i) h, zero-sub)

past-stored : (F : Form) (i : ℕ) (ds : List ℕ) (k : ℕ) → groups_of i ≤ k → stored_at F i 0 ds k ≡ 0
unfolding stored_at group_at number
past-stored F i ds k h = rw (past-digits i k h, none-wide F, zero-mul)

read-ends : (F : Form) (i f : ℕ) (ds : List ℕ) → Ends i f (tab 9 (stored_at F i f ds))
read-ends F i f ds q k h m = tab-at 9 (stored_at F i f ds) k m ∙ rw q (past-stored F i ds k h)

same_read : (F : Form) (bs : List ℕ) (p s : ℕ) (neg : Bool) (gs : List ℕ) → read_groups F bs p s ≡ Ok gs
    → value (finished false (p - s) s neg gs) ≡ value (finished true (p - s) s neg gs)
same_read F bs p s neg gs e =
    let o = opened F bs p s gs e in
    let r = in-range p s o.0 in
    let ds = digits_in F bs in
    rw o.1.1.1 (same-finished (p - s) s neg (tab 9 (stored_at F (p - s) s ds)) (length-tab 9 _) (omega arith) (read-ends F (p - s) s ds))

-- ---- the laws
-- digit bytes of a known precision and scale: the same refusal, or values that are the same
pub same-value : (bs : List ℕ) (p s : ℕ) → valued (read_bin bs p s false) ≡ valued (read_bin bs p s true)
unfolding read_bin from_groups
same-value bs p s = go (read_groups F bs p s) refl
  where
    F : Form
    F = form_of (negative bs)

    go : (g : Result (List ℕ) Refusal) → read_groups F bs p s ≡ g
        → valued (from_groups g (p - s) s (negative bs) false) ≡ valued (from_groups g (p - s) s (negative bs) true)
    go (Ok gs) e = ap Ok (same_read F bs p s (negative bs) gs e)
    go (Err r) e = refl

refused-as : (a : Result Decimal Refusal) → result_err (valued a) ≡ result_err a
refused-as (Ok d) = refl
refused-as (Err r) = refl

pub same-refusal : (bs : List ℕ) (p s : ℕ) → result_err (read_bin bs p s false) ≡ result_err (read_bin bs p s true)
same-refusal bs p s = sym (refused-as (read_bin bs p s false)) ∙ ap result_err (same-value bs p s) ∙ refused-as (read_bin bs p s true)

-- Without kept precision a packed decimal is refused as with it, or its value is that with it.
pub kept_or_not : (bs : List ℕ) → valued (read_packed bs false) ≡ valued (read_packed bs true)
unfolding read_packed
kept_or_not [] = refl
kept_or_not (p ∷ []) = refl
kept_or_not (p ∷ s ∷ bs) = same-value bs p s
