-- The statements of specs/Order.antt: an answer of the comparison is that of two integers, or 26, and integers have such an order.
-- Assumes nothing.
use Rattle.std.proofs.Common.{◌≡◌, refl, sym, ap, ◌∙◌, Bool, true, false, cond}
use Rattle.std.specs.Prelude.{ℤ, neg_ℤ, Result, Ok, Err}
use Rattle.std.specs.declared.cmp.Ordering.{Ordering}
use Rattle.std.specs.declared.cmp.Ordering.TheVariants.{Less, Equal, Greater}
use Rattle.refusal.specs.declared.Refusal.{Refusal}
use Rattle.refusal.specs.declared.Refusal.TheVariants as refusal
use Rattle.groups.specs.Numbers.{both}
use Rattle.order.specs.Value.{order_z}
use Rattle.decimal.specs.Write.{is_well}
use Rattle.decimal.specs.Text.{printed}
use Rattle.decimal.specs.Value.{value}
use Rattle.decimal.specs.declared.Decimal.{Decimal}
use Rattle.order_laws.specs.Plain.{plain}
use Rattle.order_laws.specs.Order.{Compares, compared, negated, reversed, is_le, ExactlyOne, first, second, third}
use Rattle.order_laws.specs.Order.{Swaps, Carries, OneHolds, Reverses, EqualPrints, Itself, LessCarries, EqualAlike}
use Rattle.order_laws.proofs.Integers.{swapped, carried, signs-changed, equal-same, same-equal}
use Rattle.order_laws.proofs.Compared.{compares, the-answer}
use Rattle.order_laws.proofs.Negated.{negated-well, negated-value}
use Rattle.order_laws.proofs.Equal.{IsDecimal, same-plain, plain_value, prints-text}

-- ---- of values, and of tests that the records passed
abbrev pub answered : Bool → Bool → ℤ → ℤ → Result Ordering Refusal
answered t u x y = cond (both t u) (Ok (order_z x y)) (Err refusal.Record)

swapped-all : (t u : Bool) (x y : ℤ) → answered u t y x ≡ reversed (answered t u x y)
swapped-all true true x y = ap Ok (swapped x y)
swapped-all true false x y = refl
swapped-all false true x y = refl
swapped-all false false x y = refl

carried-all : (t u v : Bool) (x y z : ℤ) → is_le (answered t u x y) ≡ true → is_le (answered u v y z) ≡ true → is_le (answered t v x z) ≡ true
carried-all true true true x y z h k = carried x y z h k
carried-all true true false x y z h k = absurd (cc)
carried-all true false v x y z h k = absurd (cc)
carried-all false u v x y z h k = absurd (cc)

changed-all : (t u : Bool) (x y : ℤ) → answered t u (neg_ℤ x) (neg_ℤ y) ≡ reversed (answered t u x y)
changed-all true true x y = ap Ok (signs-changed x y)
changed-all true false x y = refl
changed-all false u x y = refl

alike_all : (t u v : Bool) (x y z : ℤ) → answered t u x y ≡ Ok Equal → answered t v x z ≡ answered u v y z
alike_all true true v x y z h = let e : order_z x y ≡ Equal = cc in rw (equal-same x y e)
alike_all true false v x y z h = absurd (cc)
alike_all false u v x y z h = absurd (cc)

one-of : (o : Ordering) → ExactlyOne (◌≡◌ {A = Result Ordering Refusal} (Ok o) (Ok Less)) (◌≡◌ {A = Result Ordering Refusal} (Ok o) (Ok Equal)) (◌≡◌ {A = Result Ordering Refusal} (Ok o) (Ok Greater))
one-of Less = first refl (λ e. cc) (λ e. cc)
one-of Equal = second (λ e. cc) refl (λ e. cc)
one-of Greater = third (λ e. cc) (λ e. cc) refl

-- ---- the laws
pub swaps : Swaps
unfolding compared
swaps a b r s h k = rw (the-answer a b r h, the-answer b a s k) (swapped-all (is_well a) (is_well b) (value a) (value b))

pub carries : Carries
unfolding compared
carries a b c r s t h k l p q =
    let i : is_le (compared a b) ≡ true = rw (the-answer a b r h) at p in
    let j : is_le (compared b c) ≡ true = rw (the-answer b c s k) at q in
    rw (the-answer a c t l) (carried-all (is_well a) (is_well b) (is_well c) (value a) (value b) (value c) i j)

pub one_holds : OneHolds
unfolding compared
one_holds a b r w v h = rw (the-answer a b r h, w, v) (one-of (order_z (value a) (value b)))

pub reverses : Reverses
unfolding compared
reverses a b r s m n h k =
    rw (the-answer a b r h, the-answer (negated a) (negated b) s k, negated-well a, negated-well b, negated-value a m, negated-value b n)
    (changed-all (is_well a) (is_well b) (value a) (value b))

pub equal-prints : EqualPrints
unfolding compared
equal-prints a b r xs ys m n h p q =
    let s = prints-text a xs p in
    let t = prints-text b ys q in
    let u : IsDecimal a = record { nine = m; well = s.0 } in
    let v : IsDecimal b = record { nine = n; well = t.0 } in
    let o : r ≡ Ok (order_z (value a) (value b)) = the-answer a b r h ∙ rw (s.0, t.0) in
    rw (s.1, t.1) (
      λ (e : r ≡ Ok Equal). same-plain a b u v (equal-same (value a) (value b) (cc)),
      λ (e : plain (printed a) ≡ plain (printed b)). o ∙ rw (plain_value a b u v e, same-equal (value b)),
    )

-- ---- what follows
pub itself : Itself
unfolding compared
itself a r w h = the-answer a a r h ∙ rw (w, same-equal (value a))

-- less or equal, and not so the other way
strict : (t : Result Ordering Refusal) → is_le t ≡ true → (is_le (reversed t) ≡ true → ⊥) → t ≡ Ok Less
strict (Ok Less) e f = refl
strict (Ok Equal) e f = absurd (f refl)
strict (Ok Greater) e f = absurd (cc)
strict (Err n) e f = absurd (cc)

not_back : (t : Result Ordering Refusal) → t ≡ Ok Less → is_le (reversed t) ≡ true → ⊥
not_back t e f = let g : is_le (reversed (Ok Less)) ≡ true = rw e at f in cc

-- Were the third at most the first, then by `carries` the second were, or the third at most the second.
module _ (a b c : Decimal) (r s t : Result Ordering Refusal) (h : Compares a b r) (k : Compares b c s) (l : Compares a c t) where
  third-first : is_le (reversed t) ≡ true → is_le (compared c a) ≡ true
  third-first f = ap is_le (swaps a c t (compared c a) l (compares c a)) ∙ f

  second-first : is_le s ≡ true → is_le (reversed t) ≡ true → is_le (reversed r) ≡ true
  second-first q f =
      ap is_le (sym (swaps a b r (compared b a) h (compares b a)))
      ∙ carries b c a s (compared c a) (compared b a) k (compares c a) (compares b a) q (third-first f)

  third-second : is_le r ≡ true → is_le (reversed t) ≡ true → is_le (reversed s) ≡ true
  third-second p f =
      ap is_le (sym (swaps b c s (compared c b) k (compares c b)))
      ∙ carries c a b (compared c a) r (compared c b) (compares c a) h (compares c b) (third-first f) p

pub less-carries : LessCarries
less-carries a b c r s t h k l = (
  λ p q. strict t (carries a b c r s t h k l (ap is_le p) q) (λ f. not_back r p (second-first a b c r s t h k l q f)),
  λ p q. strict t (carries a b c r s t h k l p (ap is_le q)) (λ f. not_back s q (third-second a b c r s t h k l p f)),
)

pub equal-alike : EqualAlike
unfolding compared
equal-alike a b c r s t h k l e =
    the-answer a c s k
    ∙ alike_all (is_well a) (is_well b) (is_well c) (value a) (value b) (value c) (sym (the-answer a b r h) ∙ e)
    ∙ sym (the-answer b c t l)
