-- The test of text says Ok exactly of what lies in the document and is UTF-8 by RFC 3629's grammar, and of what lies there and is not it tells where it
-- breaks.
-- Assumes nothing.
use mathlib.Core.Path.{◌≡◌, refl, sym, ap, ◌∙◌, subst}
use mathlib.Core.Bool.{Bool, true, false, cond}
use mathlib.Core.Logic.{◌↔◌}
use mathlib.Core.List.{List}
use Prim.Native.Nat.{ℕ, ◌+◌, ◌-◌, ◌≤◌}
use native.Mathlib.Omega.{arith}
use lib.Dec.{ltb}
use lib.ListN.{length}
use borrow.Author.Tests.{ltb-false, le-ltb}
use Rattle.rfc3629.specs.Machine.{verdict_from}
use Rattle.rfc3629.specs.Machine.{Verdict, ok, bad, verdict, plus}
use Rattle.rfc3629.proofs.Grammar.{valid}
use Rattle.rfc3629.proofs.Place.{broken}
use Rattle.rfc3629.proofs.Counted.{counted}
use Rattle.std.specs.Prelude.{Result, Ok, Err, ⊤}
use Rattle.codes.specs.declared.types.JsonbType.{JsonbType}
use Rattle.value.specs.declared.Span.{Span}
use Rattle.value.specs.declared.Scalar.{Scalar}
use Rattle.value.specs.declared.Scalar.TheVariants as scalar
use Rattle.value.specs.declared.Value.{Value}
use Rattle.value.specs.declared.Value.TheVariants as value
use Rattle.events.specs.Text.{bytes, answer, text_at, scalar_text, value_text}
use Rattle.walk_laws.specs.Promise.{IsUtf8, ScalarUtf8, ValueUtf8, BreaksAt, ValueBreaks, TextTest}
use Rattle.walk_laws.proofs.Breaks.{to-document, to_part}

-- ---- verdicts
plus_ok : (k : ℕ) (v : Verdict) → answer (plus k v) ≡ Ok _ → v ≡ ok
plus_ok k ok e = refl
plus_ok k (bad p) e = cc

-- a place that was counted from k
pub record Counted (k : ℕ) (v : Verdict) (p : ℕ) : Type 0 where
  pub own : ℕ
  pub is : v ≡ bad own
  pub place : k + own ≡ p

plus_bad : (k : ℕ) (v : Verdict) {p : ℕ} → answer (plus k v) ≡ Err p → Counted k v p
plus_bad k ok e = cc
plus_bad k (bad q) {p} e = let z : k + q ≡ p = cc in record { own = q; is = refl; place = z }

module _ (d : List ℕ) (s : Span) where
  abbrev said : Bool → Result ⊤ ℕ
  said b = cond b (Err s.start) (answer (verdict_from s.start (bytes d s)))

  -- of a part that lies in the document
  inside-text : s.start + s.len ≤ length d → text_at d s ≡ answer (plus s.start (verdict (bytes d s)))
  unfolding text_at
  inside-text h = ap said (le-ltb (length d) (s.start + s.len) h) ∙ ap answer (counted s.start (bytes d s))

  valid-so : text_at d s ≡ Ok _ → IsUtf8 d s
  unfolding text_at
  valid-so e = go (ltb (length d) (s.start + s.len)) refl e
    where
      go : (b : Bool) → ltb (length d) (s.start + s.len) ≡ b → said b ≡ Ok _ → IsUtf8 d s
      go true p q = cc
      go false p q =
          record {
            inside = ltb-false (length d) (s.start + s.len) p;
            octets = (valid (bytes d s)).0 (plus_ok s.start (verdict (bytes d s)) (sym (ap answer (counted s.start (bytes d s))) ∙ q));
          }

  so-valid : IsUtf8 d s → text_at d s ≡ Ok _
  so-valid u = inside-text u.inside ∙ ap (λ (v : Verdict). answer (plus s.start v)) ((valid (bytes d s)).1 u.octets)

  module _ (p : ℕ) (h : s.start + s.len ≤ length d) where
    breaks-so : text_at d s ≡ Err p → BreaksAt d s p
    breaks-so e =
        let c = plus_bad s.start (verdict (bytes d s)) (sym (inside-text h) ∙ e) in
        subst (BreaksAt d s) c.place (to-document d s h ((broken (bytes d s) c.own).0 c.is))

    so-breaks : BreaksAt d s p → text_at d s ≡ Err p
    so-breaks b =
        let o = b.order in
        let e : s.start + (p - s.start) ≡ p = omega arith in
        inside-text h ∙ ap (λ (v : Verdict). answer (plus s.start v)) ((broken (bytes d s) (p - s.start)).1 (to_part d s h b)) ∙ ap (λ (q : ℕ). Err q) e

pub text-test : TextTest
text-test = record { valid = λ d s. (valid-so d s, so-valid d s); breaks = λ d s p h. (breaks-so d s p h, so-breaks d s p h) }

-- ---- values
scalar-test : (d : List ℕ) (s : Scalar) → (scalar_text d s ≡ Ok _) ↔ ScalarUtf8 d s
scalar-test d scalar.Null = (λ e. tt, λ u. refl)
scalar-test d (scalar.Boolean b) = (λ e. tt, λ u. refl)
scalar-test d (scalar.Number x) = (λ e. tt, λ u. refl)
scalar-test d (scalar.String s) = text-test.valid d s
scalar-test d (scalar.Opaque c s) = (λ e. tt, λ u. refl)

pub value-test : (d : List ℕ) (x : Value) → (value_text d x ≡ Ok _) ↔ ValueUtf8 d x
value-test d (value.Scalar t s) = scalar-test d s
value-test d (value.Container v) = (λ e. tt, λ u. refl)

-- a value whose text breaks is a string, which lies in the document
pub value-breaks : (d : List ℕ) (y : Value) (p : ℕ) → ((t : JsonbType) (x : Span) → y ≡ value.Scalar t (scalar.String x) → x.start + x.len ≤ length d) →
    value_text d y ≡ Err p → ValueBreaks d y p
value-breaks d (value.Scalar t scalar.Null) p h e = cc
value-breaks d (value.Scalar t (scalar.Boolean b)) p h e = cc
value-breaks d (value.Scalar t (scalar.Number x)) p h e = cc
value-breaks d (value.Scalar t (scalar.String s)) p h e = (text-test.breaks d s p (h t s refl)).0 e
value-breaks d (value.Scalar t (scalar.Opaque c s)) p h e = cc
value-breaks d (value.Container v) p h e = cc

pub breaks-value : (d : List ℕ) (y : Value) (p : ℕ) → ValueBreaks d y p → value_text d y ≡ Err p
breaks-value d (value.Scalar t scalar.Null) p b = absurd b
breaks-value d (value.Scalar t (scalar.Boolean x)) p b = absurd b
breaks-value d (value.Scalar t (scalar.Number x)) p b = absurd b
breaks-value d (value.Scalar t (scalar.String s)) p b = (text-test.breaks d s p b.inside).1 b
breaks-value d (value.Scalar t (scalar.Opaque c s)) p b = absurd b
breaks-value d (value.Container v) p b = absurd b
