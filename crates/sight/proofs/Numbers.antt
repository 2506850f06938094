-- What a number shows, whatever number it is. Assumes nothing but what each law names.
use mathlib.Core.Path.{◌≡◌, refl, sym, ap, ◌∙◌}
use mathlib.Core.Bool.{Bool, true, false, cond}
use Prim.Native.Nat.{ℕ, ◌-◌, ◌≤◌}
use native.Mathlib.Omega.{arith}
use lib.Dec.{ltb}
use borrow.Author.Tests.{ne_eqb}
use Rattle.std.specs.Prelude.{Ok, Err}
use Rattle.refusal.specs.declared.Refusal.TheVariants as refusal
use Rattle.codes.specs.Types.{code_of as type_code}
use Rattle.codes.specs.declared.types.JsonbType.{JsonbType}
use Rattle.value.specs.declared.Number.{Number}
use Rattle.value.specs.declared.Span.{Span}
use Rattle.value.specs.declared.Scalar.TheVariants as scalar
use Rattle.content.specs.Reading.{scalar_of, number_at}
use Rattle.events.specs.Events.{span, bytes_of, bytes_from}
use Rattle.sight.specs.Sights.{sight, sight_of}
use Rattle.sight.specs.Course.{front, plain}

-- no value starts at the document's first byte
pub bytes_some : (t : JsonbType) (i : ℕ) → 1 ≤ i → bytes_from t i ≡ span i (bytes_of t)
unfolding bytes_from
bytes_some t i h = ap (λ (b : Bool). cond b (span 0 0) (span i (bytes_of t))) (ne_eqb i 0 (λ e. absurd (omega arith)))

pub number_shown : (t : JsonbType) (w i e : ℕ) (x : Number) → w ≡ bytes_of t → 1 ≤ i → sight_of (number_at t w i e x) i ≡ plain t (front i e w)
unfolding number_at front
number_shown t w i e x q h = go (ltb (e - i) w)
  where
    go : (b : Bool) → sight_of (cond b (Err refusal.Cut) (scalar_of t (scalar.Number x))) i ≡ plain t (cond b (Err refusal.Cut) (Ok (span i w)))
    go true = refl
    go false = ap (λ (s : Span). Ok (sight (type_code t) s 0)) (bytes_some t i h ∙ ap (span i) (sym q))
