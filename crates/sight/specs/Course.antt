-- The parts of a sight, and what a walk may rely on; no public promise rests on it.
-- Assumes nothing.
use Rattle.std.specs.Prelude.{ℕ, ◌-◌, ◌≤◌, ◌<◌, ◌≡◌, cond, List, ltb, eqb, length, Result, Ok, Err}
use Rattle.refusal.specs.declared.Refusal.{Refusal}
use Rattle.refusal.specs.declared.Refusal.TheVariants as refusal
use Rattle.refusal.specs.Refusals.{number_of}
use Rattle.codes.specs.Types.{code_of as type_code}
use Rattle.codes.specs.declared.types.JsonbType.{JsonbType}
use Rattle.layout.specs.Layout.{header_size}
use Rattle.value.specs.declared.Span.{Span}
use Rattle.value.specs.declared.View.{View}
use Rattle.value.specs.declared.Scalar.{Scalar}
use Rattle.value.specs.declared.Value.{Value}
use Rattle.value.specs.declared.Value.TheVariants as value
use Rattle.header.specs.Headers.{then}
use Rattle.entry.specs.Entries.{end_of}
use Rattle.events.specs.Events.{span, scalar_part}
use Rattle.events.specs.Text.{text_at, scalar_text}
use Rattle.sight.specs.Sights.{sight}
use Rattle.sight.specs.declared.Sight.{Sight}

-- so many bytes from a place on, up to an end
unfoldable pub front : ℕ → ℕ → ℕ → Result Span Refusal
front i e w = cond (ltb (e - i) w) (Err refusal.Cut) (Ok (span i w))

-- what shows nothing but its bytes
abbrev pub plain : JsonbType → Result Span Refusal → Result Sight Refusal
plain t r = then r (λ s. Ok (sight (type_code t) s 0))

-- a scalar's code is none of a container's, and the code of strings alone says that the bytes are text
abbrev pub SoundScalar : JsonbType → Scalar → Type 0
SoundScalar t s = (3 < type_code t) × ((d : List ℕ) (from : ℕ) → cond (eqb (type_code t) 12) (text_at d (scalar_part t s from)) (Ok _) ≡ scalar_text d s)

abbrev pub SoundValue : Value → Type 0
SoundValue (value.Scalar t s) = SoundScalar t s
SoundValue (value.Container v) = Unit {0}

-- a refusal's number is not 0, and is below 16
abbrev pub Numbered : ℕ → Type 0
Numbered n = (1 ≤ n) × (n < 16)

abbrev pub Sound : Result Value Refusal → Type 0
Sound (Ok x) = SoundValue x
Sound (Err r) = Numbered (number_of r)

-- a container that the document has, with its header
pub record Fit (d : List ℕ) (v : View) : Type 0 where
  pub short : length d ≤ 16777216
  pub inside : end_of v ≤ length d
  pub header : header_size v.kind v.count ≤ v.size
