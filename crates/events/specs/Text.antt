-- Keys and strings must be UTF-8 (RFC 3629; document 01, refusal 9), and where one is not, the byte at which it breaks is told: the first that cannot begin or
-- continue a character, counted from the document's first byte (document 02, W5). A part that the document has not breaks where it starts.
-- Assumes nothing.
use Rattle.std.specs.Prelude.{ℕ, ◌+◌, cond, List, ltb, length, take, drop, Result, Ok, Err, ⊤}
use Rattle.rfc3629.specs.Machine.{Verdict, ok, bad, verdict_from}
use Rattle.value.specs.declared.Span.{Span}
use Rattle.value.specs.declared.Scalar.{Scalar}
use Rattle.value.specs.declared.Scalar.TheVariants as scalar
use Rattle.value.specs.declared.Value.{Value}
use Rattle.value.specs.declared.Value.TheVariants as value

-- the bytes of a part
abbrev pub bytes : List ℕ → Span → List ℕ
bytes d s = take s.len (drop s.start d)

-- a verdict as what a test answers: nothing, or where the text breaks
abbrev pub answer : Verdict → Result ⊤ ℕ
answer ok = Ok _
answer (bad p) = Err p

-- what is said of a part: its bytes' verdict, with places counted from where it starts
unfoldable pub text_at : List ℕ → Span → Result ⊤ ℕ
text_at d s = cond (ltb (length d) (s.start + s.len)) (Err s.start) (answer (verdict_from s.start (bytes d s)))

-- of values, strings alone are text
abbrev pub scalar_text : List ℕ → Scalar → Result ⊤ ℕ
scalar_text d scalar.Null = Ok _
scalar_text d (scalar.Boolean b) = Ok _
scalar_text d (scalar.Number x) = Ok _
scalar_text d (scalar.String s) = text_at d s
scalar_text d (scalar.Opaque c s) = Ok _

abbrev pub value_text : List ℕ → Value → Result ⊤ ℕ
value_text d (value.Scalar t s) = scalar_text d s
value_text d (value.Container v) = Ok _
