-- When a value lies between two places of the document: a container with its header, or the bytes of a string or an opaque value, do.
-- Assumes nothing.
use Rattle.std.specs.Prelude.{ℕ, ◌+◌, ◌≤◌}
use Rattle.layout.specs.Layout.{header_size}
use Rattle.value.specs.declared.View.{View}
use Rattle.value.specs.declared.Span.{Span}
use Rattle.value.specs.declared.Scalar.{Scalar}
use Rattle.value.specs.declared.Scalar.TheVariants as scalar
use Rattle.value.specs.declared.Value.{Value}
use Rattle.value.specs.declared.Value.TheVariants as value

pub record Holds (lo hi : ℕ) (v : View) : Type 0 where
  pub low : lo ≤ v.start
  pub high : v.start + v.size ≤ hi
  pub header : header_size v.kind v.count ≤ v.size

pub record Spans (lo hi : ℕ) (s : Span) : Type 0 where
  pub low : lo ≤ s.start
  pub high : s.start + s.len ≤ hi

-- other scalars have no place
abbrev pub ScalarInside : ℕ → ℕ → Scalar → Type 0
ScalarInside lo hi scalar.Null = Unit {0}
ScalarInside lo hi (scalar.Boolean b) = Unit {0}
ScalarInside lo hi (scalar.Number x) = Unit {0}
ScalarInside lo hi (scalar.String s) = Spans lo hi s
ScalarInside lo hi (scalar.Opaque t s) = Spans lo hi s

abbrev pub Inside : ℕ → ℕ → Value → Type 0
Inside lo hi (value.Scalar t s) = ScalarInside lo hi s
Inside lo hi (value.Container v) = Holds lo hi v
