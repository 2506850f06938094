-- What is told of a length field gives it back, so two answers that `length_at` may give are equal.
-- Assumes nothing.
use mathlib.Core.Path.{◌≡◌, refl}
use Rattle.std.specs.Prelude.{Result, get_or, List, ℕ}
use Rattle.refusal.specs.Told.{Told}
use Rattle.refusal.specs.declared.Refusal.{Refusal}
use Rattle.refusal.proofs.Answers.{told-answer}
use Rattle.length_field.specs.Length.{told}
use Rattle.length_field.specs.declared.Length.{Length}

length-by : List ℕ → Length
length-by ns = record { length = get_or ns 0 0; next = get_or ns 1 0 }

pub length-answer : (d : Told) (r s : Result Length Refusal) → told r ≡ d → told s ≡ d → r ≡ s
unfolding length-by
length-answer d r s p q = told-answer _ length-by (λ x. refl) d r s p q
