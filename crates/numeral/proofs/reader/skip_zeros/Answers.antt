-- A text of one character or none has no zero to remove.
-- Assumes nothing.
use Rattle.std.proofs.Common.{◌≡◌, ◌<◌, List, [], ◌∷◌, ℕ, length, arith, sym, ◌∙◌, refl}
use Rattle.numeral.specs.Read.{strip}
use Rattle.numeral.proofs.reader.skip_zeros.Goals as goal

strip-short : (xs : List ℕ) → length xs < 2 → strip xs ≡ xs
unfolding strip
strip-short [] h = refl
strip-short (x ∷ []) h = refl
strip-short (x ∷ y ∷ xs) h = absurd (omega arith)

pub returns-in_default : goal.returns-in_default
returns-in_default c = sym (strip-short c.loop-rest.rest.now (omega arith)) ∙ c.loop-rest.invariant
