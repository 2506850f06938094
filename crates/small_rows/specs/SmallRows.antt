-- Keys, counts and ends of walks as numbers: what is said of a thing, of nothing, or a refusal's number alone.
-- Assumes nothing.
use Rattle.std.specs.Prelude.{ℕ, List, [], ◌∷◌}
use Rattle.refusal.specs.Told.{Told, answer, refusal}
use Rattle.lent.specs.Layout.{low}
use Rattle.value.specs.declared.Span.{Span}
use Rattle.gate.specs.Said.{Said, says, nothing, refuses}
use Rattle.events.specs.Walked.{Walked, Done, Stopped}

abbrev pub told_by : {A : Type 0} → (A → List ℕ) → List ℕ → Said A → Told
told_by f none (says x) = answer (f x)
told_by f none nothing = answer none
told_by f none (refuses n) = refusal n

-- a key: 1, its start and its length; 0 0 0 for nothing
abbrev pub key_numbers : Span → List ℕ
key_numbers s = 1 ∷ s.start ∷ s.len ∷ []

abbrev pub key_told : Said Span → Told
key_told x = told_by key_numbers (0 ∷ 0 ∷ 0 ∷ []) x

abbrev pub count_told : Said ℕ → Told
count_told x = told_by (λ n. n ∷ []) (0 ∷ []) x

-- how a walk ended: the count of events and the place of the fault, which is 0 where there is none; so it is told of a refusal too
abbrev pub walked_told : Walked → Told
walked_told (Done n) = answer (low n ∷ 0 ∷ [])
walked_told (Stopped f p n) = record { number = f; values = low n ∷ low p ∷ [] }
