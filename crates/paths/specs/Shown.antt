-- What a walk answers and leaves: of all paths in order those before the first fault, as far as there is room; their events at the front of the lent
-- list, and the rest of the list as it was.
-- Assumes nothing.
use Rattle.std.specs.Prelude.{ℕ, zero, suc, ◌+◌, ◌≡◌, List, [], ◌∷◌, ◌++◌, length, drop}
use Rattle.events.specs.Walked.{Walked, Done, Stopped}
use Rattle.events.specs.Events.{numbers}
use Rattle.events.specs.Listing.{Listing, end, fault, event}
use Rattle.events.specs.Lay.{room}
use Rattle.paths.specs.Paths.{paths, scan}

-- a listing with room for so many events: 12 at the first that finds none
unfoldable pub cut : Listing → ℕ → Listing
cut end k = end
cut (fault r p) k = fault r p
cut (event e p l) zero = fault 12 p
cut (event e p l) (suc k) = event e p (cut l k)

-- its numbers, one event after the other
unfoldable pub flat : Listing → List ℕ
flat end = []
flat (fault r p) = []
flat (event e p l) = numbers e ++ flat l

-- an answer by document 01's number and values
pub record Answer : Type 0 where
  pub number : ℕ
  pub values : List ℕ

abbrev pub answered : ℕ → List ℕ → Answer
answered f vs = record { number = f; values = vs }

-- the cases of the walk's answer: 0 and the count, or the refusal's number, its place and the count
abbrev pub told : Walked → Answer
told (Done n) = answered 0 (n ∷ [])
told (Stopped f p n) = answered f (p ∷ n ∷ [])

-- how a listing ends, after n events before it
unfoldable pub ends : Listing → ℕ → Answer
ends end n = answered 0 (n ∷ [])
ends (fault f p) n = answered f (p ∷ n ∷ [])
ends (event e p l) n = ends l (n + 1)

-- what is left of a list that a listing was written over
unfoldable pub over : Listing → List ℕ → List ℕ
over l out = flat l ++ drop (length (flat l)) out

-- what is shown of a document in so much room
unfoldable pub shown : List ℕ → ℕ → Listing
shown d k = cut (scan d (paths d) (paths d)) k

-- the promise of the walk: its answer, and what it leaves in the lent list. Room is the list's length divided by nine, rounded down, at most 4,294,967,295
pub record Walks (d out : List ℕ) (r : Walked) (left : List ℕ) : Type 0 where
  pub answer : told r ≡ ends (shown d (room out)) 0
  pub leaves : left ≡ over (shown d (room out)) out
