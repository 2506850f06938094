-- A view by its numbers, and how a walk ended as numbers.
-- Assumes nothing.
use Rattle.std.specs.Prelude.{ℕ, ◌%◌, false, cond, List, [], ◌∷◌, ltb, eqb}
use Rattle.refusal.specs.Told.{Told}
use Rattle.layout.specs.declared.Kind.{Kind}
use Rattle.value.specs.declared.View.{View}
use Rattle.content.specs.Reading.{kind, view}
use Rattle.events.specs.Lay.{room}
use Rattle.paths.specs.Shown.{Answer, ends, shown, over}

-- ---- a view by its numbers: the type code says its kind, 0 small object, 1 large object, 2 small array, 3 large array. Any other code is no
-- container's, and gives a view that no document within the limit has: 1, then 13
unfoldable pub kind_by : ℕ → Kind
kind_by c = kind (ltb c 2) (eqb (c % 2) 1)

abbrev pub nowhere : View
nowhere = view 4294967295 0 0 (kind false false)

unfoldable pub view_by : ℕ → ℕ → ℕ → ℕ → View
view_by c start size count = cond (ltb 3 c) nowhere (view start size count (kind_by c))

-- ---- a walk: the count of events and the place of the fault, which is 0 where there is none; so it is told of a refusal too
abbrev pub ending : List ℕ → List ℕ
ending [] = []
ending (n ∷ []) = n ∷ 0 ∷ []
ending (p ∷ n ∷ vs) = n ∷ p ∷ []

abbrev pub end_told : Answer → Told
end_told a = record { number = a.number; values = ending a.values }

unfoldable pub walk_told : List ℕ → List ℕ → Told
walk_told d events = end_told (ends (shown d (room events)) 0)

unfoldable pub walk_leaves : List ℕ → List ℕ → List ℕ
walk_leaves d events = over (shown d (room events)) events
