-- What was tested, and need not be tested again: the key and the string of the last event. No public promise rests on it.
-- Assumes nothing.
use Rattle.std.specs.Prelude.{ℕ, ◌+◌, ◌*◌, ◌-◌, ◌≤◌, ◌≡◌, List, length, get_or, Option, Some, None, Ok}
use Rattle.value.specs.declared.View.{View}
use Rattle.events.specs.Events.{span, wide}
use Rattle.events.specs.Text.{text_at}
use Rattle.events.specs.Lay.{room}
use Rattle.sight.specs.Course.{Fit}

-- what the last of n events shows was tested: its key, and its value where that is a string; there was room for it, and it lies within the list
pub record Last (d out : List ℕ) (n : ℕ) : Type 0 where
  pub some : 1 ≤ n
  pub fits : n ≤ room out
  pub inside : wide * n ≤ length out
  pub key : text_at d (span (get_or out (wide * n - wide + 3) 0) (get_or out (wide * n - wide + 4) 0)) ≡ Ok _
  pub text : get_or out (wide * n - wide) 0 ≡ 12 → text_at d (span (get_or out (wide * n - wide + 5) 0) (get_or out (wide * n - wide + 6) 0)) ≡ Ok _

-- a container that a value leads to fits the document
abbrev pub Fits : List ℕ → Option View → Type 0
Fits d (Some u) = Fit d u
Fits d None = Unit {0}
