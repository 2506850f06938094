-- What utf8_check answers. `Tells` is the promise, by the grammar of RFC 3629, section 4; `checked` is the same as a function, the machine's verdict.
-- Assumes nothing.
use Rattle.std.specs.Prelude.{ℕ, ◌+◌, ◌≡◌, List, Result, Ok, Err}
use Rattle.rfc3629.specs.Grammar.{Utf8, Breaks}
use Rattle.rfc3629.specs.Machine.{Verdict, ok, bad, verdict}
use Rattle.utf8.specs.declared.Utf8Error.{Utf8Error}

-- an answer: all is UTF-8, or it breaks at a place
abbrev pub Check : Type 0
Check = Result (Unit {0}) Utf8Error

abbrev pub good : Check
good = Ok tt

abbrev pub bad_at : ℕ → Check
bad_at p = Err (record { place = p })

-- The answer r tells of s: Ok exactly if s is UTF-8, and a break at p exactly if s breaks at p.
pub record Tells (s : List ℕ) (r : Check) : Type 0 where
  pub valid : (r ≡ good → Utf8 s) × (Utf8 s → r ≡ good)
  pub broken : (p : ℕ) → (r ≡ bad_at p → Breaks s p) × (Breaks s p → r ≡ bad_at p)

-- a verdict as an answer
abbrev pub answer : Verdict → Check
answer ok = good
answer (bad p) = bad_at p

abbrev pub checked : List ℕ → Check
checked s = answer (verdict s)

-- an answer about bytes that start at k, with its place counted from where k is
abbrev pub counted_from : ℕ → Check → Check
counted_from k (Ok u) = Ok u
counted_from k (Err e) = bad_at (k + e.place)
