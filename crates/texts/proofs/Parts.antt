-- What the check of a part's bytes says of the part.
-- Assumes nothing.
use mathlib.Core.Path.{◌≡◌, refl, sym, ap, ◌∙◌}
use mathlib.Core.Bool.{Bool, cond}
use mathlib.Core.List.{List}
use Prim.Native.Nat.{ℕ, ◌+◌, ◌-◌, ◌≤◌, ◌<◌}
use native.Mathlib.Omega.{arith}
use lib.ListN.{length, take, drop, length-take, length-drop}
use borrow.Author.Tests.{le-ltb, lt-ltb}
use Rattle.std.specs.Prelude.{Result, Ok, Err, ⊤}
use Rattle.rfc3629.specs.Machine.{Verdict, ok, bad, run, verdict, verdict_from, plus}
use Rattle.rfc3629.proofs.Counted.{counted}
use Rattle.utf8.specs.Answer.{Tells, Check, answer as check_answer, checked}
use Rattle.utf8.specs.declared.Utf8Error.{Utf8Error}
use Rattle.utf8.proofs.Answers.{breaks-within}
use Rattle.value.specs.declared.Span.{Span}
use Rattle.events.specs.Events.{no_key}
use Rattle.events.specs.Text.{bytes, answer, text_at}

-- the answer of bytes that start at a place, by that of their check
abbrev from_check : ℕ → Check → Result ⊤ ℕ
from_check start (Ok u) = Ok _
from_check start (Err e) = Err (start + e.place)

module _ (d : List ℕ) (s : Span) where
  abbrev end : ℕ
  end = s.start + s.len

  pub outside : length d < end → Err s.start ≡ text_at d s
  unfolding text_at
  outside h = ap (λ (b : Bool). cond b (Err s.start) (answer (verdict_from s.start (bytes d s)))) (sym (lt-ltb (length d) end h))

  module _ (h : end ≤ length d) {r : Check} (re : r ≡ checked (take (end - s.start) (drop s.start d))) where
    pub inside : from_check s.start r ≡ text_at d s
    unfolding text_at
    inside =
        let n : end - s.start ≡ s.len = omega arith in
        ap (from_check s.start) (re ∙ ap (λ (k : ℕ). checked (take k (drop s.start d))) n)
        ∙ by (verdict (bytes d s))
        ∙ ap answer (sym (counted s.start (bytes d s)))
        ∙ ap (λ (b : Bool). cond b (Err s.start) (answer (verdict_from s.start (bytes d s)))) (sym (le-ltb (length d) end h))
      where
        by : (v : Verdict) → from_check s.start (check_answer v) ≡ answer (plus s.start v)
        by ok = refl
        by (bad p) = refl

-- a break of bytes is no further than they are long
pub near : (bs : List ℕ) (e : Utf8Error) {r : Check} → r ≡ Err e → Tells bs r → e.place ≤ length bs
near bs e q t = breaks-within ((t.broken e.place).0 q)

pub length_taken : (n i : ℕ) (d : List ℕ) → length (take n (drop i d)) ≤ length d
length_taken n i d = omega (arith, length-take n (drop i d), length-drop i d)

-- ---- no bytes are text
pub no-key-text : (d : List ℕ) → text_at d no_key ≡ Ok _
unfolding text_at run
no-key-text d = ap (λ (b : Bool). cond b (Err 0) (answer (verdict_from 0 (bytes d no_key)))) (le-ltb (length d) 0 (omega arith))
