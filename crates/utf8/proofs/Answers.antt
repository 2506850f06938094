-- The machine and the grammar agree, and an answer is a verdict by other names: so what `checked` answers tells. Two answers that tell are one. Counted from
-- elsewhere, a verdict's place moves and nothing else, and so does an answer's.
-- Assumes nothing.
use Prim.Native.Nat.{ℕ, ◌+◌, ◌≤◌}
use mathlib.Core.Path.{◌≡◌, refl, sym, ap, ◌∙◌, subst}
use mathlib.Core.List.{List, ◌++◌}
use native.Mathlib.Omega.{arith}
use lib.ListN.{length, length-append}
use Rattle.rfc3629.specs.Grammar.{Utf8, Breaks}
use Rattle.rfc3629.specs.Machine.{Verdict, ok, bad, verdict, verdict_from, plus}
use Rattle.rfc3629.proofs.Grammar as grammar
use Rattle.rfc3629.proofs.Place as place
use Rattle.rfc3629.proofs.Counted.{counted}
use Rattle.std.specs.Prelude.{Ok, Err}
use Rattle.utf8.specs.Answer.{Check, good, bad_at, Tells, answer, checked, counted_from}

-- an answer names its verdict
named : Check → Verdict
named (Ok u) = ok
named (Err e) = bad e.place

back : (v : Verdict) → named (answer v) ≡ v
unfolding named
back ok = refl
back (bad p) = refl

same : (v w : Verdict) → answer v ≡ answer w → v ≡ w
same v w e = sym (back v) ∙ ap named e ∙ back w

-- the test answers Ok exactly for UTF-8
pub valid : (s : List ℕ) → (checked s ≡ good → Utf8 s) × (Utf8 s → checked s ≡ good)
valid s = (λ e. (grammar.valid s).0 (same (verdict s) ok e), λ u. ap answer ((grammar.valid s).1 u))

-- and a break at p exactly for what breaks at p
pub broken : (s : List ℕ) (p : ℕ) → (checked s ≡ bad_at p → Breaks s p) × (Breaks s p → checked s ≡ bad_at p)
broken s p = (λ e. (place.broken s p).0 (same (verdict s) (bad p) e), λ b. ap answer ((place.broken s p).1 b))

pub tells : (s : List ℕ) → Tells s (checked s)
tells s = record { valid = valid s; broken = broken s }

-- two answers that tell of the same bytes are equal
pub one_answer : {s : List ℕ} (r q : Check) → Tells s r → Tells s q → r ≡ q
one_answer (Ok u) q t w = sym (w.valid.1 (t.valid.0 refl))
one_answer (Err e) q t w = sym ((w.broken e.place).1 ((t.broken e.place).0 refl))

-- what utf8_check promises follows from the verdict
pub told : {s : List ℕ} (r : Check) → r ≡ checked s → Tells s r
told {s} r e = subst (Tells s) (sym e) (tells s)

-- ---- the place shifts with the start
pub shifted : (k : ℕ) (s : List ℕ) → answer (verdict_from k s) ≡ counted_from k (checked s)
shifted k s = ap answer (counted k s) ∙ go (verdict s)
  where
    go : (v : Verdict) → answer (plus k v) ≡ counted_from k (answer v)
    go ok = refl
    go (bad p) = refl

-- bytes break at one of them or at their end
pub breaks-within : {s : List ℕ} {p : ℕ} → Breaks s p → p ≤ length s
breaks-within {s} {p} b =
    let e : length s ≡ length (b.before ++ (b.begun ++ b.rest)) = ap length b.split in
    let f : length (b.before ++ (b.begun ++ b.rest)) ≡ length b.before + length (b.begun ++ b.rest) =
    length-append b.before (b.begun ++ b.rest) in
    let g : length (b.begun ++ b.rest) ≡ length b.begun + length b.rest = length-append b.begun b.rest in
    omega (arith, b.place)
