-- The number that digits of a text write: one digit more, and how large it is; groups of nine digits, stored one after another.
-- Assumes nothing.
use mathlib.Core.Path.{◌≡◌, refl, ◌∙◌}
use mathlib.Core.Logic.{⊎_elim}
use mathlib.Core.List.{List, map, map-append}
use Prim.Native.Nat.{ℕ, ◌+◌, ◌-◌, ◌*◌, ◌^◌, ◌≤◌, ◌<◌}
use native.Mathlib.Nat.{pow-suc, pow-le-pow_right, lt_of_lt_of_le, eq-or-lt_of_le}
use native.Mathlib.Numerals.{add-one}
use native.Mathlib.Omega.{arith}
use lib.Dec.{lit<}
use lib.ListN.{length, get_or, take, set, length-set}
use lib.Seq.{take-suc, get_or-set_same, get_or-set_other}
use Rattle.groups.specs.Numbers.{number}
use Rattle.groups.proofs.Radix.{number-snoc}
use Rattle.numeral.specs.Read.{digit_of}
use Rattle.numeral.specs.Course.{nines_of, Nines}

pub number_more : (t : List ℕ) (i : ℕ) → i < length t → number 10 (map digit_of (take (i + 1) t)) ≡ number 10 (map digit_of (take i t)) * 10 + digit_of (get_or t i 0)
number_more t i h = rw (add-one, take-suc t i 0 h, map-append, number-snoc)

-- one digit more, below the next power
pub below_more : (x d i : ℕ) → x < 10 ^ i → d < 10 → x * 10 + d < 10 ^ (i + 1)
below_more x d i h l = rw (add-one, pow-suc) (omega arith)

pub power-fit : (x i n : ℕ) → i ≤ n → x < 10 ^ i → x < 10 ^ n
power-fit x i n h l = lt_of_lt_of_le l (pow-le-pow_right (lit< tt) h)

-- ---- groups of nine digits
pub nines-none : (t : List ℕ) (from : ℕ) (gs : List ℕ) → Nines t from from gs gs
nines-none t from gs = record { size = refl; taken = λ n h. absurd (omega arith); before = λ k h. refl; after = λ k h. refl }

pub nines-more : (t : List ℕ) (from k v : ℕ) (gs₀ gs : List ℕ) → from ≤ k → k < length gs → v ≡ nines_of t (k - from)
    → Nines t from k gs₀ gs → Nines t from (k + 1) gs₀ (set gs k v)
nines-more t from k v gs₀ gs h l e w =
    record {
      size = length-set gs k v ∙ w.size;
      taken = λ n m. ⊎_elim
          (λ (q : n ≡ k - from). let z : from + n ≡ k = omega arith in rw z (get_or-set_same gs k v 0 l ∙ rw q e))
          (λ (q : n < k - from). get_or-set_other gs k (from + n) v 0 (λ z. omega arith) ∙ w.taken n q)
          (let q : n ≤ k - from = omega arith in eq-or-lt_of_le q);
      before = λ j m. get_or-set_other gs k j v 0 (λ z. omega arith) ∙ w.before j m;
      after = λ j m. get_or-set_other gs k j v 0 (λ z. omega arith) ∙ w.after j (omega arith);
    }
