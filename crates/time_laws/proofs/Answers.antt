-- Two answers that a contract allows are equal: what is told of an answer gives the answer back.
-- Assumes nothing.
use Rattle.std.proofs.Common.{◌≡◌, refl, sym, ap, ◌∙◌, ℕ, Bool, true, false, not, cond, eqb, List, get_or, unwrap_or, Result}
use Rattle.refusal.specs.declared.Refusal.{Refusal}
use Rattle.refusal.specs.Told.{Told, answer, told_by}
use Rattle.refusal.proofs.Answers.{told-answer}
use Rattle.time.specs.declared.TimeType.TheVariants as type
use Rattle.time.specs.declared.MysqlTime.{MysqlTime}
use Rattle.time.specs.Answers.{type_of, numbers, written}
use Rattle.time.proofs.Types.{type-found}

-- ---- a value by its nine numbers
sign-back : (b : Bool) → not (eqb (cond b 1 0) 0) ≡ b
sign-back true = refl
sign-back false = refl

abbrev value_back : List ℕ → MysqlTime
value_back xs =
    record {
      year = get_or xs 0 0;
      month = get_or xs 1 0;
      day = get_or xs 2 0;
      hour = get_or xs 3 0;
      minute = get_or xs 4 0;
      second = get_or xs 5 0;
      second_part = get_or xs 6 0;
      neg = not (eqb (get_or xs 7 0) 0);
      time_type = unwrap_or (type_of (get_or xs 8 0)) type.Time;
    }

value-back : (t : MysqlTime) → value_back (numbers t) ≡ t
value-back t = rw (sign-back t.neg, type-found t.time_type)

pub same-value : (t u : MysqlTime) → answer (numbers t) ≡ answer (numbers u) → t ≡ u
same-value t u e = sym (value-back t) ∙ ap (λ (x : Told). value_back x.values) e ∙ value-back u

-- ---- what was read, and that it was written
pub read_answer : (d : Told) (r s : Result MysqlTime Refusal) → told_by numbers r ≡ d → told_by numbers s ≡ d → r ≡ s
read_answer = told-answer numbers value_back value-back

pub written-answer : (d : Told) (r s : Result (Unit {0}) Refusal) → told_by written r ≡ d → told_by written s ≡ d → r ≡ s
written-answer = told-answer written (λ _. tt) (λ _. refl)
