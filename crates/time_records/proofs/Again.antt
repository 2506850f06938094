-- The nine numbers of a value are that value, whatever stands behind them: what was read can be handed back as it is.
-- Assumes nothing.
use Rattle.std.proofs.Common.{◌≡◌, refl, Bool, true, false, cond, ℕ, List, ◌++◌, length, Some, arith}
use Rattle.std.proofs.lemmas.Bool.{le-ltb}
use Rattle.lent.specs.Layout.{flag}
use Rattle.time.specs.Answers.{numbers}
use Rattle.time.proofs.Types.{type-found}
use Rattle.time.specs.declared.MysqlTime.{MysqlTime}
use Rattle.time_records.specs.TimeRecords.{time_in, time_by}

flag-again : (b : Bool) → flag (cond b 1 0) ≡ b
flag-again true = refl
flag-again false = refl

pub record-again : (t : MysqlTime) (rest : List ℕ) → time_by (numbers t ++ rest) ≡ Some t
unfolding time_in time_by
record-again t rest = rw (type-found t.time_type, flag-again t.neg, le-ltb (length (numbers t ++ rest)) 9 (omega arith))
