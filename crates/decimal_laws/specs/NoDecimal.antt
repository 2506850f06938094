-- What is told of a record that is no decimal (document 01: 26 before 25; document 02, W2: a sign on zero is such a record): 26 by all that take a
-- record, whatever room there is, and the output is as it was.
-- Assumes nothing.
use Rattle.std.specs.Prelude.{◌≡◌, List, ℕ}
use Rattle.refusal.specs.Told.{refusal}
use Rattle.decimal.specs.Write.{bin_size, write_bin, bin_leaves}
use Rattle.decimal.specs.Text.{print_told, print_leaves}
use Rattle.decimal.specs.Value.{compare_told}
use Rattle.decimal.specs.declared.Decimal.{Decimal}

pub record NoDecimal (d : Decimal) : Type 0 where
  pub size : bin_size d ≡ refusal 26
  pub write : (out : List ℕ) → write_bin d out ≡ refusal 26
  pub written : (out : List ℕ) → bin_leaves d out ≡ out
  pub print : (out : List ℕ) → print_told d out ≡ refusal 26
  pub printed : (out : List ℕ) → print_leaves d out ≡ out
  pub compare-left : (e : Decimal) → compare_told d e ≡ refusal 26
  pub compare-right : (e : Decimal) → compare_told e d ≡ refusal 26
