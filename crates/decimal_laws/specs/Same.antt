-- Which decimals come back from their own text as the same record; all come back with an equal value (proofs/Printed.antt).
-- Assumes nothing.
use Rattle.std.specs.Prelude.{◌≡◌, false, [], ◌∷◌, ◌≤◌, length, take}
use Rattle.printing.specs.Print.{whole_digits}
use Rattle.decimal.specs.Text.{digits_of, printed}
use Rattle.decimal.specs.declared.Decimal.{Decimal}

pub record Same (d : Decimal) : Type 0 where
  -- there is an integral digit,
  pub integral : 1 ≤ d.intg
  -- the printed integral part has as many characters as there are integral digits,
  pub as_long : length (whole_digits d.intg (digits_of d)) ≡ d.intg
  -- and it does not begin "00" unless a minus stands before it (48 is '0')
  pub no-zeros : d.sign ≡ false → take 2 (printed d) ≡ 48 ∷ 48 ∷ [] → ⊥
