-- Every definition of what takes a record tests it first, so one that is no decimal is 26 by all of them; a sign on zero is such a record.
-- Assumes nothing.
use mathlib.Core.Path.{◌≡◌, refl}
use mathlib.Core.Bool.{Bool, true, false}
use Rattle.groups.specs.Numbers.{both}
use Rattle.groups.specs.Sign.{is_nought, signed_nought}
use Rattle.groups.specs.Write.{write_told, write_leaves}
use Rattle.groups.proofs.Sign.{sign-wrong}
use Rattle.decimal.specs.Write.{is_well, bin_size}
use Rattle.decimal.specs.Text.{print_told, print_leaves}
use Rattle.decimal.specs.Value.{compare_told}
use Rattle.decimal.specs.declared.Decimal.{Decimal}
use Rattle.decimal_laws.specs.NoDecimal.{NoDecimal}

both-no : (t : Bool) → both t false ≡ false
both-no true = refl
both-no false = refl

pub not-well : (d : Decimal) → is_well d ≡ false → NoDecimal d
unfolding bin_size write_told write_leaves print_told print_leaves compare_told
not-well d w =
    record {
      size = simp w;
      write = (λ out. simp w);
      written = (λ out. simp w);
      print = (λ out. simp w);
      printed = (λ out. simp w);
      compare-left = (λ e. simp w);
      compare-right = (λ e. simp (w, both-no (is_well e)));
    }

pub sign-on-zero : (d : Decimal) → d.sign ≡ true → is_nought d.groups ≡ true → NoDecimal d
unfolding signed_nought
sign-on-zero d s z = not-well d (sign-wrong d.sign d.intg d.frac d.groups (rw (s, z)))
