-- What was read of bytes and of a text is a decimal, as laws cite it.
-- Assumes nothing.
use mathlib.Core.Path.{◌≡◌, refl}
use mathlib.Core.Bool.{Bool}
use mathlib.Core.List.{List}
use Prim.Native.Nat.{ℕ}
use Rattle.std.specs.Prelude.{Result, Ok}
use Rattle.refusal.specs.declared.Refusal.{Refusal}
use Rattle.numeral.specs.Read.{Numeral, read_text}
use Rattle.decimal.specs.Read.{finished, from_groups}
use Rattle.decimal.specs.Text.{of_numeral, parse_text}

pub groups-read : (g : Result (List ℕ) Refusal) (gs : List ℕ) (i f : ℕ) (neg keep : Bool) → g ≡ Ok gs → from_groups g i f neg keep ≡ Ok (finished keep i f neg gs)
unfolding from_groups
groups-read g gs i f neg keep h = rw h refl

pub text-read : (bs : List ℕ) (t : Numeral) → read_text bs ≡ Ok t → parse_text bs ≡ Ok (of_numeral t)
unfolding parse_text
text-read bs t h = rw h refl
