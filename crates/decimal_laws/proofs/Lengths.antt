-- A printed text has at most 67 characters: a sign, a point and at most 65 digits, or a sign, a 0, a point and at most 30 digits.
-- Assumes nothing.
use mathlib.Core.Path.{◌≡◌}
use mathlib.Core.Bool.{Bool, true, false}
use mathlib.Core.List.{List, [], ◌∷◌, ◌++◌, map}
use Prim.Native.Nat.{ℕ, ◌+◌, ◌≤◌}
use native.Mathlib.Omega.{arith}
use lib.ListN.{length, length-append, length-map}
use Rattle.printing.specs.Print.{show, sign_text}
use Rattle.decimal.specs.Write.{is_well}
use Rattle.decimal.specs.Text.{digits_of, printed}
use Rattle.decimal.specs.declared.Decimal.{Decimal}
use Rattle.decimal_laws.proofs.Trimmed.{whole-size}
use Rattle.decimal_laws.proofs.Reparsed.{tail_of}
use Rattle.decimal_laws.proofs.Printed.{whole_of, fraction_of, limits, whole-fits, fraction-count, printed-is}

sign-length : (neg : Bool) → length (sign_text neg) ≤ 1
sign-length true = omega arith
sign-length false = omega arith

tail-length : (ys : List ℕ) → length (tail_of ys) ≤ 1 + length ys
tail-length [] = omega arith
tail-length (y ∷ ys) = let e = length-map ys show in omega arith

pub printed-length : (d : Decimal) → is_well d ≡ true → length (printed d) ≤ 67
printed-length d w =
    let W = map show (whole_of d) in
    let T = tail_of (fraction_of d) in
    let a = length-append (sign_text d.sign) (W ++ T) in
    let b = length-append W T in
    let s = sign-length d.sign in
    let c = length-map (whole_of d) show in
    let m = whole-size d.intg (digits_of d) (whole-fits d w) in
    let t = tail-length (fraction_of d) in
    let n = fraction-count d w in
    let h = limits d w in
    rw (printed-is d w) (omega arith)
