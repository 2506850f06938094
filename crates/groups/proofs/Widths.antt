-- Why the bytes of a group are enough, since two digits fit a byte and four bytes hold nine digits; and that fewer would leave no bit for a sign.
-- Assumes nothing.
use mathlib.Core.Path.{◌≡◌, refl}
use mathlib.Core.Logic.{⊎_elim}
use mathlib.Core.List.{[], ◌∷◌}
use Prim.Native.Nat.{ℕ, zero, suc, ◌+◌, ◌-◌, ◌*◌, ◌/◌, ◌^◌, ◌≤◌, ◌<◌}
use native.Mathlib.Nat.{le_refl, le_trans, lt_of_lt_of_le, not-le_of_lt, pow-suc, pow-le-pow_right}
use native.Mathlib.Omega.{arith}
use lib.Dec.{leb, ltb, leb→le, ltb→lt, lit<}
use Rattle.groups.specs.Numbers.{number, digits, tab}
use Rattle.groups.specs.Layout.{width}
use Rattle.groups.proofs.Finite.{at}
use Rattle.groups.proofs.Radix.{number_digits}
use Rattle.groups.proofs.Places.{ten-most}
use Rattle.groups.proofs.Caps.{below_or_not}

-- The formula gives the bytes that document 01, and mysql_common's DIG_TO_BYTES, list for 0 to 9 digits.
pub width-row : tab 10 width ≡ 0 ∷ 1 ∷ 1 ∷ 2 ∷ 2 ∷ 3 ∷ 3 ∷ 4 ∷ 4 ∷ 4 ∷ []
unfolding tab width
width-row = refl

-- ---- the bytes are enough
-- two digits fit a byte: 100 is at most 256
two-a-byte : (w : ℕ) → 10 ^ (w + w) ≤ 256 ^ w
two-a-byte zero = le_refl 1
two-a-byte (suc w) =
    let h = two-a-byte w in
    let e : suc w + suc w ≡ suc (suc (w + w)) = omega arith in
    rw (e, pow-suc 10 (suc (w + w)), pow-suc 10 (w + w), pow-suc 256 w) (omega arith)

-- four bytes hold nine digits: 10^9 is at most 2^32
nine-in-four : 10 ^ 9 ≤ 256 ^ 4
nine-in-four = leb→le _ _ tt

-- so the bytes of d digits count up to 10 to the d at least
pub ten-fits : (d : ℕ) → d ≤ 9 → 10 ^ d ≤ 256 ^ width d
unfolding width
ten-fits d h =
    let half = (d + 1) / 2 in
    ⊎_elim
    (λ (l : half < 4). let e : width d ≡ half = omega arith in rw e (le_trans (pow-le-pow_right (lit< tt) {j = half + half} (omega arith)) (two-a-byte half)))
    (λ (l : 4 ≤ half). let e : width d ≡ 4 = omega arith in rw e (le_trans (ten-most d h) nine-in-four))
    (below_or_not half 4)

-- every number below 10 to the d fits in the bytes of d digits
pub fits : (d : ℕ) → d ≤ 9 → (n : ℕ) → n < 10 ^ d → n < 256 ^ width d
fits d h n l = lt_of_lt_of_le l (ten-fits d h)

-- so its digits in base 256, as many as these bytes, write that number
pub held : (d : ℕ) → d ≤ 9 → (n : ℕ) → n < 10 ^ d → number 256 (digits 256 (width d) n) ≡ n
held d h n l = number_digits 256 (width d) n (lit< tt) (fits d h n l)

-- ---- with a bit for the sign, and then no fewer
-- Beside one to nine digits their bytes hold one bit more: the first bit of a decimal is its sign.
pub sign_fits : (d : ℕ) → 1 ≤ d → d ≤ 9 → 2 * 10 ^ d ≤ 256 ^ width d
unfolding width
sign_fits d l h =
    let e : suc (d - 1) ≡ d = omega arith in
    let r : 2 * 10 ^ suc (d - 1) ≤ 256 ^ width (suc (d - 1)) = leb→le _ _ (at (λ k. leb (2 * 10 ^ suc k) (256 ^ width (suc k))) 9 tt (d - 1) (omega arith)) in
    rw e at r

-- Fewer bytes do not: three hold the numbers of seven digits, but not twice as many.
pub no-fewer : (d : ℕ) → d ≤ 9 → (w : ℕ) → 2 * 10 ^ d ≤ 256 ^ w → width d ≤ w
unfolding width
no-fewer d h w l =
    ⊎_elim
    (λ (m : w < width d).
    let r : 256 ^ (width d - 1) < 2 * 10 ^ d = ltb→lt _ _ (at (λ k. ltb (256 ^ (width k - 1)) (2 * 10 ^ k)) 10 tt d (omega arith)) in
    absurd (not-le_of_lt r (le_trans l (pow-le-pow_right (lit< tt) {j = width d - 1} (omega arith)))))
    (λ m. m) (below_or_not w (width d))
