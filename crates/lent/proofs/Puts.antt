-- An answer put into a lent list: one that is too short is refused before all else, and what is told alike is put alike.
-- Assumes nothing.
use mathlib.Core.Path.{◌≡◌, subst}
use mathlib.Core.List.{List}
use Prim.Native.Nat.{ℕ, ◌≤◌, ◌<◌}
use native.Mathlib.Omega.{arith}
use lib.ListN.{length}
use borrow.Author.Tests.{lt-ltb, le-ltb}
use Rattle.refusal.specs.Told.{Told}
use Rattle.lent.specs.Layout.{returned, remains, Relays, beside, low}

-- ---- too short a list for an answer of w numbers
module _ (w : ℕ) (t : Told) {out : List ℕ} where
  pub too_short : length out < w → Relays w t out 25 out
  unfolding returned remains
  too_short h = record { number = rw (lt-ltb (length out) w h); leaves = rw (lt-ltb (length out) w h) }

-- what is told of s is told of t, which is the same
pub same-told : {w : ℕ} {s t : Told} {out left : List ℕ} {r : ℕ} → s ≡ t → Relays w s out r left → Relays w t out r left
same-told {w} {out = out} {left} {r} e p = subst (λ (u : Told). Relays w u out r left) e p

-- ---- a second list
module _ {A : Type 0} (w : ℕ) (out : List ℕ) (before after : A) {left : A} where
  pub as_it_was : length out < w → left ≡ before → left ≡ beside w out before after
  unfolding beside
  as_it_was h e = rw (lt-ltb (length out) w h) e

  pub changed : w ≤ length out → left ≡ after → left ≡ beside w out before after
  unfolding beside
  changed h e = rw (le-ltb (length out) w h) e

-- a number of 32 bits is its low 32 bits
pub low_small : (n : ℕ) → n < 4294967296 → low n ≡ n
low_small n h = omega arith
