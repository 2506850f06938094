-- The machine's steps: what a byte does to a run, and what each range of first bytes asks for.
-- Assumes nothing.
use Prim.Native.Nat.{ℕ, ◌+◌, ◌≤◌, ◌<◌}
use mathlib.Core.Path.{◌≡◌, refl, ap}
use mathlib.Core.Bool.{Bool, true, false}
use mathlib.Core.List.{List, ◌∷◌}
use native.Mathlib.Omega.{arith}
use borrow.Author.Tests.{lt-ltb, le-ltb}
use Rattle.rfc3629.specs.Grammar.{Within}
use Rattle.rfc3629.specs.Machine.{State, start, more, Move, to, stop, bad, least, most, lead, follow, next, onward, run}

pub by : {A : Type 0} (t : Bool) → (t ≡ true → A) → (t ≡ false → A) → A
by true f g = f refl
by false f g = g refl

-- ---- a byte
pub enter : (st st' : State) (b : ℕ) (bs : List ℕ) (at : ℕ) → next st b ≡ to st' → run st at (b ∷ bs) ≡ run st' (at + 1) bs
unfolding run
enter st st' b bs at e = ap (λ (m : Move). onward m (λ st''. run st'' (at + 1) bs) (bad at)) e

pub halt : (st : State) (b : ℕ) (bs : List ℕ) (at : ℕ) → next st b ≡ stop → run st at (b ∷ bs) ≡ bad at
unfolding run
halt st b bs at e = ap (λ (m : Move). onward m (λ st''. run st'' (at + 1) bs) (bad at)) e

module _ (k lo hi b : ℕ) where
  pub below : b < lo → next (more k lo hi) b ≡ stop
  below h = simp (lt-ltb b lo h)

  pub above : lo ≤ b → hi < b → next (more k lo hi) b ≡ stop
  above g h = simp (le-ltb b lo g, lt-ltb hi b h)

  pub inside : Within lo hi b → next (more k lo hi) b ≡ to (follow k)
  inside w = simp (le-ltb b lo w.0, le-ltb hi b w.1)

-- ---- a first byte
module _ (b : ℕ) where
  pub lead1 : b < 128 → lead b ≡ to start
  unfolding lead
  lead1 h = simp (lt-ltb b 128 h)

  pub lead_low : 128 ≤ b → b < 194 → lead b ≡ stop
  unfolding lead
  lead_low g h = simp (le-ltb b 128 g, lt-ltb b 194 h)

  pub lead2 : 194 ≤ b → b < 224 → lead b ≡ to (more 0 128 191)
  unfolding lead
  lead2 g h = simp (le-ltb b 128 (omega arith), le-ltb b 194 g, lt-ltb b 224 h)

  pub lead3 : 224 ≤ b → b < 240 → lead b ≡ to (more 1 (least b 224 160) (most b 237 159))
  unfolding lead
  lead3 g h = simp (le-ltb b 128 (omega arith), le-ltb b 194 (omega arith), le-ltb b 224 g, lt-ltb b 240 h)

  pub lead4 : 240 ≤ b → b ≤ 244 → lead b ≡ to (more 2 (least b 240 144) (most b 244 143))
  unfolding lead
  lead4 g h =
      simp (le-ltb b 128 (omega arith), le-ltb b 194 (omega arith), le-ltb b 224 (omega arith), le-ltb b 240 g, lt-ltb b 245 (omega arith))

  pub lead_high : 244 < b → lead b ≡ stop
  unfolding lead
  lead_high g = simp (le-ltb b 128 (omega arith), le-ltb b 194 (omega arith), le-ltb b 224 (omega arith), le-ltb b 240 (omega arith), le-ltb b 245 (omega arith))
