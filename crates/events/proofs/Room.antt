-- The room of a list: how many events are wholly within it, at most 4,294,967,295, by its length alone.
-- Assumes nothing.
use mathlib.Core.Path.{◌≡◌, refl, ap}
use mathlib.Core.Bool.{Bool, true, false, cond}
use mathlib.Core.List.{List}
use Prim.Native.Nat.{ℕ, ◌+◌, ◌*◌, ◌/◌, ◌≤◌, ◌<◌}
use native.Mathlib.Omega.{arith}
use lib.ListN.{length}
use lib.Dec.{ltb}
use borrow.Author.Tests.{ltb-true, ltb-false}
use Rattle.events.specs.Events.{wide}
use Rattle.events.specs.Lay.{room}

module _ (out : List ℕ) where
  abbrev whole : ℕ
  whole = length out / wide

  abbrev capped : Bool → ℕ
  capped b = cond b 4294967295 whole

  -- the events that it has room for lie within it
  pub room_fits : wide * room out ≤ length out
  unfolding room
  room_fits = go (ltb 4294967295 whole) refl
    where
      go : (b : Bool) → ltb 4294967295 whole ≡ b → wide * capped b ≤ length out
      go true e = omega (arith, ltb-true 4294967295 whole e)
      go false e = omega arith

  -- so that one more does where it is below the room
  pub room_for : (n : ℕ) → n < room out → wide * n + wide ≤ length out
  room_for n h = omega (arith, room_fits)

  pub room_small : room out ≤ 4294967295
  unfolding room
  room_small = go (ltb 4294967295 whole) refl
    where
      go : (b : Bool) → ltb 4294967295 whole ≡ b → capped b ≤ 4294967295
      go true e = omega arith
      go false e = ltb-false 4294967295 whole e

pub room-same : (a b : List ℕ) → length a ≡ length b → room a ≡ room b
unfolding room
room-same a b h = ap (λ (n : ℕ). cond (ltb 4294967295 (n / wide)) 4294967295 (n / wide)) h
