-- A result of a definition that goes by tests: one step for each test.
-- Assumes nothing.
use mathlib.Core.Path.{◌≡◌, sym, ap, ◌∙◌}
use mathlib.Core.Bool.{Bool, true, false, cond}

module _ {A : Type 0} where
  pub yes : {b : Bool} {x y : A} (z : A) → b ≡ true → x ≡ y → x ≡ cond b y z
  yes {b} {x} {y} z e p = p ∙ sym (ap (λ (c : Bool). cond c y z) e)

  pub no : {b : Bool} {x z : A} (y : A) → b ≡ false → x ≡ z → x ≡ cond b y z
  no {b} {x} {z} y e p = p ∙ sym (ap (λ (c : Bool). cond c y z) e)
