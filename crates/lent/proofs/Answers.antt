-- Two answers that a promise of the form `Relays` allows are equal, and so are the lists that they leave.
-- Assumes nothing.
use mathlib.Core.Path.{◌≡◌, sym, ◌∙◌}
use mathlib.Core.List.{List}
use Prim.Native.Nat.{ℕ}
use Rattle.refusal.specs.Told.{Told}
use Rattle.lent.specs.Layout.{Relays}

pub one-relay : {w : ℕ} {t : Told} {out left rest : List ℕ} {r s : ℕ} → Relays w t out r left → Relays w t out s rest → (r ≡ s) × (left ≡ rest)
one-relay p q = (p.number ∙ sym q.number, p.leaves ∙ sym q.leaves)
