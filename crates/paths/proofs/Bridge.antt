-- The walk keeps its promise: what the listing of a document is laid to is what `Walks` says.
-- Assumes nothing.
use mathlib.Core.Path.{◌≡◌, ap, ◌∙◌, sym}
use mathlib.Core.List.{List}
use Prim.Native.Nat.{ℕ}
use Rattle.events.specs.Walked.{Walked}
use Rattle.events.specs.Listing.{Listing}
use Rattle.events.specs.Lay.{laid, lay}
use Rattle.paths.specs.Paths.{paths, scan}
use Rattle.paths.specs.Levels.{listing}
use Rattle.paths.specs.Shown.{shown, Walks}
use Rattle.paths.proofs.Laid.{laid-answer, laid-leaves}
use Rattle.paths.proofs.Scan.{listing-scan}

pub walks : (d out : List ℕ) {r : Walked} {left : List ℕ} → lay (listing d) out 0 ≡ laid r left → Walks d out r left
unfolding shown
walks d out {r} {left} e =
    let f : lay (scan d (paths d) (paths d)) out 0 ≡ laid r left = ap (λ (l : Listing). lay l out 0) (sym (listing-scan d)) ∙ e in
    record { answer = laid-answer (scan d (paths d) (paths d)) out f; leaves = laid-leaves (scan d (paths d) (paths d)) out f }
