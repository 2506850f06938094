-- The cases of an output that is to take bytes: it is shorter than they are, or they fit; and writing where nothing is refused.
-- Assumes nothing.
use mathlib.Core.Path.{◌≡◌}
use mathlib.Core.List.{List, [], ◌∷◌, ◌++◌}
use Prim.Native.Nat.{ℕ, ◌≤◌, ◌<◌}
use lib.ListN.{length, drop}
use borrow.Author.Tests.{le-leb, lt-leb}
use Rattle.refusal.specs.Told.{answer, refusal}
use mathlib.Core.Bool.{Bool, true}
use Rattle.groups.specs.Layout.{form_of, size_in}
use Rattle.groups.specs.Write.{well_formed, written, room_told, room_leaves, write_told, write_leaves}
use Rattle.groups.proofs.Store.{length-written}

pub short : (bs out : List ℕ) {n : ℕ} → length bs ≡ n → length out < n → (room_told bs out ≡ refusal 25) × (room_leaves bs out ≡ out)
unfolding room_told room_leaves
short bs out e h = let l = lt-leb (length bs) (length out) (rw e h) in (simp l, simp l)

pub fits : (bs out : List ℕ) {n : ℕ} → length bs ≡ n → n ≤ length out → (room_told bs out ≡ answer (n ∷ [])) × (room_leaves bs out ≡ bs ++ drop n out)
unfolding room_told room_leaves
fits bs out e h = let l = le-leb _ _ h in (simp (e, l), simp (e, l))

pub writes : (neg : Bool) (i f : ℕ) (gs out : List ℕ) → well_formed neg i f gs ≡ true → size_in (form_of neg) i f ≤ length out
    → (write_told neg i f gs out ≡ answer (size_in (form_of neg) i f ∷ []))
    × (write_leaves neg i f gs out ≡ written (form_of neg) i f gs ++ drop (size_in (form_of neg) i f) out)
unfolding write_told write_leaves
writes neg i f gs out w l =
    let F = form_of neg in
    let r = fits (written F i f gs) out (length-written F i f gs) l in
    (simp (w, r.0), simp (w, r.1))
