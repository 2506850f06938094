-- What `lay` leaves is what `Shown` says: the events for which there is room, one after the other from the front, and then the rest as it was.
-- Assumes nothing.
use mathlib.Core.Path.{◌≡◌, refl, sym, ap, ◌∙◌}
use mathlib.Core.Bool.{Bool, cond}
use mathlib.Core.List.{List, [], ◌∷◌, ◌++◌, append_assoc}
use Prim.Native.Nat.{ℕ, zero, suc, ◌+◌, ◌*◌, ◌-◌, ◌≤◌}
use native.Mathlib.Omega.{arith}
use lib.ListN.{length, drop, length-append, length-drop}
use lib.Seq.{sets, sets-eq, take-append_seam, drop-append-add, drop-drop}
use borrow.Author.Tests.{le-ltb, lt-ltb}
use Rattle.events.specs.declared.Event.{Event}
use Rattle.events.specs.Walked.{Walked, Done, Stopped}
use Rattle.events.specs.Events.{numbers, wide}
use Rattle.events.specs.Listing.{Listing, end, fault, event}
use Rattle.events.specs.Lay.{Laid, laid, lay, put, room}
use Rattle.events.proofs.Room.{room_fits, room-same}
use Rattle.paths.specs.Shown.{cut, flat, Answer, told, ends, over}

-- ---- how a listing ends, as a case of the code's answer
unfoldable pub walked : Listing → ℕ → Walked
walked end n = Done n
walked (fault f p) n = Stopped f p n
walked (event e p l) n = walked l (n + 1)

pub walked-told : (l : Listing) (n : ℕ) → told (walked l n) ≡ ends l n
unfolding walked ends
walked-told end n = refl
walked-told (fault f p) n = refl
walked-told (event e p l) n = walked-told l (n + 1)

-- answers that are told alike are equal
pub told_same : (r q : Walked) → told r ≡ told q → r ≡ q
told_same (Done n) (Done m) e = let h : n ∷ [] ≡ m ∷ [] = ap (λ (a : Answer). a.values) e in cc
told_same (Stopped f p n) (Stopped g q m) e =
    let i : f ≡ g = ap (λ (a : Answer). a.number) e in
    let h : p ∷ n ∷ [] ≡ q ∷ m ∷ [] = ap (λ (a : Answer). a.values) e in
    cc
told_same (Done n) (Stopped g q m) e = let h : ◌≡◌ {A = ℕ} 1 2 = ap (λ (a : Answer). length a.values) e in absurd (omega arith)
told_same (Stopped f p n) (Done m) e = let h : ◌≡◌ {A = ℕ} 2 1 = ap (λ (a : Answer). length a.values) e in absurd (omega arith)

-- ---- one event
-- numbers go after the front, over the first of the back
sets-after : (front back vs : List ℕ) → length vs ≤ length back → sets (front ++ back) (length front) vs ≡ (front ++ vs) ++ drop (length vs) back
sets-after front back vs h =
    let l : length (front ++ back) ≡ length front + length back = length-append front back in
    sets-eq vs (front ++ back) (length front) (omega arith)
    ∙ ap (λ (x : List ℕ). (x ++ vs) ++ drop (length front + length vs) (front ++ back)) (take-append_seam front back)
    ∙ ap (λ (x : List ℕ). (front ++ vs) ++ x) (drop-append-add front back (length vs))

put-after : (front back : List ℕ) (n : ℕ) (e : Event) → length front ≡ wide * n → wide ≤ length back →
    put (front ++ back) n e ≡ (front ++ numbers e) ++ drop wide back
unfolding put
put-after front back n e p h = ap (λ (i : ℕ). sets (front ++ back) i (numbers e)) (sym p) ∙ sets-after front back (numbers e) h

-- what is left after it
rest : (front vs fs back : List ℕ) → (front ++ vs) ++ (fs ++ drop (length fs) (drop (length vs) back)) ≡ front ++ ((vs ++ fs) ++ drop (length (vs ++ fs)) back)
rest front vs fs back =
    let z : length vs + length fs ≡ length (vs ++ fs) = sym (length-append vs fs) in
    append_assoc front vs (fs ++ drop (length fs) (drop (length vs) back))
    ∙ ap (λ (x : List ℕ). front ++ x) (sym (append_assoc vs fs (drop (length fs) (drop (length vs) back))))
    ∙ ap (λ (x : List ℕ). front ++ ((vs ++ fs) ++ x)) (drop-drop (length fs) (length vs) back ∙ ap (λ (j : ℕ). drop j back) z)

-- ---- what a listing is laid to, after a front of n events and with room for k more
abbrev Shows : Listing → Type 0
Shows l = (front back : List ℕ) (n k : ℕ) → length front ≡ wide * n → room (front ++ back) ≡ n + k →
    lay l (front ++ back) n ≡ laid (walked (cut l k) n) (front ++ over (cut l k) back)

module _ (l : Listing) (ih : Shows l) (e : Event) (p : ℕ) (front back : List ℕ) (n : ℕ) (fe : length front ≡ wide * n) where
  abbrev out : List ℕ
  out = front ++ back

  abbrev by : Bool → Laid
  by b = cond b (lay l (put out n e) (n + 1)) (laid (Stopped 12 p n) out)

  one : (k : ℕ) → room out ≡ n + k → lay (event e p l) out n ≡ laid (walked (cut (event e p l) k) n) (front ++ over (cut (event e p l) k) back)
  unfolding lay cut flat walked over
  one zero r = ap by (le-ltb n (room out) (omega arith))
  one (suc k) r =
      let a : length out ≡ length front + length back = length-append front back in
      let f : wide * room out ≤ length out = room_fits out in
      let h : wide ≤ length back = omega arith in
      let y : length (drop wide back) ≡ length back - wide = length-drop wide back in
      let z : length (front ++ numbers e) ≡ length front + wide = length-append front (numbers e) in
      let x : length ((front ++ numbers e) ++ drop wide back) ≡ length (front ++ numbers e) + length (drop wide back) =
      length-append (front ++ numbers e) (drop wide back) in
      let w : room ((front ++ numbers e) ++ drop wide back) ≡ room out = room-same ((front ++ numbers e) ++ drop wide back) out (omega arith) in
      ap by (lt-ltb n (room out) (omega arith))
      ∙ ap (λ (o : List ℕ). lay l o (n + 1)) (put-after front back n e fe h)
      ∙ ih (front ++ numbers e) (drop wide back) (n + 1) k (omega arith) (omega arith)
      ∙ ap (λ (o : List ℕ). laid (walked (cut l k) (n + 1)) o) (rest front (numbers e) (flat (cut l k)) back)

laid-after : (l : Listing) → Shows l
unfolding lay cut flat walked over
laid-after end front back n k p r = refl
laid-after (fault f q) front back n k p r = refl
laid-after (event e q l) front back n k p r = one l (laid-after l) e q front back n p k r

-- ---- from the first event on
pub lay-shown : (l : Listing) (out : List ℕ) → lay l out 0 ≡ laid (walked (cut l (room out)) 0) (over (cut l (room out)) out)
lay-shown l out = laid-after l [] out 0 (room out) refl (omega arith)

pub laid-answer : (l : Listing) (out : List ℕ) {r : Walked} {left : List ℕ} → lay l out 0 ≡ laid r left → told r ≡ ends (cut l (room out)) 0
laid-answer l out {r} e = let h : r ≡ walked (cut l (room out)) 0 = cc (lay-shown l out) in ap told h ∙ walked-told (cut l (room out)) 0

pub laid-leaves : (l : Listing) (out : List ℕ) {r : Walked} {left : List ℕ} → lay l out 0 ≡ laid r left → left ≡ over (cut l (room out)) out
laid-leaves l out e = cc (lay-shown l out)
