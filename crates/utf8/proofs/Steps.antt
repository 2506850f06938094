-- The machine's run as the code takes it: a byte at a time, ASCII as far as it goes, a whole character at a time. Each law takes a place to a
-- later one and leaves the answer as it is, or says where the run stops.
-- Assumes nothing.
use Prim.Native.Nat.{ℕ, suc, ◌+◌, ◌≤◌, ◌<◌}
use mathlib.Core.Path.{◌≡◌, refl, sym, ap, ◌∙◌, subst}
use mathlib.Core.Bool.{true, false}
use mathlib.Core.List.{List, [], ◌∷◌}
use native.Mathlib.Nat.{add-zero}
use native.Mathlib.Numerals.{add-one}
use native.Mathlib.Omega.{arith}
use lib.Dec.{ltb}
use lib.ListN.{length, get_or, drop, drop_of_length-le}
use lib.Seq.{drop-cons, drop-drop}
use borrow.Author.Tests.{ltb-true, ltb-false}
use Rattle.ascii.specs.Ascii.{low, ascii_end, front}
use Rattle.ascii.proofs.Low.{by, low-yes, low-no, front-le}
use Rattle.rfc3629.specs.Machine.{State, start, more, to, stop, bad, lead, follow, next, ended, run}
use Rattle.rfc3629.proofs.Steps.{enter, halt, below, above, inside, lead1}
use Rattle.utf8.specs.Course.{Runs}

no : {A : Type 0} → false ≡ true → A
no e = absurd (let z : ◌≡◌ {A = ℕ} 0 1 = cc in omega arith)

-- ---- a place
module _ (st : State) (s : List ℕ) (at : ℕ) where
  -- at the end
  pub out : length s ≤ at → run st at (drop at s) ≡ ended st at
  unfolding run
  out h = ap (run st at) (drop_of_length-le s h)

  -- to the next place
  pub step : (st' : State) (j : ℕ) → j ≡ at + 1 → at < length s → next st (get_or s at 0) ≡ to st' → run st at (drop at s) ≡ run st' j (drop j s)
  step st' j e h n =
      ap (run st at) (drop-cons s at 0 h)
      ∙ enter st st' (get_or s at 0) (drop (suc at) s) at n
      ∙ ap (λ (k : ℕ). run st' (at + 1) (drop k s)) (sym (add-one at))
      ∙ ap (λ (k : ℕ). run st' k (drop k s)) (sym e)

  rest : at < length s → next st (get_or s at 0) ≡ stop → run st at (drop at s) ≡ bad at
  rest h n = ap (run st at) (drop-cons s at 0 h) ∙ halt st (get_or s at 0) (drop (suc at) s) at n

-- ---- places where a character begins
pub stay : (s : List ℕ) (at : ℕ) → at ≤ length s → Runs s at at
stay s at h = record { on = omega arith; within = h; same = refl }

pub then : {s : List ℕ} {at i r : ℕ} → Runs s at i → Runs s i r → Runs s at r
then p q = record { on = omega (arith, p.on, q.on); within = q.within; same = p.same ∙ q.same }

pub one : (s : List ℕ) (at : ℕ) → at < length s → get_or s at 0 < 128 → Runs s at (at + 1)
one s at h b = record { on = omega arith; within = omega arith; same = step start s at start (at + 1) refl h (lead1 _ b) }

-- ---- ASCII
low_run : (xs : List ℕ) (at : ℕ) → run start at xs ≡ run start (at + low xs) (drop (low xs) xs)
unfolding low
low_run [] at = ap (λ (n : ℕ). run start n []) (sym (add-zero at))
low_run (b ∷ bs) at =
    by (ltb b 128)
    (λ t.
    let h = ltb-true b 128 t in
    let e : at + 1 + low bs ≡ at + suc (low bs) = omega arith in
    enter start start b bs at (lead1 b h)
    ∙ low_run bs (at + 1)
    ∙ ap (λ (n : ℕ). run start n (drop (low bs) bs)) e
    ∙ ap (λ (n : ℕ). run start (at + n) (drop n (b ∷ bs))) (sym (low-yes b bs h)))
    (λ t.
    ap (λ (n : ℕ). run start n (b ∷ bs)) (sym (add-zero at))
    ∙ ap (λ (n : ℕ). run start (at + n) (drop n (b ∷ bs))) (sym (low-no b bs (ltb-false b 128 t))))

module _ (s : List ℕ) (at : ℕ) {r : ℕ} where
  pub ascii-runs : at ≤ length s → r ≡ ascii_end s at → Runs s at r
  ascii-runs h e =
      record {
        on = omega arith;
        within = omega (arith, front-le s at h);
        same =
            low_run (drop at s) at
            ∙ ap (run start (ascii_end s at)) (drop-drop (low (drop at s)) at s)
            ∙ ap (λ (n : ℕ). run start n (drop n s)) (sym e);
      }

  pub ascii_more : at < length s → get_or s at 0 < 128 → r ≡ ascii_end s at → at < r
  ascii_more h b e =
      let f : low (drop at s) ≡ suc (low (drop (suc at) s)) = ap low (drop-cons s at 0 h) ∙ low-yes (get_or s at 0) (drop (suc at) s) b in
      omega arith

pub front-runs : (n : ℕ) (s : List ℕ) {r : ℕ} → r ≡ front n s → Runs s 0 r
unfolding front
front-runs n s e =
    by (ltb (length s) n) (λ t. let f = simp t at e in ascii-runs s 0 (omega arith) (omega arith))
    (λ t. let f = simp t at e in subst (Runs s 0) (sym f) (stay s 0 (omega arith)))

-- ---- a byte in its range
module _ (lo hi : ℕ) (s : List ℕ) (at : ℕ) where
  pub takes-end : length s ≤ at → (k : ℕ) → run (more k lo hi) at (drop at s) ≡ bad at
  takes-end h k = out (more k lo hi) s at h

  pub takes-below : at < length s → get_or s at 0 < lo → (k : ℕ) → run (more k lo hi) at (drop at s) ≡ bad at
  takes-below h b k = rest (more k lo hi) s at h (below k lo hi (get_or s at 0) b)

  pub takes-above : at < length s → lo ≤ get_or s at 0 → hi < get_or s at 0 → (k : ℕ) → run (more k lo hi) at (drop at s) ≡ bad at
  takes-above h b g k = rest (more k lo hi) s at h (above k lo hi (get_or s at 0) b g)

-- ---- a character
-- after j bytes of the character that begins at a place, the run is in a state
pub record After (s : List ℕ) (at j : ℕ) (st : State) : Type 0 where
  pub same : run start at (drop at s) ≡ run st (at + j) (drop (at + j) s)

pub begun : (s : List ℕ) (at : ℕ) {st : State} → at < length s → lead (get_or s at 0) ≡ to st → After s at 1 st
begun s at {st} h l = record { same = step start s at st (at + 1) refl h l }

-- the next byte is in its range
pub onto : {j k lo hi : ℕ} {s : List ℕ} {at : ℕ} → After s at j (more k lo hi) → (at + j < length s) × (lo ≤ get_or s (at + j) 0) × (get_or s (at + j) 0 ≤ hi) → After s at (j + 1) (follow k)
onto {j} {k} {lo} {hi} {s} {at} a w =
    let f : at + (j + 1) ≡ at + j + 1 = omega arith in
    record { same = a.same ∙ step (more k lo hi) s (at + j) (follow k) (at + (j + 1)) f w.0 (inside k lo hi _ (w.1, w.2)) }

-- where it is not, the run stops there
pub halted : {j k lo hi p : ℕ} {s : List ℕ} {at : ℕ} → After s at j (more k lo hi) → (p ≡ at + j) × ((n : ℕ) → run (more n lo hi) (at + j) (drop (at + j) s) ≡ bad (at + j)) → run start at (drop at s) ≡ bad p
halted {k = k} a w = a.same ∙ w.1 k ∙ ap bad (sym w.0)

pub never : (s : List ℕ) (at : ℕ) → at < length s → lead (get_or s at 0) ≡ stop → run start at (drop at s) ≡ bad at
never s at h l = rest start s at h l

-- a whole character
pub whole : (s : List ℕ) (at j : ℕ) → After s at j start → 1 ≤ j → at + j ≤ length s → Runs s at (at + j)
whole s at j a g h = record { on = omega arith; within = h; same = a.same }
