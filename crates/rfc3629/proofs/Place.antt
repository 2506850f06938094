-- Where the machine stops is where the bytes break: it has read whole characters and a part of one, and goes on exactly as long as some
-- character goes on.
-- Assumes nothing.
use Prim.Native.Nat.{ℕ, zero, suc, ◌+◌, ◌≤◌}
use mathlib.Core.Path.{◌≡◌, refl, sym, ap, ◌∙◌, subst, subst⁻¹}
use mathlib.Core.List.{List, [], ◌∷◌, ◌++◌, append_assoc, append-nil}
use native.Mathlib.Nat.{add-zero}
use native.Mathlib.Omega.{arith}
use lib.Dec.{ltb, lit≤}
use lib.ListN.{length, length-append}
use borrow.Author.Tests.{ltb-true, ltb-false}
use Rattle.rfc3629.specs.Machine.{State, start, more, Move, to, stop, bad, lead, follow, onward, run, verdict}
use Rattle.rfc3629.specs.Grammar.{Within, Char, utf8-1, none, and, Begins, Unfinished, Stuck, Breaks}
use Rattle.rfc3629.proofs.Steps.{by, enter, halt, below, above, inside}
use Rattle.rfc3629.proofs.Grammar.{Row, row-1, row-2, row-E0, row-E1, row-ED, row-EE, row-F0, row-F1, row-F4, no_row, row, Tails, last, then, makes}
use Rattle.rfc3629.proofs.Grammar.{made_so, asked, utf8-run}

-- ---- inside a character
-- m is begun, and the bytes that make it whole are those that the state asks for
record Inside (m : List ℕ) (k lo hi : ℕ) : Type 0 where
  filled : m ≡ [] → ⊥
  order : lo ≤ hi
  gives : {q : List ℕ} → Tails k lo hi q → Char (m ++ q)
  needs : {q : List ℕ} → Char (m ++ q) → Tails k lo hi q

Ordered : Move → Type 0
Ordered (to start) = Unit {0}
Ordered (to (more k lo hi)) = lo ≤ hi
Ordered stop = Unit {0}

ordered : {a : ℕ} {m : Move} → Row a m → Ordered m
unfolding Ordered
ordered (row-1 w) = tt
ordered (row-2 w) = lit≤ tt
ordered (row-E0 i) = lit≤ tt
ordered (row-E1 w) = lit≤ tt
ordered (row-ED i) = lit≤ tt
ordered (row-EE w) = lit≤ tt
ordered (row-F0 i) = lit≤ tt
ordered (row-F1 w) = lit≤ tt
ordered (row-F4 i) = lit≤ tt
ordered no_row = tt

first-inside : {k lo hi : ℕ} (a : ℕ) → lead a ≡ to (more k lo hi) → Inside (a ∷ []) k lo hi
unfolding Ordered
first-inside a l =
    record {
      filled = λ e. let z : ◌≡◌ {A = ℕ} 0 1 = cc in omega arith;
      order = subst Ordered l (ordered (row a));
      gives = λ t. makes a l t;
      needs = λ x. asked l (made_so x);
    }

rest : {k lo hi b : ℕ} {q : List ℕ} → Tails (suc k) lo hi (b ∷ q) → Tails k 128 191 q
rest (then w t) = t

head : {k lo hi b : ℕ} {q : List ℕ} → Tails k lo hi (b ∷ q) → Within lo hi b
head (last w) = w
head (then w t) = w

size : {k lo hi : ℕ} {q : List ℕ} → Tails k lo hi q → length q ≡ suc k
size (last w) = refl
size (then w t) = ap suc (size t)

next-inside : {m : List ℕ} {k lo hi b : ℕ} → Inside m (suc k) lo hi → Within lo hi b → Inside (m ++ (b ∷ [])) k 128 191
next-inside {m} {b = b} i w =
    record {
      filled = λ e. omega (arith, simp length-append at (ap length e));
      order = lit≤ tt;
      gives = λ {q} t. subst⁻¹ Char (append_assoc m (b ∷ []) q) (i.gives (then w t));
      needs = λ {q} x. rest (i.needs (subst Char (append_assoc m (b ∷ []) q) x));
    }

-- some bytes that a state asks for
tails : ℕ → List ℕ
tails zero = []
tails (suc k) = 128 ∷ tails k

sample : (k lo hi : ℕ) → lo ≤ hi → Tails k lo hi (lo ∷ tails k)
unfolding tails
sample zero lo hi h = let w : Within lo hi lo = omega arith in last w
sample (suc k) lo hi h = let w : Within lo hi lo = omega arith in then w (sample k 128 191 (lit≤ tt))

opened : {m : List ℕ} {k lo hi : ℕ} → Inside m k lo hi → Unfinished m
opened {k = k} {lo} {hi} i = (lo, tails k, i.gives (sample k lo hi i.order))

-- a byte goes on exactly where it fits
blocked : {m : List ℕ} {k lo hi : ℕ} (b : ℕ) → Inside m k lo hi → (Within lo hi b → ⊥) → Begins (m ++ (b ∷ [])) → ⊥
blocked {m} b i n x = n (head (i.needs (subst Char (append_assoc m (b ∷ []) x.0) x.1)))

goes_on : {m : List ℕ} (k : ℕ) {lo hi b : ℕ} → Inside m k lo hi → Within lo hi b → Begins (m ++ (b ∷ []))
goes_on {m} zero {b = b} i w = ([], subst⁻¹ Char (append-nil (m ++ (b ∷ []))) (i.gives (last w)))
goes_on (suc k) i w = let o = opened (next-inside i w) in (o.0 ∷ o.1, o.2)

-- ---- a stop is a break
-- the bytes m of a character are read, and at the place `at` the bytes s follow
record Found (m s : List ℕ) (at p : ℕ) : Type 0 where
  place : ℕ
  breaks : Breaks (m ++ s) place
  shift : p + length m ≡ at + place

here : (m s : List ℕ) (at p : ℕ) → bad at ≡ bad p → Unfinished m → Stuck m s → Found m s at p
here m s at p e u k =
    let f : at ≡ p = cc in
    record {
      place = length m;
      breaks = record { before = []; begun = m; rest = s; split = refl; place = omega arith; whole = none; unfinished = u; stuck = k };
      shift = omega arith;
    }

-- the next byte is one more of the character
onto : {m s : List ℕ} {b at p : ℕ} → Found (m ++ (b ∷ [])) s (at + 1) p → Found m (b ∷ s) at p
onto {m} {s} {b} f =
    record {
      place = f.place;
      breaks = subst (λ (l : List ℕ). Breaks l f.place) (append_assoc m (b ∷ []) s) f.breaks;
      shift = omega (arith, f.shift, length-append m (b ∷ []));
    }

-- a whole character before
after : {c s : List ℕ} {p : ℕ} → Char c → Breaks s p → Breaks (c ++ s) (length c + p)
after {c} x f =
    record {
      before = c ++ f.before;
      begun = f.begun;
      rest = f.rest;
      split = ap (λ (l : List ℕ). c ++ l) f.split ∙ sym (append_assoc c f.before (f.begun ++ f.rest));
      place = omega (arith, f.place, length-append c f.before);
      whole = and x f.whole;
      unfinished = f.unfinished;
      stuck = f.stuck;
    }

-- the next byte ends the character
past : {m s : List ℕ} {b at p : ℕ} → Char (m ++ (b ∷ [])) → Found [] s (at + 1) p → Found m (b ∷ s) at p
past {m} {s} {b} x f =
    record {
      place = length (m ++ (b ∷ [])) + f.place;
      breaks = subst (λ (l : List ℕ). Breaks l (length (m ++ (b ∷ [])) + f.place)) (append_assoc m (b ∷ []) s) (after x f.breaks);
      shift = omega (arith, f.shift, length-append m (b ∷ []));
    }

data In : List ℕ → State → Type 0 where
  outside : In [] start
  within : {m : List ℕ} {k lo hi : ℕ} → Inside m k lo hi → In m (more k lo hi)

module _ (b : ℕ) (s : List ℕ) (at p : ℕ) (ih : (st : State) (m : List ℕ) → In m st → run st (at + 1) s ≡ bad p → Found m s (at + 1) p) where
  first : (m : Move) → lead b ≡ m → onward m (λ st. run st (at + 1) s) (bad at) ≡ bad p → Found [] (b ∷ s) at p
  first (to start) l e = past (makes b l refl) (ih start [] outside e)
  first (to (more k lo hi)) l e = onto (ih (more k lo hi) (b ∷ []) (within (first-inside b l)) e)
  first stop l e = here [] (b ∷ s) at p e (0, [], utf8-1 (omega arith)) (λ x. asked l (made_so x.1))

  later : {m : List ℕ} (k : ℕ) {lo hi : ℕ} → Inside m k lo hi → Within lo hi b → run (follow k) (at + 1) s ≡ bad p → Found m (b ∷ s) at p
  later zero i w e = past (i.gives (last w)) (ih start [] outside e)
  later {m} (suc k) i w e = onto (ih (more k 128 191) (m ++ (b ∷ [])) (within (next-inside i w)) e)

find : (s : List ℕ) (st : State) (m : List ℕ) (at p : ℕ) → In m st → run st at s ≡ bad p → Found m s at p
unfolding run
find [] start m at p i e = absurd (let z : ◌≡◌ {A = ℕ} 0 1 = cc in omega arith)
find [] (more k lo hi) m at p (within i) e = here m [] at p e (opened i) i.filled
find (b ∷ s) start m at p outside e = first b s at p (λ st n. find s st n (at + 1) p) (lead b) refl e
find (b ∷ s) (more k lo hi) m at p (within i) e =
    by (ltb b lo) (λ t. let h = ltb-true b lo t in here m (b ∷ s) at p (rw t at e) (opened i) (blocked b i (λ w. omega arith)))
    (λ t.
    by (ltb hi b) (λ u. let h = ltb-true hi b u in here m (b ∷ s) at p (simp (t, u) at e) (opened i) (blocked b i (λ w. omega arith)))
    (λ u. later b s at p (λ st n. find s st n (at + 1) p) k i (ltb-false b lo t, ltb-false hi b u) (simp (t, u) at e)))

breaks-there : (s : List ℕ) (p : ℕ) → verdict s ≡ bad p → Breaks s p
breaks-there s p e =
    let f = find s start [] 0 p outside e in
    let g : f.place ≡ p = omega (arith, f.shift) in
    subst (Breaks s) g f.breaks

-- ---- a break is a stop
at_once : (rest : List ℕ) {m : List ℕ} (k lo hi at : ℕ) → Inside m k lo hi → Stuck m rest → run (more k lo hi) at rest ≡ bad at
unfolding run
at_once [] k lo hi at i st = refl
at_once (b ∷ r) k lo hi at i st =
    by (ltb b lo) (λ t. halt (more k lo hi) b r at (below k lo hi b (ltb-true b lo t)))
    (λ t.
    by (ltb hi b) (λ u. halt (more k lo hi) b r at (above k lo hi b (ltb-false b lo t) (ltb-true hi b u)))
    (λ u. absurd (st (goes_on k i (ltb-false b lo t, ltb-false hi b u)))))

through : (x rest m : List ℕ) (k lo hi at : ℕ) → Inside m k lo hi → Unfinished (m ++ x) → Stuck (m ++ x) rest → run (more k lo hi) at (x ++ rest) ≡ bad (at + length x)
through [] rest m k lo hi at i u st = at_once rest k lo hi at i (subst (λ (l : List ℕ). Stuck l rest) (append-nil m) st) ∙ ap bad (sym (add-zero at))
through (b ∷ x) rest m zero lo hi at i u st =
    let t = i.needs (subst Char (append_assoc m (b ∷ x) (u.0 ∷ u.1)) u.2) in
    absurd (omega (arith, simp length-append at (size t)))
through (b ∷ x) rest m (suc k) lo hi at i u st =
    let w = head (i.needs (subst Char (append_assoc m (b ∷ x) (u.0 ∷ u.1)) u.2)) in
    let a = append_assoc m (b ∷ []) x in
    let e : at + 1 + length x ≡ at + suc (length x) = omega arith in
    enter (more (suc k) lo hi) (more k 128 191) b (x ++ rest) at (inside (suc k) lo hi b w)
    ∙ through x rest (m ++ (b ∷ [])) k 128 191 (at + 1) (next-inside i w) (subst⁻¹ Unfinished a u) (subst⁻¹ (λ (l : List ℕ). Stuck l rest) a st)
    ∙ ap bad e

from_start : (g rest : List ℕ) (at : ℕ) → Unfinished g → Stuck g rest → run start at (g ++ rest) ≡ bad (at + length g)
from_start [] [] at u st = absurd (st refl)
from_start [] (b ∷ r) at u st = go (lead b) refl
  where
    go : (m : Move) → lead b ≡ m → run start at (b ∷ r) ≡ bad (at + 0)
    go (to start) l = absurd (st ([], makes b l refl))
    go (to (more k lo hi)) l = absurd (let o = opened (first-inside b l) in st (o.0 ∷ o.1, o.2))
    go stop l = halt start b r at l ∙ ap bad (sym (add-zero at))
from_start (a ∷ x) rest at u st = go (lead a) refl
  where
    go : (m : Move) → lead a ≡ m → run start at (a ∷ (x ++ rest)) ≡ bad (at + suc (length x))
    go (to start) l = absurd (omega (arith, ap length (asked l (made_so u.2)), length-append x (u.0 ∷ u.1)))
    go (to (more k lo hi)) l =
        let e : at + 1 + length x ≡ at + suc (length x) = omega arith in
        enter start (more k lo hi) a (x ++ rest) at l ∙ through x rest (a ∷ []) k lo hi (at + 1) (first-inside a l) u st ∙ ap bad e
    go stop l = absurd (asked l (made_so u.2))

stops-there : (s : List ℕ) (p : ℕ) → Breaks s p → verdict s ≡ bad p
stops-there s p f =
    let e : 0 + length f.before + length f.begun ≡ p = omega (arith, f.place) in
    ap (run start 0) f.split
    ∙ utf8-run f.whole (f.begun ++ f.rest) 0
    ∙ from_start f.begun f.rest (0 + length f.before) f.unfinished f.stuck
    ∙ ap bad e

pub broken : (s : List ℕ) (p : ℕ) → (verdict s ≡ bad p → Breaks s p) × (Breaks s p → verdict s ≡ bad p)
broken s p = (breaks-there s p, stops-there s p)
