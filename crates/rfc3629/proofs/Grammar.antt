-- The machine and the grammar agree: what a first byte asks for is what the characters have that begin with it. So its verdict is ok
-- exactly for what the grammar has.
-- Assumes nothing.
use Prim.Native.Nat.{ℕ, zero, suc, ◌+◌, ◌≤◌, ◌<◌}
use mathlib.Core.Path.{◌≡◌, refl, sym, ap, ◌∙◌, subst}
use mathlib.Core.List.{List, [], ◌∷◌, ◌++◌, append_assoc, append-nil}
use native.Mathlib.Omega.{arith}
use lib.Dec.{ltb, eqb}
use lib.ListN.{length, length-append}
use borrow.Author.Tests.{ltb-true, ltb-false, eqb-true, eqb-false, ne_eqb}
use Rattle.rfc3629.specs.Machine.{State, start, more, Move, to, stop, ok, bad, lead, follow, onward, run, verdict}
use Rattle.rfc3629.specs.Grammar.{Within, Char, utf8-1, utf8-2, utf8-3-E0, utf8-3-E1-EC, utf8-3-ED, utf8-3-EE-EF, utf8-4-F0, utf8-4-F1-F3, utf8-4-F4, Utf8}
use Rattle.rfc3629.specs.Grammar.{none, and}
use Rattle.rfc3629.proofs.Steps.{by, enter, inside, lead1, lead_low, lead2, lead3, lead4, lead_high}

-- ---- the range of a second byte
module _ (b : ℕ) where
  lead_e0 : b ≡ 224 → lead b ≡ to (more 1 160 191)
  unfolding lead
  lead_e0 e = ap lead e

  lead_ed : b ≡ 237 → lead b ≡ to (more 1 128 159)
  unfolding lead
  lead_ed e = ap lead e

  lead_e : 224 ≤ b → b < 240 → (b ≡ 224 → ⊥) → (b ≡ 237 → ⊥) → lead b ≡ to (more 1 128 191)
  lead_e g h n m = lead3 b g h ∙ simp (ne_eqb b 224 n, ne_eqb b 237 m)

  lead_f0 : b ≡ 240 → lead b ≡ to (more 2 144 191)
  unfolding lead
  lead_f0 e = ap lead e

  lead_f4 : b ≡ 244 → lead b ≡ to (more 2 128 143)
  unfolding lead
  lead_f4 e = ap lead e

  lead_f : 240 ≤ b → b ≤ 244 → (b ≡ 240 → ⊥) → (b ≡ 244 → ⊥) → lead b ≡ to (more 2 128 191)
  lead_f g h n m = lead4 b g h ∙ simp (ne_eqb b 240 n, ne_eqb b 244 m)

-- ---- the row of a first byte
pub data Row : ℕ → Move → Type 0 where
  row-1 : {a : ℕ} → Within 0 127 a → Row a (to start)
  row-2 : {a : ℕ} → Within 194 223 a → Row a (to (more 0 128 191))
  row-E0 : {a : ℕ} → a ≡ 224 → Row a (to (more 1 160 191))
  row-E1 : {a : ℕ} → Within 225 236 a → Row a (to (more 1 128 191))
  row-ED : {a : ℕ} → a ≡ 237 → Row a (to (more 1 128 159))
  row-EE : {a : ℕ} → Within 238 239 a → Row a (to (more 1 128 191))
  row-F0 : {a : ℕ} → a ≡ 240 → Row a (to (more 2 144 191))
  row-F1 : {a : ℕ} → Within 241 243 a → Row a (to (more 2 128 191))
  row-F4 : {a : ℕ} → a ≡ 244 → Row a (to (more 2 128 143))
  no_row : {a : ℕ} → Row a stop

module _ (a : ℕ) where
  is : {m : Move} → lead a ≡ m → Row a m → Row a (lead a)
  is e r = subst (Row a) (sym e) r

  row-four : 240 ≤ a → Row a (lead a)
  row-four h =
      by (ltb 244 a) (λ t. is (lead_high a (ltb-true 244 a t)) no_row)
      (λ t.
      by (eqb a 240) (λ e. is (lead_f0 a (eqb-true a 240 e)) (row-F0 (eqb-true a 240 e)))
      (λ n.
      by (eqb a 244) (λ e. is (lead_f4 a (eqb-true a 244 e)) (row-F4 (eqb-true a 244 e)))
      (λ k.
      let u = ltb-false 244 a t in
      let v = eqb-false a 240 n in
      let w = eqb-false a 244 k in
      is (lead_f a h u v w) (row-F1 (omega arith)))))

  row-three : 224 ≤ a → a < 240 → Row a (lead a)
  row-three h u =
      by (eqb a 224) (λ e. is (lead_e0 a (eqb-true a 224 e)) (row-E0 (eqb-true a 224 e)))
      (λ n.
      by (eqb a 237) (λ e. is (lead_ed a (eqb-true a 237 e)) (row-ED (eqb-true a 237 e)))
      (λ k.
      let v = eqb-false a 224 n in
      let w = eqb-false a 237 k in
      by (ltb a 237) (λ t. let x = ltb-true a 237 t in is (lead_e a h u v w) (row-E1 (omega arith)))
      (λ t. let x = ltb-false a 237 t in is (lead_e a h u v w) (row-EE (omega arith)))))

  pub row : Row a (lead a)
  row =
      by (ltb a 128) (λ t. let h = ltb-true a 128 t in is (lead1 a h) (row-1 (omega arith)))
      (λ t.
      by (ltb a 194) (λ u. is (lead_low a (ltb-false a 128 t) (ltb-true a 194 u)) no_row)
      (λ u.
      let g = ltb-false a 194 u in
      by (ltb a 224) (λ v. let h = ltb-true a 224 v in is (lead2 a g h) (row-2 (omega arith)))
      (λ v. by (ltb a 240) (λ w. row-three (ltb-false a 224 v) (ltb-true a 240 w)) (λ w. row-four (ltb-false a 240 w)))))

-- ---- what a move asks for: no byte more; a byte from lo to hi and then k tails; or there is no character
pub data Tails : ℕ → ℕ → ℕ → List ℕ → Type 0 where
  last : {lo hi b : ℕ} → Within lo hi b → Tails zero lo hi (b ∷ [])
  then : {k lo hi b : ℕ} {q : List ℕ} → Within lo hi b → Tails k 128 191 q → Tails (suc k) lo hi (b ∷ q)

abbrev pub Asks : Move → List ℕ → Type 0
Asks (to start) q = q ≡ []
Asks (to (more k lo hi)) q = Tails k lo hi q
Asks stop q = ⊥

-- what is asked for makes a character
by_row : {a : ℕ} {m : Move} {q : List ℕ} → Row a m → Asks m q → Char (a ∷ q)
by_row {a} (row-1 w) e = subst (λ (q : List ℕ). Char (a ∷ q)) (sym e) (utf8-1 w)
by_row (row-2 w) (last t) = utf8-2 w t
by_row {q = q} (row-E0 i) (then w (last t)) = subst (λ (n : ℕ). Char (n ∷ q)) (sym i) (utf8-3-E0 w t)
by_row (row-E1 w) (then t (last u)) = utf8-3-E1-EC w t u
by_row {q = q} (row-ED i) (then w (last t)) = subst (λ (n : ℕ). Char (n ∷ q)) (sym i) (utf8-3-ED w t)
by_row (row-EE w) (then t (last u)) = utf8-3-EE-EF w t u
by_row {q = q} (row-F0 i) (then w (then t (last u))) = subst (λ (n : ℕ). Char (n ∷ q)) (sym i) (utf8-4-F0 w t u)
by_row (row-F1 w) (then t (then u (last v))) = utf8-4-F1-F3 w t u v
by_row {q = q} (row-F4 i) (then w (then t (last u))) = subst (λ (n : ℕ). Char (n ∷ q)) (sym i) (utf8-4-F4 w t u)
by_row no_row e = absurd e

pub makes : (a : ℕ) {q : List ℕ} {m : Move} → lead a ≡ m → Asks m q → Char (a ∷ q)
makes a l x = by_row (subst (Row a) l (row a)) x

-- and a character is made so
pub data Made : List ℕ → Type 0 where
  made : {a : ℕ} {q : List ℕ} {m : Move} → lead a ≡ m → Asks m q → Made (a ∷ q)

pub made_so : {c : List ℕ} → Char c → Made c
unfolding lead
made_so (utf8-1 {a} w) = made {m = to start} (lead1 a (omega arith)) refl
made_so (utf8-2 {a} w t) = made {m = to (more 0 128 191)} (lead2 a w.0 (omega arith)) (last t)
made_so (utf8-3-E0 w t) = made {m = to (more 1 160 191)} refl (then w (last t))
made_so (utf8-3-E1-EC {a} w t u) = made {m = to (more 1 128 191)} (lead_e a (omega arith) (omega arith) (λ e. omega arith) (λ e. omega arith)) (then t (last u))
made_so (utf8-3-ED w t) = made {m = to (more 1 128 159)} refl (then w (last t))
made_so (utf8-3-EE-EF {a} w t u) = made {m = to (more 1 128 191)} (lead_e a (omega arith) (omega arith) (λ e. omega arith) (λ e. omega arith)) (then t (last u))
made_so (utf8-4-F0 w t u) = made {m = to (more 2 144 191)} refl (then w (then t (last u)))
made_so (utf8-4-F1-F3 {a} w t u v) =
    made {m = to (more 2 128 191)} (lead_f a (omega arith) (omega arith) (λ e. omega arith) (λ e. omega arith)) (then t (then u (last v)))
made_so (utf8-4-F4 w t u) = made {m = to (more 2 128 143)} refl (then w (then t (last u)))

pub asked : {a : ℕ} {q : List ℕ} {m : Move} → lead a ≡ m → Made (a ∷ q) → Asks m q
asked {q = q} l (made k x) = subst (λ (n : Move). Asks n q) (sym k ∙ l) x

-- ---- the run over whole characters
tails-run : {k lo hi : ℕ} {q : List ℕ} (s : List ℕ) (at : ℕ) → Tails k lo hi q → run (more k lo hi) at (q ++ s) ≡ run start (at + length q) s
tails-run {lo = lo} {hi = hi} s at (last {b = b} w) = enter (more 0 lo hi) start b s at (inside 0 lo hi b w)
tails-run {lo = lo} {hi = hi} s at (then {k} {b = b} {q = q} w t) =
    enter (more (suc k) lo hi) (more k 128 191) b (q ++ s) at (inside (suc k) lo hi b w)
    ∙ tails-run s (at + 1) t
    ∙ ap (λ (n : ℕ). run start n s) (omega arith)

made-run : {c : List ℕ} (s : List ℕ) (at : ℕ) → Made c → run start at (c ++ s) ≡ run start (at + length c) s
made-run s at (made {a} {m = to start} l x) =
    ap (λ (q : List ℕ). run start at (a ∷ (q ++ s))) x
    ∙ enter start start a s at l
    ∙ ap (λ (q : List ℕ). run start (at + length (a ∷ q)) s) (sym x)
made-run s at (made {a} {q} {m = to (more k lo hi)} l x) =
    enter start (more k lo hi) a (q ++ s) at l ∙ tails-run s (at + 1) x ∙ ap (λ (n : ℕ). run start n s) (omega arith)
made-run s at (made {m = stop} l x) = absurd x

pub utf8-run : {c : List ℕ} → Utf8 c → (s : List ℕ) (at : ℕ) → run start at (c ++ s) ≡ run start (at + length c) s
utf8-run none s at = ap (λ (n : ℕ). run start n s) (omega arith)
utf8-run (and {c} {s = d} x u) s at =
    ap (run start at) (append_assoc c d s)
    ∙ made-run (d ++ s) at (made_so x)
    ∙ utf8-run u s (at + length c)
    ∙ ap (λ (n : ℕ). run start n s) (omega (arith, length-append c d))

pub complete : {s : List ℕ} → Utf8 s → (at : ℕ) → run start at s ≡ ok
unfolding run
complete {s} u at = ap (run start at) (sym (append-nil s)) ∙ utf8-run u [] at

-- ---- what a run says that ends well
data Ends : State → List ℕ → Type 0 where
  begin : {s : List ℕ} → Utf8 s → Ends start s
  within : {k lo hi : ℕ} {q t : List ℕ} → Tails k lo hi q → Utf8 t → Ends (more k lo hi) (q ++ t)

never : {A : Type 0} {p : ℕ} → bad p ≡ ok → A
never e = absurd (let z : ◌≡◌ {A = ℕ} 0 1 = cc in omega arith)

joined : {st : State} {b : ℕ} {bs : List ℕ} → lead b ≡ to st → Ends st bs → Utf8 (b ∷ bs)
joined {b = b} l (begin u) = and (makes b l refl) u
joined {b = b} l (within x u) = and (makes b l x) u

first : (b : ℕ) (bs : List ℕ) (at : ℕ) (m : Move) → lead b ≡ m → onward m (λ st. run st (at + 1) bs) (bad at) ≡ ok
    → ((st : State) → run st (at + 1) bs ≡ ok → Ends st bs)
    → Utf8 (b ∷ bs)
first b bs at (to st) l e f = joined l (f st e)
first b bs at stop l e f = never e

grow : (k : ℕ) {lo hi b : ℕ} {bs : List ℕ} → Within lo hi b → Ends (follow k) bs → Ends (more k lo hi) (b ∷ bs)
grow zero w (begin u) = within (last w) u
grow (suc k) w (within t u) = within (then w t) u

sound : (st : State) (s : List ℕ) (at : ℕ) → run st at s ≡ ok → Ends st s
unfolding run
sound start [] at e = begin none
sound (more k lo hi) [] at e = never e
sound start (b ∷ bs) at e = begin (first b bs at (lead b) refl e (λ st. sound st bs (at + 1)))
sound (more k lo hi) (b ∷ bs) at e =
    by (ltb b lo) (λ t. never (rw t at e))
    (λ t.
    by (ltb hi b) (λ u. never (simp (t, u) at e))
    (λ u. grow k (ltb-false b lo t, ltb-false hi b u) (sound (follow k) bs (at + 1) (simp (t, u) at e))))

ends : {s : List ℕ} → Ends start s → Utf8 s
ends (begin u) = u

pub valid : (s : List ℕ) → (verdict s ≡ ok → Utf8 s) × (Utf8 s → verdict s ≡ ok)
valid s = (λ e. ends (sound start s 0 e), λ u. complete u 0)
