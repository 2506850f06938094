-- UTF-8 as a machine that takes a byte after the other: `verdict` says as a function what the grammar of RFC 3629, section 4, says without one. That it is
-- right is said by Grammar alone.
-- Assumes nothing.
use Rattle.std.specs.Prelude.{ℕ, zero, suc, ◌+◌, cond, List, [], ◌∷◌, ltb, eqb}

-- what may come: a character begins; or a byte from lo to hi, and then k more from 128 to 191
pub data State : Type 0 where
  start : State
  more : ℕ → ℕ → ℕ → State

-- what a byte does: go on to a state, or stop
pub data Move : Type 0 where
  to : State → Move
  stop : Move

-- what a run says: all of it is UTF-8, or the place where it breaks
pub data Verdict : Type 0 where
  ok : Verdict
  bad : ℕ → Verdict

-- the range of a second byte behind b: from 128 to 191, but from lo on behind one byte, and up to hi behind another
abbrev pub least : ℕ → ℕ → ℕ → ℕ
least b first lo = cond (eqb b first) lo 128

abbrev pub most : ℕ → ℕ → ℕ → ℕ
most b last hi = cond (eqb b last) hi 191

-- what a first byte asks of those that follow
unfoldable pub lead : ℕ → Move
lead b =
    cond (ltb b 128) (to start)
    (cond (ltb b 194) stop
    (cond (ltb b 224) (to (more 0 128 191))
    (cond (ltb b 240) (to (more 1 (least b 224 160) (most b 237 159)))
    (cond (ltb b 245) (to (more 2 (least b 240 144) (most b 244 143))) stop))))

-- after a byte of a character of which k more are to come
abbrev pub follow : ℕ → State
follow zero = start
follow (suc k) = more k 128 191

abbrev pub next : State → ℕ → Move
next start b = lead b
next (more k lo hi) b = cond (ltb b lo) stop (cond (ltb hi b) stop (to (follow k)))

abbrev pub onward : Move → (State → Verdict) → Verdict → Verdict
onward (to st) f r = f st
onward stop f r = r

abbrev pub ended : State → ℕ → Verdict
ended start at = ok
ended (more k lo hi) at = bad at

-- the machine from a state on, at a place
unfoldable pub run : State → ℕ → List ℕ → Verdict
run st at [] = ended st at
run st at (b ∷ bs) = onward (next st b) (λ st'. run st' (at + 1) bs) (bad at)

-- the verdict on s, with places counted from k
abbrev pub verdict_from : ℕ → List ℕ → Verdict
verdict_from k s = run start k s

abbrev pub verdict : List ℕ → Verdict
verdict s = verdict_from 0 s

-- a verdict with its place counted from k
abbrev pub plus : ℕ → Verdict → Verdict
plus k ok = ok
plus k (bad p) = bad (k + p)
