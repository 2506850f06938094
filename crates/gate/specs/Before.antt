-- What comes before any entry of a container is looked at (json_binary.h of MySQL; document 01, 'Container rules').
-- Assumes nothing.
use Rattle.std.specs.Prelude.{ℕ, ◌+◌, ◌≤◌, ◌<◌, Bool, true, false, cond, List, ltb, leb, eqb, length, Result, Ok, Err}
use Rattle.layout.specs.Layout.{header_size}
use Rattle.header.specs.Headers.{header_read}
use Rattle.value.specs.declared.View.{View}
use Rattle.header.specs.declared.Header.{Header}
use Rattle.refusal.specs.declared.Refusal.{Refusal}
use Rattle.refusal.specs.declared.Refusal.TheVariants as refusal
use Rattle.gate.specs.Said.{Said, nothing, refuses}

-- ---- 13: the view is that of a whole container in the bytes handed in
abbrev pub names : Result Header Refusal → ℕ → ℕ → Bool
names (Ok h) count size = cond (eqb h.count count) (eqb h.size size) false
names (Err r) count size = false

unfoldable pub matches : List ℕ → View → Bool
matches d v = names (header_read d v.kind v.start (length d)) v.count v.size

-- what comes before any entry is looked at: 1, then 13, also where the wrong kind was asked, then nothing at or past the count
unfoldable pub gated : {A : Type 0} → List ℕ → View → Bool → ℕ → Said A → Said A
gated d v asked i x =
    cond (ltb 16777216 (length d)) (refuses 1)
    (cond asked (cond (matches d v) (cond (leb v.count i) nothing x) (refuses 13)) (refuses 13))

-- the same, as the answer of a test alone: whether there is an entry
unfoldable pub gate_of : List ℕ → View → Bool → ℕ → Result Bool Refusal
gate_of d v asked i =
    cond (ltb 16777216 (length d)) (Err refusal.Document)
    (cond asked (cond (matches d v) (cond (leb v.count i) (Ok false) (Ok true)) (Err refusal.View)) (Err refusal.View))

-- what an open gate is good for
pub record Whole (d : List ℕ) (v : View) (i : ℕ) : Type 0 where
  pub short : length d ≤ 16777216
  pub inside : v.start + v.size ≤ length d
  pub header : header_size v.kind v.count ≤ v.size
  pub below : i < v.count
