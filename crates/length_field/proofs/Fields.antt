-- The length field, group by group: what the groups passed hold, put below the groups to come, is the whole field.
-- Assumes nothing.
use mathlib.Core.Path.{◌≡◌, refl, sym, ap, ◌∙◌}
use mathlib.Core.List.{List}
use Prim.Native.Nat.{ℕ, suc, ◌+◌, ◌-◌, ◌*◌, ◌^◌, ◌≤◌, ◌<◌, min}
use native.Mathlib.Nat.{mul-le-mul_left, pow-le-pow_right, pow-suc}
use native.Mathlib.Numerals.{add-one}
use native.Mathlib.Omega.{arith}
use lib.ListN.{length, get_or, drop, drop_of_length-le}
use lib.Seq.{slice, drop-cons}
use borrow.Author.Tests.{lt-ltb, le-ltb}
use Rattle.std.specs.Prelude.{Ok, Err}
use Rattle.refusal.specs.declared.Refusal.TheVariants as refusal
use Rattle.length_field.specs.Length.{Groups, got, short, long, above, groups, field_of, length_at}
use Rattle.raw.proofs.Parts.{slice-length, slice_at}

-- ---- the groups from place k on, of m
module _ (m k : ℕ) (s : List ℕ) (h : k < m) where
  next : m - k ≡ suc (m - (k + 1))
  next = omega arith

  cut : length s ≤ k → groups (m - k) (drop k s) ≡ short
  unfolding groups
  cut l = rw (next, drop_of_length-le s l)

  module _ (l : k < length s) where
    last : get_or s k 0 < 128 → groups (m - k) (drop k s) ≡ got (get_or s k 0) 1
    unfolding groups
    last t = rw (next, drop-cons s k 0 l, lt-ltb (get_or s k 0) 128 t)

    more : 128 ≤ get_or s k 0 → groups (m - k) (drop k s) ≡ above (get_or s k 0 - 128) (groups (m - (k + 1)) (drop (k + 1) s))
    unfolding groups
    more t = rw (next, add-one, drop-cons s k 0 l, le-ltb (get_or s k 0) 128 t)

-- ---- k groups passed: they hold `low`, and the next counts `unit`
abbrev pub onto : ℕ → ℕ → ℕ → Groups → Groups
onto low unit k (got v j) = got (low + unit * v) (k + j)
onto low unit k short = short
onto low unit k long = long

onto-above : (low unit k x : ℕ) (g : Groups) → onto low unit k (above x g) ≡ onto (low + unit * x) (unit * 128) (k + 1) g
onto-above low unit k x (got v j) =
    let e : low + unit * (x + 128 * v) ≡ low + unit * x + unit * 128 * v = omega arith in
    let f : k + (j + 1) ≡ k + 1 + j = omega arith in
    cc
onto-above low unit k x short = refl
onto-above low unit k x long = refl

abbrev pub Passed : List ℕ → ℕ → ℕ → ℕ → ℕ → ℕ → Type 0
Passed doc at end low unit k = groups 5 (slice at end doc) ≡ onto low unit k (groups (5 - k) (drop k (slice at end doc)))

module _ (doc : List ℕ) (at end low unit k : ℕ) (p : Passed doc at end low unit k) where
  pub cut-here : k < 5 → min end (length doc) - at ≤ k → Err refusal.Cut ≡ length_at doc at end
  unfolding length_at
  cut-here h l = sym (ap (field_of at) (p ∙ ap (onto low unit k) (cut 5 k (slice at end doc) h (rw slice-length l))))

  pub long-here : 5 ≤ k → Err refusal.Length ≡ length_at doc at end
  unfolding length_at groups
  long-here h =
      let e : 5 - k ≡ 0 = omega arith in
      sym (ap (field_of at) (rw e at p))

  module _ (h : k < 5) (l : k < min end (length doc) - at) {b : ℕ} (e : b ≡ get_or doc (at + k) 0) where
    there : k < length (slice at end doc)
    there = rw slice-length l

    byte : get_or (slice at end doc) k 0 ≡ b
    byte = slice_at doc at end k l ∙ sym e

    pub last-here : b < 128 → field_of at (got (low + unit * b) (k + 1)) ≡ length_at doc at end
    unfolding length_at
    last-here t = sym (ap (field_of at) (p ∙ ap (onto low unit k) (rw byte at (last 5 k (slice at end doc) h there (rw byte t)))))

    pub more-here : 128 ≤ b → Passed doc at end (low + unit * (b - 128)) (unit * 128) (k + 1)
    more-here t =
        p
        ∙ ap (onto low unit k) (rw byte at (more 5 k (slice at end doc) h there (rw byte t)))
        ∙ onto-above low unit k (b - 128) (groups (5 - (k + 1)) (drop (k + 1) (slice at end doc)))

-- a field of one byte
pub one : (doc : List ℕ) (at end : ℕ) → 0 < min end (length doc) - at → get_or doc at 0 < 128 → length_at doc at end ≡ Ok (record { length = get_or doc at 0; next = at + 1 })
unfolding length_at
one doc at end l t =
    let z : at + 0 ≡ at = omega arith in
    let b = rw z at (slice_at doc at end 0 l) in
    ap (field_of at) (rw b at (last 5 0 (slice at end doc) (omega arith) (rw slice-length l) (rw b t)))
    ∙ simp (lt-ltb (get_or doc at 0) 4294967296 (omega arith))

-- ---- bounds
pub bound : (low unit k x : ℕ) → unit ≡ 128 ^ k → k < 5 → low < unit → x < 128 → (low + unit * x < unit * 128) × (unit * 128 ≤ 34359738368)
bound low unit k x e h l t =
    let r : x ≤ 127 = omega arith in
    let m = mul-le-mul_left unit r in
    let q = pow-le-pow_right {n = 128} (omega arith) {i = k} {j = 4} (omega arith) in
    (omega arith, omega arith)

pub unit-more : (unit k : ℕ) → unit ≡ 128 ^ k → unit * 128 ≡ 128 ^ (k + 1)
unit-more unit k e = rw (add-one, pow-suc) (ap (λ (u : ℕ). u * 128) e)
