-- Digits two by two: their count is even, each is a digit, and the byte of a pair stands at half the place of its first digit.
-- Assumes nothing.
use Prim.Native.Nat.{ℕ, suc, zero, ◌+◌, ◌-◌, ◌*◌, ◌/◌, ◌%◌, ◌≤◌, ◌<◌}
use mathlib.Core.Path.{◌≡◌, refl, sym, subst}
use mathlib.Core.Bool.{Bool, true, false}
use mathlib.Core.List.{List, [], ◌∷◌}
use native.Mathlib.Omega.{arith}
use lib.Dec.{T, ltb, leb}
use lib.ListN.{length, get_or}
use borrow.Author.Tests.{ltb-true, lt-ltb, leb-true}
use Rattle.std.specs.Char.{is_ascii_hexdigit}
use Rattle.std.specs.List.{list_all}
use Rattle.request.specs.Test.{both, is_in}
use Rattle.hexadecimal.specs.Hex.{digit, are_pairs, pairs, is_hex}

by : {A : Type 0} (t : Bool) → (t ≡ true → A) → (t ≡ false → A) → A
by true f g = f refl
by false f g = g refl

both_true : (a b : Bool) → both a b ≡ true → (a ≡ true) × (b ≡ true)
both_true true b e = (refl, e)
both_true false b e = absurd (subst T (sym e) tt)

-- ---- the tests of a text
hex_digit : (c : ℕ) → ltb (digit c) 16 ≡ is_ascii_hexdigit c
unfolding digit
hex_digit c =
    by (is_in c 48 57)
    (λ e. let l = leb-true c 57 (both_true (leb 48 c) (leb c 57) e).1 in simp (e, lt-ltb (c - 48) 16 (omega arith)))
    (λ e.
    by (is_in c 65 70)
    (λ f. let l = leb-true c 70 (both_true (leb 65 c) (leb c 70) f).1 in simp (e, f, lt-ltb (c - 55) 16 (omega arith)))
    (λ f.
    by (is_in c 97 102)
    (λ g. let l = leb-true c 102 (both_true (leb 97 c) (leb c 102) g).1 in simp (e, f, g, lt-ltb (c - 87) 16 (omega arith)))
    (λ g. simp (e, f, g))))

pub even : (xs : List ℕ) → length xs % 2 ≡ 0 → list_all is_ascii_hexdigit xs ≡ are_pairs xs
unfolding are_pairs
even [] h = refl
even (a ∷ []) h = absurd (omega arith)
even (a ∷ b ∷ cs) h = simp (hex_digit a, hex_digit b, even cs (omega arith))

pub odd : (xs : List ℕ) → 1 ≤ length xs % 2 → are_pairs xs ≡ false
unfolding are_pairs
odd [] h = absurd (omega arith)
odd (a ∷ []) h = refl
odd (a ∷ b ∷ cs) h =
    let o = odd cs (omega arith) in
    by (ltb (digit a) 16) (λ e. by (ltb (digit b) 16) (λ f. simp (e, f, o)) (λ f. simp (e, f))) (λ e. simp e)

-- ---- what is known of a text that passes
-- half as many bytes as digits
pub half_pairs : (t : List ℕ) → are_pairs t ≡ true → 2 * length (pairs t) ≡ length t
unfolding are_pairs pairs
half_pairs [] e = refl
half_pairs (a ∷ []) e = absurd (subst T (sym e) tt)
half_pairs (a ∷ b ∷ cs) e =
    let u = (both_true (ltb (digit a) 16) _ e).1 in
    let h = half_pairs cs (both_true (ltb (digit b) 16) (are_pairs cs) u).1 in
    omega arith

pub half : (t : List ℕ) → is_hex t ≡ true → length (pairs t) ≡ length t / 2
unfolding is_hex pairs
half [] e = absurd (subst T (sym e) tt)
half (a ∷ []) e = refl
half (a ∷ b ∷ cs) e = let h = half_pairs (a ∷ b ∷ cs) e in omega arith

-- a pair and its byte
pub record Pair (t : List ℕ) (k : ℕ) : Type 0 where
  pub first : digit (get_or t (2 * k) 0) < 16
  pub second : digit (get_or t (2 * k + 1) 0) < 16
  pub byte : get_or (pairs t) k 0 ≡ 16 * digit (get_or t (2 * k) 0) + digit (get_or t (2 * k + 1) 0)

pair_in : (t : List ℕ) (k : ℕ) → are_pairs t ≡ true → k < length (pairs t) → Pair t k
unfolding are_pairs pairs
pair_in [] k e h = absurd (omega arith)
pair_in (a ∷ []) k e h = absurd (omega arith)
pair_in (a ∷ b ∷ cs) zero e h =
    let u = both_true (ltb (digit a) 16) _ e in
    let v = both_true (ltb (digit b) 16) (are_pairs cs) u.1 in
    record { first = ltb-true (digit a) 16 u.0; second = ltb-true (digit b) 16 v.0; byte = refl }
pair_in (a ∷ b ∷ cs) (suc k) e h =
    let u = both_true (ltb (digit a) 16) _ e in
    let v = both_true (ltb (digit b) 16) (are_pairs cs) u.1 in
    let p = pair_in cs k v.1 (omega arith) in
    let i : 2 * suc k ≡ suc (suc (2 * k)) = omega arith in
    let j : 2 * suc k + 1 ≡ suc (suc (2 * k + 1)) = omega arith in
    record { first = rw i p.first; second = rw j p.second; byte = rw (j, i) p.byte }

pub pair_at : (t : List ℕ) (k : ℕ) → is_hex t ≡ true → k < length (pairs t) → Pair t k
unfolding is_hex pairs
pair_at [] k e h = absurd (omega arith)
pair_at (a ∷ []) k e h = absurd (omega arith)
pair_at (a ∷ b ∷ cs) k e h = pair_in (a ∷ b ∷ cs) k e h
