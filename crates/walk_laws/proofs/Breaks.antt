-- What the grammar says of a part's own bytes it says of the document: each byte of the part stands in the document as far behind the part's start, so the
-- place of a break moves by that much and nothing else does.
-- Assumes nothing.
use mathlib.Core.Path.{◌≡◌, refl, sym, ap, ◌∙◌, subst}
use mathlib.Core.List.{List, [], ◌∷◌, ◌++◌, append_assoc}
use Prim.Native.Nat.{ℕ, zero, suc, ◌+◌, ◌-◌, ◌≤◌, ◌<◌}
use native.Mathlib.Omega.{arith}
use lib.ListN.{length, take, drop, length-append, length-take, length-drop}
use lib.Seq.{slice, take-nil, take-append_seam, drop-append_seam, take-take, drop-drop, take-add, length-slice}
use Rattle.rfc3629.specs.Grammar.{Utf8, Begins, Unfinished, Stuck, Breaks}
use Rattle.value.specs.declared.Span.{Span}
use Rattle.events.specs.Text.{bytes}
use Rattle.walk_laws.specs.Promise.{BreaksAt}

-- ---- bytes from one place up to another
slice_is : (i n : ℕ) (d : List ℕ) → slice i (i + n) d ≡ take n (drop i d)
slice_is zero n d = let e : 0 + n ≡ n = omega arith in ap (λ (k : ℕ). take k d) e
slice_is (suc i) n [] = let e : suc i + n ≡ suc (i + n) = omega arith in ap (λ (k : ℕ). slice (suc i) k []) e ∙ sym (take-nil n)
slice_is (suc i) n (x ∷ d) = let e : suc i + n ≡ suc (i + n) = omega arith in ap (λ (k : ℕ). slice (suc i) k (x ∷ d)) e ∙ slice_is i n d

slice-to : (i j n : ℕ) (d : List ℕ) → j ≡ i + n → slice i j d ≡ take n (drop i d)
slice-to i j n d e = ap (λ (k : ℕ). slice i k d) e ∙ slice_is i n d

-- up to a place, and from there on
slice-two : (i j k : ℕ) (d : List ℕ) → i ≤ j → j ≤ k → slice i k d ≡ slice i j d ++ slice j k d
slice-two i j k d p q =
    let e : j ≡ i + (j - i) = omega arith in
    slice-to i k ((j - i) + (k - j)) d (omega arith)
    ∙ take-add (j - i) (k - j) (drop i d)
    ∙ ap (λ (x : List ℕ). take (j - i) (drop i d) ++ x)
    (ap (take (k - j)) (drop-drop (j - i) i d ∙ ap (λ (m : ℕ). drop m d) (sym e)) ∙ sym (slice-to j k (k - j) d (omega arith)))
    ∙ ap (λ (x : List ℕ). x ++ slice j k d) (sym (slice-to i j (j - i) d e))

-- ---- the parts of a list whose first n are A and then C
module _ (n : ℕ) (l a c : List ℕ) (e : take n l ≡ a ++ c) where
  front_fits : length a ≤ n
  front_fits =
      let p : length (take n l) ≡ length (a ++ c) = ap length e in
      omega (arith, length-take n l, length-append a c)

  front : take (length a) l ≡ a
  front = sym (take-take (length a) n l front_fits) ∙ ap (take (length a)) e ∙ take-append_seam a c

  back : take (n - length a) (drop (length a) l) ≡ c
  back =
      let f = front_fits in
      let m : length a + (n - length a) ≡ n = omega arith in
      sym (drop-append_seam a (take (n - length a) (drop (length a) l)))
      ∙ ap (λ (x : List ℕ). drop (length a) (x ++ take (n - length a) (drop (length a) l))) (sym front)
      ∙ ap (drop (length a)) (sym (take-add (length a) (n - length a) l) ∙ ap (λ (k : ℕ). take k l) m ∙ e)
      ∙ drop-append_seam a c

module _ (d : List ℕ) (s : Span) (inside : s.start + s.len ≤ length d) where
  -- ---- from the part to the document
  module _ {q : ℕ} (b : Breaks (bytes d s) q) where
    abbrev long : ℕ
    long = length b.before

    abbrev more : ℕ
    more = length b.begun

    abbrev begins : ℕ
    begins = s.start + long

    whole_is : slice s.start begins d ≡ b.before
    whole_is = slice_is s.start long d ∙ front s.len (drop s.start d) b.before (b.begun ++ b.rest) b.split

    -- what is from the last character on
    tail : take (s.len - long) (drop begins d) ≡ b.begun ++ b.rest
    tail =
        ap (take (s.len - long)) (sym (drop-drop long s.start d))
        ∙ back s.len (drop s.start d) b.before (b.begun ++ b.rest) b.split

    place_is : s.start + q ≡ begins + more
    place_is = omega (arith, b.place)

    begun-is : slice begins (s.start + q) d ≡ b.begun
    begun-is = slice-to begins (s.start + q) more d place_is ∙ front (s.len - long) (drop begins d) b.begun b.rest tail

    lengths : long + (more + length b.rest) ≡ s.len
    lengths =
        let e : length (bytes d s) ≡ length (b.before ++ (b.begun ++ b.rest)) = ap length b.split in
        omega (arith, length-append b.before (b.begun ++ b.rest), length-append b.begun b.rest, length-take s.len (drop s.start d), length-drop s.start d)

    ended_so : (r : List ℕ) → b.rest ≡ r → Stuck b.begun r → s.start + q ≡ s.start + s.len → begins < s.start + q
    ended_so [] e k p = go b.begun refl
      where
        go : (m : List ℕ) → b.begun ≡ m → begins < s.start + q
        go [] f = absurd (k f)
        go (x ∷ m) f = let g : more ≡ length (x ∷ m) = ap length f in omega (arith, place_is)
    ended_so (x ∷ r) e k p = let g : length b.rest ≡ length (x ∷ r) = ap length e in absurd (omega (arith, lengths, place_is))

    stuck-so : (r : List ℕ) → b.rest ≡ r → Stuck b.begun r → s.start + q < s.start + s.len → Begins (slice begins (s.start + q + 1) d) → ⊥
    stuck-so [] e k p = let g : length b.rest ≡ 0 = ap length e in absurd (omega (arith, lengths, place_is))
    stuck-so (x ∷ r) e k p =
        let t : take (s.len - long) (drop begins d) ≡ (b.begun ++ x ∷ []) ++ r =
        tail ∙ ap (λ (y : List ℕ). b.begun ++ y) e ∙ sym (append_assoc b.begun (x ∷ []) r) in
        let n : s.start + q + 1 ≡ begins + length (b.begun ++ x ∷ []) = omega (arith, place_is, length-append b.begun (x ∷ [])) in
        let i : slice begins (s.start + q + 1) d ≡ b.begun ++ x ∷ [] =
        slice-to begins (s.start + q + 1) (length (b.begun ++ x ∷ [])) d n ∙ front (s.len - long) (drop begins d) (b.begun ++ x ∷ []) r t in
        λ y. k (subst Begins i y)

    pub to-document : BreaksAt d s (s.start + q)
    to-document =
        record {
          inside = inside;
          begun = begins;
          order = (omega arith, omega (arith, place_is), omega (arith, place_is, lengths));
          whole = subst Utf8 (sym whole_is) b.whole;
          unfinished = subst Unfinished (sym begun-is) b.unfinished;
          ended = λ e. omega (arith, ended_so b.rest refl b.stuck e);
          stuck = stuck-so b.rest refl b.stuck;
        }

  -- ---- and back
  module _ {p : ℕ} (b : BreaksAt d s p) where
    abbrev end : ℕ
    end = s.start + s.len

    parts : bytes d s ≡ slice s.start b.begun d ++ (slice b.begun p d ++ slice p end d)
    parts =
        let o = b.order in
        sym (slice_is s.start s.len d)
        ∙ slice-two s.start b.begun end d o.0 (omega arith)
        ∙ ap (λ (x : List ℕ). slice s.start b.begun d ++ x) (slice-two b.begun p end d o.1 o.2)

    stuck_at : (r : List ℕ) → slice p end d ≡ r → Stuck (slice b.begun p d) r
    stuck_at [] e =
        let o = b.order in
        let n : length (slice p end d) ≡ 0 = ap length e in
        let m = b.ended (omega (arith, length-slice p end d inside)) in
        λ f. let g : length (slice b.begun p d) ≡ 0 = ap length f in omega (arith, length-slice b.begun p d (omega arith))
    stuck_at (x ∷ r) e =
        let o = b.order in
        let n : length (slice p end d) ≡ length (x ∷ r) = ap length e in
        let h : p < end = omega (arith, length-slice p end d inside) in
        let f : slice p end d ≡ slice p (p + 1) d ++ slice (p + 1) end d = slice-two p (p + 1) end d (omega arith) (omega arith) in
        let g : slice p (p + 1) d ≡ x ∷ [] =
        slice_is p 1 d ∙ front (end - p) (drop p d) (x ∷ []) r (sym (slice-to p end (end - p) d (omega arith)) ∙ e) in
        let i : slice b.begun (p + 1) d ≡ slice b.begun p d ++ x ∷ [] =
        slice-two b.begun p (p + 1) d o.1 (omega arith) ∙ ap (λ (y : List ℕ). slice b.begun p d ++ y) g in
        λ y. b.stuck h (subst Begins (sym i) y)

    pub to_part : Breaks (bytes d s) (p - s.start)
    to_part =
        let o = b.order in
        record {
          before = slice s.start b.begun d;
          begun = slice b.begun p d;
          rest = slice p end d;
          split = parts;
          place = omega (arith, length-slice s.start b.begun d (omega arith), length-slice b.begun p d (omega arith));
          whole = b.whole;
          unfinished = b.unfinished;
          stuck = stuck_at (slice p end d) refl;
        }
