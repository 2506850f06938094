-- A scan of paths in some room: all are good and fit, or there is a first that is wrong or finds no room. What is shown in each case.
-- Assumes nothing.
use mathlib.Core.Path.{◌≡◌, refl, sym, ap, ◌∙◌, subst}
use mathlib.Core.Logic.{◌⊎◌, inl, inr, ⊎_elim}
use mathlib.Core.List.Memᴰ
use mathlib.Core.List.{List, [], ◌∷◌, ◌++◌, append-nil, append_assoc, Memᴰ}
use Prim.Native.Nat.{ℕ, zero, suc, ◌+◌, ◌*◌, ◌-◌, ◌≤◌}
use native.Mathlib.Omega.{arith}
use lib.ListN.{length, drop, length-append}
use Rattle.events.specs.Events.{numbers, wide}
use Rattle.paths.specs.Judged.{Judged, node}
use Rattle.events.specs.Listing.{Listing, end, fault, event}
use Rattle.paths.specs.Paths.{Item, scan}
use Rattle.paths.specs.Shown.{cut, flat, over}
use Rattle.paths.proofs.Laid.{walked}
use Rattle.walk_laws.specs.Promise.{event_at, events_in, Good, Wrong, StopsAt, wrong, full, Halt}
use Rattle.walk_laws.proofs.Judge.{Answered, verdict, good-said, wrong-said}

-- ---- the events of good paths among all, and then something
module _ (all : List Item) where
  pub chain : List Item → Listing → Listing
  chain [] l = l
  chain (x ∷ xs) l = event (event_at all x) x.stand.place (chain xs l)

  pub chain-ends : (xs : List Item) (l : Listing) (n : ℕ) → walked (chain xs l) n ≡ walked l (n + length xs)
  unfolding chain walked
  chain-ends [] l n = ap (walked l) (omega arith)
  chain-ends (x ∷ xs) l n = chain-ends xs l (n + 1) ∙ ap (walked l) (omega arith)

  chain-flat : (xs : List Item) (l : Listing) → flat (chain xs l) ≡ events_in all xs ++ flat l
  unfolding chain flat events_in
  chain-flat [] l = refl
  chain-flat (x ∷ xs) l =
      ap (λ (ys : List ℕ). numbers (event_at all x) ++ ys) (chain-flat xs l) ∙ sym (append_assoc (numbers (event_at all x)) (events_in all xs) (flat l))

  pub events-length : (xs : List Item) → length (events_in all xs) ≡ wide * length xs
  unfolding events_in
  events-length [] = refl
  events-length (x ∷ xs) =
      let e : length (numbers (event_at all x) ++ events_in all xs) ≡ wide + length (events_in all xs) = length-append (numbers (event_at all x)) (events_in all xs) in
      let f = events-length xs in
      omega arith

  pub chain-over : (xs : List Item) (l : Listing) (out : List ℕ) → flat l ≡ [] → over (chain xs l) out ≡ events_in all xs ++ drop (wide * length xs) out
  unfolding over
  chain-over xs l out e =
      ap (λ (fs : List ℕ). fs ++ drop (length fs) out)
      (chain-flat xs l ∙ ap (λ (ys : List ℕ). events_in all xs ++ ys) e ∙ append-nil (events_in all xs))
      ∙ ap (λ (j : ℕ). events_in all xs ++ drop j out) (events-length xs)

  cut-chain : (xs : List Item) (l : Listing) (j k : ℕ) → k ≡ length xs + j → cut (chain xs l) k ≡ chain xs (cut l j)
  unfolding chain cut
  cut-chain [] l j k e = ap (cut l) (omega arith)
  cut-chain (x ∷ xs) l j zero e = absurd (omega arith)
  cut-chain (x ∷ xs) l j (suc k) e = ap (event (event_at all x) x.stand.place) (cut-chain xs l j k (omega arith))

-- ---- all are good, and there is room
module _ (d : List ℕ) where
  abbrev AllGood : List Item → Type 0
  AllGood xs = (x : Item) → Memᴰ x xs → Good d x

  pub record Fine (xs : List Item) (k : ℕ) : Type 0 where
    pub good : AllGood xs
    pub fits : length xs ≤ k

  pub stop-room : {k n f p : ℕ} {x : Item} → StopsAt d k n x f p → n ≤ k
  stop-room (wrong h w) = h
  stop-room (full h g) = omega arith

-- ---- what a scan shows
module _ (d : List ℕ) (all : List Item) where
  good-scan : (xs ys : List Item) → AllGood d xs → scan d all (xs ++ ys) ≡ chain all xs (scan d all ys)
  unfolding scan chain
  good-scan [] ys g = refl
  good-scan (x ∷ xs) ys g =
      ap (λ (j : Judged). node j x.stand.place (λ w. scan d all (xs ++ ys))) (good-said d all x (g x (Memᴰ.head refl)))
      ∙ ap (event (event_at all x) x.stand.place) (good-scan xs ys (λ y m. g y (Memᴰ.tail m)))

  pub fine-shown : (xs : List Item) (k : ℕ) → Fine d xs k → cut (scan d all xs) k ≡ chain all xs end
  unfolding cut scan
  fine-shown xs k f =
      let h = f.fits in
      ap (λ (ys : List Item). cut (scan d all ys) k) (sym (append-nil xs))
      ∙ ap (λ (l : Listing). cut l k) (good-scan xs [] f.good)
      ∙ cut-chain all xs end (k - length xs) k (omega arith)

  -- the path at which it stops
  stop-shown : (xs : List Item) (x : Item) (f p n k j : ℕ) → StopsAt d k n x f p → k ≡ n + j → cut (scan d all (x ∷ xs)) j ≡ fault f p
  unfolding cut scan
  stop-shown xs x f p n k j (wrong h w) e = ap (λ (y : Judged). cut (node y x.stand.place (λ z. scan d all xs)) j) (wrong-said d all x w)
  stop-shown xs x f p n k zero (full h g) e = ap (λ (y : Judged). cut (node y x.stand.place (λ z. scan d all xs)) 0) (good-said d all x g)
  stop-shown xs x f p n k (suc j) (full h g) e = absurd (omega arith)

  pub halt-shown : (xs : List Item) (k f p n : ℕ) (h : Halt d xs k f p n) → cut (scan d all xs) k ≡ chain all h.before (fault f p)
  halt-shown xs k f p n h =
      let r = stop-room d h.stops in
      let c = h.count in
      ap (λ (ys : List Item). cut (scan d all ys) k) h.split
      ∙ ap (λ (l : Listing). cut l k) (good-scan h.before (h.at ∷ h.after) h.good)
      ∙ cut-chain all h.before (scan d all (h.at ∷ h.after)) (k - n) k (omega arith)
      ∙ ap (chain all h.before) (stop-shown h.after h.at f p n k (k - n) h.stops (omega arith))

-- ---- one of the two is so
module _ (d : List ℕ) where
  abbrev pub Halted : List Item → ℕ → Type 0
  Halted xs k = (f : ℕ) × ((p : ℕ) × ((n : ℕ) × Halt d xs k f p n))

  at_first : (x : Item) (xs : List Item) (k f p : ℕ) → StopsAt d k 0 x f p → Fine d (x ∷ xs) k ⊎ Halted (x ∷ xs) k
  at_first x xs k f p s =
      inr (
        f,
        (
          p,
          (0, record { before = []; at = x; after = xs; split = refl; count = refl; good = λ y m. absurd (Memᴰ.not-nil m); stops = s }),
        ),
      )

  one_more : {k n f p : ℕ} {x : Item} → StopsAt d k n x f p → StopsAt d (suc k) (suc n) x f p
  one_more (wrong h w) = wrong (omega arith) w
  one_more (full h g) = full (ap suc h) g

  and-good : (x : Item) (xs : List Item) → Good d x → AllGood d xs → AllGood d (x ∷ xs)
  and-good x xs g h y m = ⊎_elim (λ e. subst (Good d) (sym e) g) (λ n. h y n) (Memᴰ.cases_cons m)

  later : (x : Item) (xs : List Item) (k : ℕ) → Good d x → Fine d xs k ⊎ Halted xs k → Fine d (x ∷ xs) (suc k) ⊎ Halted (x ∷ xs) (suc k)
  later x xs k g (inl f) = let l = f.fits in inl (record { good = and-good x xs g f.good; fits = omega arith })
  later x xs k g (inr (f, (p, (n, h)))) =
      inr (
        f,
        (
          p,
          (
            suc n,
            record {
              before = x ∷ h.before;
              at = h.at;
              after = h.after;
              split = ap (λ (ys : List Item). x ∷ ys) h.split;
              count = ap suc h.count;
              good = and-good x h.before g h.good;
              stops = one_more h.stops;
            },
          ),
        ),
      )

  pub decided : (xs : List Item) (k : ℕ) → ((x : Item) → Memᴰ x xs → Answered d x.stand) → Fine d xs k ⊎ Halted xs k
  decided [] k a = inl (record { good = λ y m. absurd (Memᴰ.not-nil m); fits = omega arith })
  decided (x ∷ xs) k a = go k (verdict d x (a x (Memᴰ.head refl))) (λ j. decided xs j (λ y m. a y (Memᴰ.tail m)))
    where
      go : (k : ℕ) → Good d x ⊎ ((f : ℕ) × ((p : ℕ) × Wrong d x f p)) → ((j : ℕ) → Fine d xs j ⊎ Halted xs j) → Fine d (x ∷ xs) k ⊎ Halted (x ∷ xs) k
      go k (inr (f, (p, w))) h = at_first x xs k f p (wrong (omega arith) w)
      go zero (inl g) h = at_first x xs 0 12 x.stand.place (full refl g)
      go (suc k) (inl g) h = later x xs k g (h k)
