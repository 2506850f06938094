-- The index of a path in a list: items that are not it are passed, and it stands behind them.
--     Past                     what items add to an index
--     past_one and others      items that are not the path: one, two lists, the items behind another path
--     index_at                 the index of an item that is behind such
--     last_snoc, above-snoc    a path's last position and what is before it; `snoc_of` puts both together
--     longer, same_next        paths that begin alike
-- Assumes nothing.
use mathlib.Core.Path.{◌≡◌, refl, ap, ◌∙◌}
use mathlib.Core.Bool.{Bool, true, false, cond}
use mathlib.Core.List.{List, [], ◌∷◌, ◌++◌, map, append_assoc}
use Prim.Native.Nat.{ℕ, suc, ◌+◌}
use native.Mathlib.Omega.{arith}
use lib.Dec.{eqb}
use lib.ListN.{length, length-append}
use borrow.Author.Tests.{eqb-true, eq-eqb}
use Rattle.paths.specs.Paths.{Item, item, last_of, above, is_same, index_of}

-- an item seen from the end of a path above it
abbrev pub behind : List ℕ → Item → Item
behind π x = item (π ++ x.path) x.stand

-- ---- whether two paths are one
same_self : (π : List ℕ) → is_same π π ≡ true
unfolding is_same
same_self [] = refl
same_self (i ∷ π) = ap (λ (b : Bool). cond b (is_same π π) false) (eq-eqb i i refl) ∙ same_self π

same-differ : (π ρ : List ℕ) → (π ≡ ρ → ⊥) → is_same π ρ ≡ false
unfolding is_same
same-differ [] [] h = absurd (h refl)
same-differ [] (j ∷ ρ) h = refl
same-differ (i ∷ π) [] h = refl
same-differ (i ∷ π) (j ∷ ρ) h = go (eqb i j) refl (λ f. same-differ π ρ f)
  where
    go : (b : Bool) → eqb i j ≡ b → ((π ≡ ρ → ⊥) → is_same π ρ ≡ false) → cond b (is_same π ρ) false ≡ false
    go true q r = let e : i ≡ j = eqb-true i j q in r (λ p. h (cc))
    go false q r = refl

-- ---- items among which a path is not
abbrev pub Past : List Item → List ℕ → Type 0
Past bs σ = (zs : List Item) → index_of σ (bs ++ zs) ≡ length bs + index_of σ zs

pub past-none : (σ : List ℕ) → Past [] σ
past-none σ zs = omega arith

pub past_one : (x : Item) (bs : List Item) (σ : List ℕ) → (σ ≡ x.path → ⊥) → Past bs σ → Past (x ∷ bs) σ
unfolding index_of
past_one x bs σ h p zs = rw (same-differ σ x.path h) (omega (arith, p zs))

pub past-append : (bs cs : List Item) (σ : List ℕ) → Past bs σ → Past cs σ → Past (bs ++ cs) σ
past-append bs cs σ p q zs =
    let e : length (bs ++ cs) ≡ length bs + length cs = length-append bs cs in
    ap (index_of σ) (append_assoc bs cs zs) ∙ omega (arith, p (cs ++ zs), q zs)

pub past-behind : (π σ : List ℕ) → ((ρ : List ℕ) → σ ≡ π ++ ρ → ⊥) → (xs : List Item) → Past (map (behind π) xs) σ
past-behind π σ h [] = past-none σ
past-behind π σ h (x ∷ xs) = past_one (behind π x) (map (behind π) xs) σ (h x.path) (past-behind π σ h xs)

-- ---- and behind them
index-self : (x : Item) (zs : List Item) → index_of x.path (x ∷ zs) ≡ 0
unfolding index_of
index-self x zs = ap (λ (b : Bool). cond b 0 (suc (index_of x.path zs))) (same_self x.path)

pub index_at : (bs : List Item) (x : Item) (zs : List Item) → Past bs x.path → index_of x.path (bs ++ x ∷ zs) ≡ length bs
index_at bs x zs p = omega (arith, p (x ∷ zs), index-self x zs)

-- ---- a path's last position, and the path of its container
pub last_snoc : (π : List ℕ) (i : ℕ) → last_of (π ++ i ∷ []) ≡ i
unfolding last_of
last_snoc [] i = refl
last_snoc (j ∷ []) i = refl
last_snoc (j ∷ k ∷ π) i = last_snoc (k ∷ π) i

pub above-snoc : (π : List ℕ) (i : ℕ) → above (π ++ i ∷ []) ≡ π
unfolding above
above-snoc [] i = refl
above-snoc (j ∷ []) i = refl
above-snoc (j ∷ k ∷ π) i = ap (λ (ρ : List ℕ). j ∷ ρ) (above-snoc (k ∷ π) i)

pub snoc_of : (i : ℕ) (π : List ℕ) → i ∷ π ≡ above (i ∷ π) ++ last_of (i ∷ π) ∷ []
unfolding above last_of
snoc_of i [] = refl
snoc_of i (j ∷ π) = ap (λ (ρ : List ℕ). i ∷ ρ) (snoc_of j π)

-- ---- paths that begin alike
pub longer : (π : List ℕ) (i : ℕ) (ρ : List ℕ) → π ++ i ∷ ρ ≡ π → ⊥
longer π i ρ e = let h : length (π ++ i ∷ ρ) ≡ length π = ap length e in omega (arith, length-append π (i ∷ ρ))

pub same_next : (π : List ℕ) (i j : ℕ) (ρ σ : List ℕ) → π ++ i ∷ ρ ≡ π ++ j ∷ σ → i ≡ j
same_next [] i j ρ σ e = cc
same_next (k ∷ π) i j ρ σ e = let h : π ++ i ∷ ρ ≡ π ++ j ∷ σ = cc in same_next π i j ρ σ h
