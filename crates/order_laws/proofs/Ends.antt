-- What is left without zeros at the front, or at the end, tells the list again where its length is known; zeros more change nothing.
-- Assumes nothing.
use mathlib.Core.Path.{◌≡◌, refl, sym, ap, ◌∙◌, subst}
use mathlib.Core.Bool.{Bool, true, false, cond}
use mathlib.Core.List.{List, [], ◌∷◌, ◌++◌}
use Prim.Native.Nat.{ℕ, zero, suc, ◌-◌}
use native.Mathlib.Omega.{arith}
use lib.Dec.{T, eqb}
use lib.ListN.{length, replicate, length-append, length-replicate}
use borrow.Author.Tests.{eq-eqb, eqb-true}
use Rattle.groups.specs.Numbers.{both}
use Rattle.groups.proofs.Accept.{both_true}
use Rattle.order_laws.specs.Plain.{without_front, without_end, is_empty}

module _ (z : ℕ) where
  -- ---- at the front
  pub front-zeros : (n : ℕ) (xs : List ℕ) → without_front z (replicate n z ++ xs) ≡ without_front z xs
  unfolding without_front
  front-zeros zero xs = refl
  front-zeros (suc n) xs = rw (eq-eqb z z refl) (front-zeros n xs)

  -- the zeros that are removed, put back; ws is what is left of xs
  front-step : (x : ℕ) (xs ws : List ℕ) (t : Bool) → eqb x z ≡ t → replicate (length xs - length ws) z ++ ws ≡ xs
      → replicate (suc (length xs) - length (cond t ws (x ∷ xs))) z ++ cond t ws (x ∷ xs) ≡ x ∷ xs
  front-step x xs ws false e h = let q : suc (length xs) - suc (length xs) ≡ 0 = omega arith in rw q
  front-step x xs ws true e h =
      let l = rw (length-append, length-replicate) at (ap length h) in
      let q : suc (length xs) - length ws ≡ suc (length xs - length ws) = omega arith in
      rw (q, eqb-true x z e) (ap (λ (ys : List ℕ). z ∷ ys) h)

  front-back : (xs : List ℕ) → replicate (length xs - length (without_front z xs)) z ++ without_front z xs ≡ xs
  unfolding without_front
  front-back [] = refl
  front-back (x ∷ xs) = front-step x xs (without_front z xs) (eqb x z) refl (front-back xs)

  -- lists of one length are told by what is left of them
  pub front_same : (xs ys : List ℕ) → length xs ≡ length ys → without_front z xs ≡ without_front z ys → xs ≡ ys
  front_same xs ys l e = sym (front-back xs) ∙ rw (l, e) (front-back ys)

  -- ---- at the end
  all_end : (n : ℕ) → without_end z (replicate n z) ≡ []
  unfolding without_end
  all_end zero = refl
  all_end (suc n) = rw (eq-eqb z z refl, all_end n)

  pub end-zeros : (xs : List ℕ) (n : ℕ) → without_end z (xs ++ replicate n z) ≡ without_end z xs
  unfolding without_end
  end-zeros [] n = all_end n
  end-zeros (x ∷ xs) n = rw (end-zeros xs n)

  -- the zeros that are removed, put back; ws is what is left of xs
  end_step : (x : ℕ) (xs ws : List ℕ) (t : Bool) → both (eqb x z) (is_empty ws) ≡ t → ws ++ replicate (length xs - length ws) z ≡ xs
      → cond t [] (x ∷ ws) ++ replicate (suc (length xs) - length (cond t [] (x ∷ ws))) z ≡ x ∷ xs
  end_step x xs ws false e h = let q : suc (length xs) - suc (length ws) ≡ length xs - length ws = omega arith in rw q (ap (λ (ys : List ℕ). x ∷ ys) h)
  end_step x xs [] true e h =
      let q : suc (length xs) - 0 ≡ suc (length xs - 0) = omega arith in
      rw (q, eqb-true x z (both_true (eqb x z) true e).0) (ap (λ (ys : List ℕ). z ∷ ys) h)
  end_step x xs (w ∷ ws) true e h = absurd (subst T (sym (both_true (eqb x z) false e).1) tt)

  end_back : (xs : List ℕ) → without_end z xs ++ replicate (length xs - length (without_end z xs)) z ≡ xs
  unfolding without_end
  end_back [] = refl
  end_back (x ∷ xs) = end_step x xs (without_end z xs) (both (eqb x z) (is_empty (without_end z xs))) refl (end_back xs)

  pub end_same : (xs ys : List ℕ) → length xs ≡ length ys → without_end z xs ≡ without_end z ys → xs ≡ ys
  end_same xs ys l e = sym (end_back xs) ∙ rw (l, e) (end_back ys)
