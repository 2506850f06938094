-- The sight of an entry by its parts: whether it ends in the container, its type, and where its value stands.
-- Assumes nothing.
use mathlib.Core.Path.{◌≡◌, refl, sym, ap, ◌∙◌, subst}
use mathlib.Core.Bool.{Bool, true, false, cond}
use mathlib.Core.List.{List}
use Prim.Native.Nat.{ℕ, ◌+◌, ◌≤◌, ◌<◌, min}
use native.Mathlib.Omega.{arith}
use lib.Dec.{ltb}
use lib.ListN.{length, get_or}
use borrow.Author.Tests.{le-ltb, lt-ltb, ltb-true, ltb-false}
use Rattle.std.specs.Prelude.{Result, Ok, Err}
use Rattle.refusal.specs.declared.Refusal.{Refusal}
use Rattle.refusal.specs.declared.Refusal.TheVariants as refusal
use Rattle.codes.specs.Types.{type_of}
use Rattle.codes.specs.declared.types.JsonbType.{JsonbType}
use Rattle.layout.specs.Layout.{offset_size, offset_at}
use Rattle.value.specs.declared.View.{View}
use Rattle.value.specs.declared.Value.{Value}
use Rattle.content.specs.Reading.{kind, content_at, read_at}
use Rattle.header.specs.Headers.{place_of}
use Rattle.header.specs.Course.{Within}
use Rattle.header.proofs.Placed.{placed-within}
use Rattle.entry.specs.Entries.{is_inlined, pointed_at, typed_entry, entry_of}
use Rattle.sight.specs.Sights.{sight_of, bounds, start_by, typed_start_by, sight_at}
use Rattle.sight.specs.declared.Sight.{Sight}

-- a place that is too large to be counted is past an end that is not
pub place_saturated : (d : List ℕ) (i j e : ℕ) → j ≡ min i 18446744073709551615 → e < 18446744073709551615 → place_of d j e ≡ place_of d i e
unfolding place_of
place_saturated d i j e q h = ap (λ (b : Bool). cond (ltb 16777216 (length d)) (Err refusal.Document) (cond (ltb (length d) e) (Err refusal.Cut) (cond b (Err refusal.Cut) (Ok _)))) same
  where
    same : ltb e j ≡ ltb e i
    same = go (ltb e i) refl
      where
        go : (b : Bool) → ltb e i ≡ b → ltb e j ≡ b
        go true x = lt-ltb e j (omega (arith, ltb-true e i x))
        go false x = le-ltb e j (omega (arith, ltb-false e i x))

module _ (d : List ℕ) (large : Bool) (start size p : ℕ) where
  abbrev v : View
  v = bounds large start size

  abbrev next : ℕ
  next = p + 1 + offset_size (kind false large)

  abbrev there : ℕ
  there = start + offset_at d (kind false large) (p + 1) (start + size)

  -- next as the code counts it, by the offset size w
  module _ {w j : ℕ} (we : w ≡ offset_size (kind false large)) (je : j ≡ min (p + (1 + w)) 18446744073709551615) (h : start + size < 18446744073709551615) where
    pub past-end : {r : Refusal} → place_of d j (start + size) ≡ Err r → Err r ≡ sight_at d large start size p
    unfolding sight_at
    past-end {r} e =
        let f : place_of d next (start + size) ≡ Err r = sym (place_saturated d next j (start + size) (omega arith) h) ∙ e in
        rw f refl

    module _ (b : Within (length d) j (start + size)) where
      is-next : j ≡ next
      is-next = omega (arith, b.order)

      within : Within (length d) next (start + size)
      within = subst (λ (n : ℕ). Within (length d) n (start + size)) is-next b

      abbrev read : Result JsonbType Refusal → Result Sight Refusal
      read y = sight_of (entry_of d v y (p + 1)) (typed_start_by d v (p + 1) y)

      by-type : sight_at d large start size p ≡ read (type_of (get_or d p 0))
      unfolding sight_at
      by-type = placed-within d next (start + size) within

      module _ {t : JsonbType} (te : type_of (get_or d p 0) ≡ Ok t) where
        by_place : {b : Bool} → is_inlined t large ≡ b →
            sight_at d large start size p ≡ sight_of (cond b (read_at d t (p + 1) next) (pointed_at d v t (p + 1))) (cond b (p + 1) there)
        unfolding typed_entry start_by
        by_place {b} x =
            by-type ∙ ap read te
            ∙ ap (λ (b : Bool). sight_of (cond b (read_at d t (p + 1) next) (pointed_at d v t (p + 1))) (cond b (p + 1) there)) x

        -- in the entry
        pub in-entry : is_inlined t large ≡ true → sight_of (content_at d t (p + 1) j) (p + 1) ≡ sight_at d large start size p
        unfolding read_at
        in-entry x =
            let f : Within (length d) (p + 1) next = record { order = omega arith; inside = omega (arith, within.order, within.inside); short = within.short } in
            ap (λ (n : ℕ). sight_of (content_at d t (p + 1) n) (p + 1)) is-next
            ∙ sym (by_place x ∙ ap (λ (y : Result Value Refusal). sight_of y (p + 1)) (placed-within d (p + 1) next f))

        -- at its offset o
        module _ (x : is_inlined t large ≡ false) {o : ℕ} (oe : o ≡ offset_at d (kind false large) (p + 1) (start + size)) where
          abbrev past : Bool → Result Sight Refusal
          past b = sight_of (cond b (Err refusal.Pointer) (read_at d t there (start + size))) there

          abbrev low : Bool → Result Sight Refusal
          low b = sight_of (cond b (Err refusal.Pointer) (cond (ltb (start + size) there) (Err refusal.Pointer) (read_at d t there (start + size)))) there

          pub pointed-right : j ≤ start + o → start + o ≤ start + size →
              sight_of (content_at d t (start + o) (start + size)) (start + o) ≡ sight_at d large start size p
          unfolding pointed_at read_at
          pointed-right l k =
              let f : Within (length d) there (start + size) = record { order = omega arith; inside = within.inside; short = within.short } in
              ap (λ (n : ℕ). sight_of (content_at d t (start + n) (start + size)) (start + n)) oe
              ∙ sym (by_place x ∙ ap low (le-ltb there next (omega (arith, is-next))) ∙ ap past (le-ltb (start + size) there (omega arith))
              ∙ ap (λ (y : Result Value Refusal). sight_of y there) (placed-within d there (start + size) f))
