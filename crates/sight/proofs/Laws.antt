-- What a walk may rely on: the sight at an entry's place is that of the entry, what is read is sound, and containers that are read fit the document.
-- Assumes nothing.
use mathlib.Core.Path.{◌≡◌, refl, ap, ◌∙◌, subst}
use mathlib.Core.List.{List}
use Prim.Native.Nat.{ℕ, ◌+◌}
use lib.ListN.{get_or}
use Rattle.std.specs.Prelude.{Result, Ok, Err, ⊤}
use Rattle.refusal.specs.declared.Refusal.{Refusal}
use Rattle.codes.specs.Types.{type_of}
use Rattle.codes.specs.declared.types.JsonbType.{JsonbType}
use Rattle.layout.specs.Layout.{offset_size, offset_at}
use Rattle.value.specs.declared.View.{View}
use Rattle.value.specs.declared.Value.{Value}
use Rattle.value.specs.declared.Value.TheVariants as value
use Rattle.header.specs.Headers.{place_of, placed, then}
use Rattle.entry.specs.Entries.{end_of, place_at, value_end, pointed_at, typed_entry, entry_of, entry_at, entry_read, start_of, typed_start, value_start}
use Rattle.sight.specs.Sights.{sight_of, bounds, start_by, typed_start_by, sight_at}
use Rattle.sight.specs.Course.{Sound, Fit}
use Rattle.sight.proofs.Good.{Good, entry-good}

placed-sight : (d : List ℕ) (i e from : ℕ) (x : Result Value Refusal) → placed d i e (sight_of x from) ≡ sight_of (placed d i e x) from
placed-sight d i e from x = go (place_of d i e)
  where
    go : (r : Result ⊤ Refusal) → then r (λ _. sight_of x from) ≡ sight_of (then r (λ _. x)) from
    go (Ok u) = refl
    go (Err r) = refl

module _ (d : List ℕ) (v : View) (i : ℕ) where
  abbrev own : View
  own = bounds v.kind.large v.start v.size

  -- an entry whose place is known is read by a container's bounds alone
  same-entry : (y : Result JsonbType Refusal) → sight_of (entry_of d own y (place_at v i + 1)) (typed_start_by d own (place_at v i + 1) y) ≡ sight_of (entry_of d v y (place_at v i + 1)) (typed_start d v i y)
  unfolding typed_entry pointed_at offset_size offset_at start_by start_of
  same-entry (Ok t) = refl
  same-entry (Err r) = refl

  pub sight-entry : sight_at d v.kind.large v.start v.size (place_at v i) ≡ sight_of (entry_read d v i) (value_start d v i)
  unfolding sight_at entry_read entry_at value_start offset_size
  sight-entry =
      ap (placed d (value_end v i) (end_of v)) (same-entry (type_of (get_or d (place_at v i) 0)))
      ∙ placed-sight d (value_end v i) (end_of v) (value_start d v i) (entry_at d v i)

pub good-sound : (d : List ℕ) (r : Result Value Refusal) → Good d r → Sound r
good-sound d (Ok (value.Scalar t s)) g = g
good-sound d (Ok (value.Container v)) g = tt
good-sound d (Err r) g = g

pub entry-sound : (d : List ℕ) (v : View) (i : ℕ) → Sound (entry_read d v i)
entry-sound d v i = good-sound d (entry_read d v i) (entry-good d v i)

pub entry-fit : (d : List ℕ) (v : View) (i : ℕ) {u : View} → entry_read d v i ≡ Ok (value.Container u) → Fit d u
entry-fit d v i q = subst (Good d) q (entry-good d v i)
