-- What a walk answers fits into 32 bits: the count is at most the room, and the place is that of an entry of a whole container, or one of a text, and both
-- lie within the document, which is not too long.
-- Assumes nothing.
use mathlib.Core.Path.{◌≡◌, refl, sym, subst}
use mathlib.Core.Bool.{Bool, true, false, cond}
use mathlib.Core.List.{List, [], ◌∷◌}
use Prim.Native.Nat.{ℕ, zero, suc, ◌+◌, ◌≤◌, ◌<◌}
use native.Mathlib.Omega.{arith}
use lib.Dec.{ltb, eqb}
use lib.ListN.{length, get_or}
use borrow.Author.Tests.{ltb-false}
use Rattle.layout.proofs.Inside.{value-inside, key-inside}
use Rattle.value.specs.declared.View.{View}
use Rattle.entry.specs.Entries.{place_at, key_place_at}
use Rattle.codes.specs.Types.{type_of}
use Rattle.codes.specs.declared.types.JsonbType.TheVariants as type
use Rattle.value.specs.declared.Span.{Span}
use Rattle.value.specs.declared.Scalar.TheVariants as scalar
use Rattle.value.specs.declared.Value.{Value}
use Rattle.value.specs.declared.Value.TheVariants as value
use Rattle.std.specs.Prelude.{Ok, Err}
use Rattle.refusal.specs.declared.Refusal.TheVariants as refusals
use Rattle.gate.specs.Said.{says, read_said}
use Rattle.jsonb.specs.Views.{typed_at, root_read}
use Rattle.events.specs.Walked.{Done, Stopped}
use Rattle.events.specs.Listing.{Listing, end, fault, event}
use Rattle.events.specs.Lay.{room}
use Rattle.events.proofs.Room.{room_small}
use Rattle.paths.specs.Judged.{Stand}
use Rattle.paths.specs.Paths.{here, Item, paths, scan}
use Rattle.paths.specs.Shown.{cut, ends, shown, Walks, Answer}
use Rattle.paths.proofs.Whole.{Stands}
use Rattle.walk_laws.specs.Promise.{Leads, ValueBreaks, Wrong, deep, key-refused, key-octets, value-refused, value-octets, StopsAt, wrong, full}
use Rattle.walk_laws.proofs.Reach.{reach}
use Rattle.walk_laws.proofs.Theorem.{refusal}
use Rattle.walk_laws.proofs.Entry.{leads-entry, is_whole, said-key, texts-inside}
use Rattle.walk_laws.proofs.Numbers.{halt-leads}

-- ---- the count
-- as it stands in what is told of a walk
abbrev counted : List ℕ → ℕ
counted [] = 0
counted (n ∷ []) = n
counted (p ∷ n ∷ vs) = n

within-room : (l : Listing) (k n : ℕ) → counted (ends (cut l k) n).values ≤ n + k
unfolding cut ends
within-room end k n = omega arith
within-room (fault f p) k n = omega arith
within-room (event e p l) zero n = omega arith
within-room (event e p l) (suc k) n = omega (arith, within-room l k (n + 1))

module _ (d out : List ℕ) where
  told-small : counted (ends (shown d (room out)) 0).values ≤ 4294967295
  unfolding shown
  told-small = omega (arith, within-room (scan d (paths d) (paths d)) (room out) 0, room_small out)

  pub done-small : (n : ℕ) (left : List ℕ) → Walks d out (Done n) left → n ≤ 4294967295
  done-small n left w = subst (λ (a : Answer). counted a.values ≤ 4294967295) (sym w.answer) told-small

  pub stopped-small : (f p n : ℕ) (left : List ℕ) → Walks d out (Stopped f p n) left → n ≤ 4294967295
  stopped-small f p n left w = subst (λ (a : Answer). counted a.values ≤ 4294967295) (sym w.answer) told-small

-- ---- the place
module _ (d : List ℕ) (v : View) (w : Stands d v) (i : ℕ) (h : i < v.count) where
  value-near : place_at v i ≤ 16777216
  value-near = let o = is_whole d v w i h in omega (arith, value-inside v.kind v.count i h)

  key-near : key_place_at v i ≤ 16777216
  key-near = let o = is_whole d v w i h in omega (arith, key-inside v.kind v.count i h)

-- the places of what a path leads to, and where its texts end
record Near (d : List ℕ) (s : Stand) : Type 0 where
  value : s.place ≤ 16777216
  key : s.key_place ≤ 16777216
  key_end : {k : Span} → s.key ≡ says k → k.start + k.len ≤ 16777216
  short : {y : Value} → s.value ≡ says y → length d ≤ 16777216

root-short : (d : List ℕ) {y : Value} → read_said (root_read d) ≡ says y → length d ≤ 16777216
unfolding root_read
root-short d {y} e = go (ltb 16777216 (length d)) refl e
  where
    go : (b : Bool) → ltb 16777216 (length d) ≡ b →
        read_said (cond b (Err refusals.Document) (cond (eqb (length d) 0) (Ok (value.Scalar type.Literal scalar.Null)) (typed_at d (type_of (get_or d 0 0)) 1 (length d)))) ≡ says y →
        length d ≤ 16777216
    go true p q = let z : ◌≡◌ {A = ℕ} 0 1 = cc in absurd (omega arith)
    go false p q = ltb-false 16777216 (length d) p

root-near : {d : List ℕ} {s : Stand} → Leads d [] s → Near d s
root-near {d} here =
    record {
      value = omega arith;
      key = omega arith;
      key_end = λ e. subst (λ (j : Span). j.start + j.len ≤ 16777216) (said-key e) (omega arith);
      short = λ e. root-short d e;
    }

near : {d : List ℕ} (π : List ℕ) {s : Stand} → Leads d π s → Near d s
near [] b = root-near b
near {d} (i ∷ π) {s} b =
    let e = leads-entry b in
    let l = e.whole.short in
    let t = texts-inside d (i ∷ π) s b in
    record {
      value = subst (λ (t : Stand). t.place ≤ 16777216) e.is (value-near d e.view e.whole e.position e.below);
      key = subst (λ (t : Stand). t.key_place ≤ 16777216) e.is (key-near d e.view e.whole e.position e.below);
      key_end = λ q. omega (arith, t.key q);
      short = λ q. l;
    }

-- a text breaks within its part or at its end
value-break : (d : List ℕ) (y : Value) {p : ℕ} → ValueBreaks d y p → p ≤ length d
value-break d (value.Scalar t scalar.Null) b = absurd b
value-break d (value.Scalar t (scalar.Boolean x)) b = absurd b
value-break d (value.Scalar t (scalar.Number x)) b = absurd b
value-break d (value.Scalar t (scalar.String s)) b = omega (arith, b.order.2, b.inside)
value-break d (value.Scalar t (scalar.Opaque c s)) b = absurd b
value-break d (value.Container v) b = absurd b

wrong-near : {d : List ℕ} {x : Item} {f p : ℕ} → Near d x.stand → Wrong d x f p → p ≤ 16777216
wrong-near n (deep h) = n.value
wrong-near n (key-refused h e) = n.key
wrong-near n (key-octets p h e b) = omega (arith, b.order.2, n.key_end e)
wrong-near n (value-refused h e u q) = n.value
wrong-near {d} n (value-octets {y = y} p h e u q b) = omega (arith, value-break d y b, n.short q)

stop-near : {d : List ℕ} {x : Item} {k m f p : ℕ} → Near d x.stand → StopsAt d k m x f p → p ≤ 16777216
stop-near n (wrong h w) = wrong-near n w
stop-near n (full h g) = n.value

pub stopped-near : (d out : List ℕ) (f p n : ℕ) (left : List ℕ) → Walks d out (Stopped f p n) left → p ≤ 16777216
stopped-near d out f p n left w =
    let h = (refusal d out (Stopped f p n) left w (paths d) (reach d) f p n).0 refl in
    stop-near (near h.at.path (halt-leads d (reach d) h)) h.stops
