-- Where the key entry of an object stands.
-- Assumes nothing.
use mathlib.Core.Path.{◌≡◌, sym, ap}
use mathlib.Core.Bool.{Bool, true, cond}
use mathlib.Core.List.{List}
use Prim.Native.Nat.{ℕ, ◌+◌, ◌≤◌, ◌<◌}
use native.Mathlib.Omega.{arith}
use Rattle.layout.specs.Layout.{offset_size, key_entry, key_place}
use Rattle.layout.specs.declared.Kind.{Kind}
use Rattle.layout.proofs.Inside.{key-inside}
use Rattle.value.specs.declared.View.{View}
use Rattle.content.specs.Reading.{kind}
use Rattle.entry.specs.Entries.{end_of}
use Rattle.sight.specs.Course.{Fit}

-- an offset, and two bytes for the key's length
pub object_entry : (k : Kind) → k.object ≡ true → key_entry k ≡ offset_size k + 2
unfolding key_entry
object_entry k o = ap (λ (b : Bool). cond b (offset_size k + 2) 0) o

-- entry i of an object that fits the document stands in it; q is its place in the object as the callee gives it
pub key-fits : (d : List ℕ) (v : View) (i : ℕ) {q : ℕ} → v.kind.object ≡ true → q ≡ key_place (kind true v.kind.large) i → Fit d v → i < v.count →
    v.start + q + key_entry v.kind ≤ end_of v
key-fits d v i o qe f h =
    let k = ap (λ (b : Bool). key_place (kind b v.kind.large) i) (sym o) in
    omega (arith, key-inside v.kind v.count i h, f.header, qe, k)
