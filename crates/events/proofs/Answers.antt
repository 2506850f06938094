-- Two answers that one listing is laid to are equal, and so are the lists that they leave; and answers of the code that are told alike are equal.
-- Assumes nothing.
use mathlib.Core.Path.{◌≡◌, refl, sym, ap, ◌∙◌}
use mathlib.Core.List.{List, [], ◌∷◌}
use Prim.Native.Nat.{ℕ}
use Rattle.std.specs.Prelude.{Result, Ok, Err}
use Rattle.refusal.specs.declared.Refusal.{Refusal}
use Rattle.refusal.specs.declared.Refusal.TheVariants as refusal
use Rattle.refusal.specs.Refusals.{number_of}
use Rattle.codes.specs.Lists.{search}
use Rattle.events.specs.declared.Stopped.{Stopped as Stop}
use Rattle.events.specs.Walked.{Walked, walked}
use Rattle.events.specs.Lay.{Laid, laid}

pub one-laid : {x : Laid} {r q : Walked} {a b : List ℕ} → x ≡ laid r a → x ≡ laid q b → (r ≡ q) × (a ≡ b)
one-laid {x} {r} {q} {a} {b} e f = let h : laid r a ≡ laid q b = sym e ∙ f in (cc, cc)

-- the refusal of a number
refusals : List Refusal
refusals =
    refusal.Document ∷ refusal.Type ∷ refusal.Cut ∷ refusal.Size ∷ refusal.Key ∷ refusal.Pointer ∷ refusal.Literal ∷ refusal.Length ∷ refusal.Utf8
    ∷ refusal.Column ∷ refusal.Depth ∷ refusal.Events ∷ refusal.View ∷ refusal.Range ∷ refusal.Short ∷ refusal.Group ∷ refusal.Text ∷ refusal.Digits
    ∷ refusal.Room ∷ refusal.Record ∷ refusal.TimeField ∷ refusal.TimeShort ∷ []

unfoldable refusal_of : ℕ → Refusal
refusal_of n = search number_of (λ r. r) refusal.Document refusals n

again : (r : Refusal) → refusal_of (number_of r) ≡ r
unfolding refusal_of refusals search
again refusal.Document = refl
again refusal.Type = refl
again refusal.Cut = refl
again refusal.Size = refl
again refusal.Key = refl
again refusal.Pointer = refl
again refusal.Literal = refl
again refusal.Length = refl
again refusal.Utf8 = refl
again refusal.Column = refl
again refusal.Depth = refl
again refusal.Events = refl
again refusal.View = refl
again refusal.Range = refl
again refusal.Short = refl
again refusal.Group = refl
again refusal.Text = refl
again refusal.Digits = refl
again refusal.Room = refl
again refusal.Record = refl
again refusal.TimeField = refl
again refusal.TimeShort = refl

number-same : (r q : Refusal) → number_of r ≡ number_of q → r ≡ q
number-same r q e = sym (again r) ∙ ap refusal_of e ∙ again q

abbrev stop : Refusal → ℕ → ℕ → Result ℕ Stop
stop r p n = Err (record { refusal = r; place = p; count = n })

pub walked-same : (r q : Result ℕ Stop) → walked r ≡ walked q → r ≡ q
walked-same (Ok n) (Ok m) e = cc
walked-same (Err s) (Err t) e =
    let f : s.refusal ≡ t.refusal = number-same s.refusal t.refusal (cc) in
    let g : s.place ≡ t.place = cc in
    let h : s.count ≡ t.count = cc in
    ap (λ (r : Refusal). stop r s.place s.count) f ∙ ap (λ (p : ℕ). stop t.refusal p s.count) g ∙ ap (stop t.refusal t.place) h
walked-same (Ok n) (Err t) e = absurd (cc)
walked-same (Err s) (Ok m) e = absurd (cc)
