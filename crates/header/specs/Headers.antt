-- Whether the document has a place i and an end e, and the header of a container there: its count and its size. The end is that of the enclosing container
-- (json_binary.h of MySQL; document 01, 'Container rules' and the order of its refusals).
-- Assumes nothing.
use Rattle.std.specs.Prelude.{ℕ, ◌+◌, ◌*◌, ◌-◌, cond, List, ltb, length, Result, Ok, Err, ⊤}
use Rattle.refusal.specs.declared.Refusal.{Refusal}
use Rattle.refusal.specs.declared.Refusal.TheVariants as refusal
use Rattle.layout.specs.Layout.{offset_size, header_size, offset_at}
use Rattle.layout.specs.declared.Kind.{Kind}
use Rattle.header.specs.declared.Header.{Header}

abbrev pub header : ℕ → ℕ → Header
header n s = record { count = n; size = s }

-- count and size, 3 where one is missing; then 4 where the size exceeds what is left or the header the size
unfoldable pub header_at : List ℕ → Kind → ℕ → ℕ → Result Header Refusal
header_at d k i e =
    cond (ltb (e - i) (2 * offset_size k)) (Err refusal.Cut)
    (cond (ltb (e - i) (offset_at d k (i + offset_size k) e)) (Err refusal.Size)
    (cond (ltb (offset_at d k (i + offset_size k) e) (header_size k (offset_at d k i e))) (Err refusal.Size)
    (Ok (header (offset_at d k i e) (offset_at d k (i + offset_size k) e)))))

-- ---- at any place: 1 for a document that is too long, 3 where the document has no such place and end
unfoldable pub place_of : List ℕ → ℕ → ℕ → Result ⊤ Refusal
place_of d i e = cond (ltb 16777216 (length d)) (Err refusal.Document) (cond (ltb (length d) e) (Err refusal.Cut) (cond (ltb e i) (Err refusal.Cut) (Ok _)))

-- the refusal of what comes first, else what comes then
abbrev pub then : {A B : Type 0} → Result A Refusal → (A → Result B Refusal) → Result B Refusal
then (Ok x) f = f x
then (Err r) f = Err r

-- what is read there, or the fault
abbrev pub placed : {A : Type 0} → List ℕ → ℕ → ℕ → Result A Refusal → Result A Refusal
placed d i e x = then (place_of d i e) (λ _. x)

unfoldable pub header_read : List ℕ → Kind → ℕ → ℕ → Result Header Refusal
header_read d k i e = placed d i e (header_at d k i e)
