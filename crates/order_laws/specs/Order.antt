-- The order of decimals is an order (document 02, W8). Each statement is about what `Decimal::compare` answers, and `EqualPrints` also about what `Decimal::print` puts:
-- `Compares` and `Prints` are what the contracts of the two functions say of a call (proofs/Called.antt), so the statements hold of the functions' own answers.
-- They are said of all records where they hold of all: a refusal stays one when it is swapped or reversed, and is not less or equal, so that nothing carries
-- through it. Where records must be well formed, those that were read are (`Formed` of decimal_laws). That a record has nine groups a caller knows by its type:
-- `search rules` finds it. proofs/Order.antt proves each, `OneHolds` as `one_holds`.
-- Assumes nothing.
use Rattle.std.specs.Prelude.{ℕ, ◌≡◌, Bool, true, false, cond, not, ◌↔◌, List, length, take, Result, Ok, Err}
use Rattle.std.specs.declared.cmp.Ordering.{Ordering}
use Rattle.std.specs.declared.cmp.Ordering.TheVariants.{Less, Equal, Greater}
use Rattle.std.specs.Ordering.{ordering_reverse, is_le as ordering_le}
use Rattle.refusal.specs.declared.Refusal.{Refusal}
use Rattle.refusal.specs.declared.Refusal.TheVariants as refusal
use Rattle.groups.specs.Numbers.{both}
use Rattle.groups.specs.Sign.{is_nought}
use Rattle.groups.specs.Write.{told as count_told}
use Rattle.order.specs.Value.{told, order_z}
use Rattle.decimal.specs.Write.{is_well}
use Rattle.decimal.specs.Text.{print_told, print_leaves}
use Rattle.decimal.specs.Value.{value, compare_told}
use Rattle.decimal.specs.declared.Decimal.{Decimal}
use Rattle.order_laws.specs.Plain.{plain}

-- ---- what the two functions answer
-- `compare` of a and b answers r
abbrev pub Compares : Decimal → Decimal → Result Ordering Refusal → Type 0
Compares a b r = told r ≡ compare_told a b

-- that answer, as a function of the two (proofs/Compared.antt)
unfoldable pub compared : Decimal → Decimal → Result Ordering Refusal
compared a b = cond (both (is_well a) (is_well b)) (Ok (order_z (value a) (value b))) (Err refusal.Record)

-- `print` of d, in some output `out` that is lent to it, answers a count; `left` is the output afterwards, and bs are as many bytes at its front
pub record Prints (d : Decimal) (bs : List ℕ) : Type 0 where
  pub out : List ℕ
  pub left : List ℕ
  pub count : ℕ
  pub counts : count_told (Ok count) ≡ print_told d out
  pub leaves : left ≡ print_leaves d out
  pub text : bs ≡ take count left

-- ---- of one decimal
abbrev pub sign_changed : Decimal → Decimal
sign_changed d = record { intg = d.intg; frac = d.frac; sign = not d.sign; groups = d.groups }

-- the decimal with its sign changed; a zero stays as it is, since with a sign it would be none
unfoldable pub negated : Decimal → Decimal
negated d = cond (is_nought d.groups) d (sign_changed d)

-- ---- of one answer
-- less and greater swapped
abbrev pub reversed : Result Ordering Refusal → Result Ordering Refusal
reversed (Ok o) = Ok (ordering_reverse o)
reversed (Err r) = Err r

-- less or equal
abbrev pub is_le : Result Ordering Refusal → Bool
is_le (Ok o) = ordering_le o
is_le (Err r) = false

-- one of three, and not another
pub data ExactlyOne (P Q R : Type 0) : Type 0 where
  first : P → (Q → ⊥) → (R → ⊥) → ExactlyOne P Q R
  second : (P → ⊥) → Q → (R → ⊥) → ExactlyOne P Q R
  third : (P → ⊥) → (Q → ⊥) → R → ExactlyOne P Q R

-- ---- the statements
-- Swapping the two swaps less and greater.
abbrev pub Swaps : Type 0
Swaps = (a b : Decimal) (r s : Result Ordering Refusal) → Compares a b r → Compares b a s → s ≡ reversed r

-- Less-or-equal carries through a third.
abbrev pub Carries : Type 0
Carries = (a b c : Decimal) (r s t : Result Ordering Refusal) → Compares a b r → Compares b c s → Compares a c t → is_le r ≡ true → is_le s ≡ true → is_le t ≡ true

-- Exactly one of less, equal and greater holds.
abbrev pub OneHolds : Type 0
OneHolds = (a b : Decimal) (r : Result Ordering Refusal) → is_well a ≡ true → is_well b ≡ true → Compares a b r → ExactlyOne (r ≡ Ok Less) (r ≡ Ok Equal) (r ≡ Ok Greater)

-- Changing both signs reverses the answer.
abbrev pub Reverses : Type 0
Reverses =
    (a b : Decimal) (r s : Result Ordering Refusal) → length a.groups ≡ 9 → length b.groups ≡ 9 → Compares a b r → Compares (negated a) (negated b) s → s ≡ reversed r

-- Equal exactly when both print the same after what does not tell the value is removed.
abbrev pub EqualPrints : Type 0
EqualPrints =
    (a b : Decimal) (r : Result Ordering Refusal) (xs ys : List ℕ) → length a.groups ≡ 9 → length b.groups ≡ 9 → Compares a b r → Prints a xs → Prints b ys
    → (r ≡ Ok Equal) ↔ (plain xs ≡ plain ys)

-- ---- what follows, and a sort rests on
-- A decimal equals itself.
abbrev pub Itself : Type 0
Itself = (a : Decimal) (r : Result Ordering Refusal) → is_well a ≡ true → Compares a a r → r ≡ Ok Equal

-- Less carries through a third that is less or equal on the other side.
abbrev pub LessCarries : Type 0
LessCarries =
    (a b c : Decimal) (r s t : Result Ordering Refusal) → Compares a b r → Compares b c s → Compares a c t
    → (r ≡ Ok Less → is_le s ≡ true → t ≡ Ok Less) × (is_le r ≡ true → s ≡ Ok Less → t ≡ Ok Less)

-- Two that are equal compare alike with any third.
abbrev pub EqualAlike : Type 0
EqualAlike = (a b c : Decimal) (r s t : Result Ordering Refusal) → Compares a b r → Compares a c s → Compares b c t → r ≡ Ok Equal → s ≡ t
