-- Document 01's examples that are marked (P): each row a question, and beside it what document 01 answers, or document 02 where it changes that; and rows
-- for what document 02 adds, the byte at which text breaks (W5) and the index of an event's container, its ninth number (W6). A kind of question is a
-- constructor of `Row`, and `asked` says what the definitions answer to it: a thing, nothing, or the number of the refusal.
-- Assumes nothing.
use Rattle.std.specs.Prelude.{ℕ, Bool, true, false, cond, List, [], ◌∷◌, ◌++◌, ℤ, negsuc, take, drop, Result, Ok, Err}
use Rattle.decimal.specs.Read.{read_bin, read_packed}
use Rattle.decimal.specs.Write.{is_well}
use Rattle.decimal.specs.Text.{printed}
use Rattle.decimal.specs.declared.Decimal.{Decimal}
use Rattle.refusal.specs.declared.Refusal.{Refusal}
use Rattle.refusal.specs.Refusals.{number_of}
use Rattle.codes.specs.declared.types.JsonbType.{JsonbType}
use Rattle.codes.specs.declared.types.JsonbType.TheVariants as type
use Rattle.value.specs.declared.View.{View}
use Rattle.value.specs.declared.Span.{Span}
use Rattle.value.specs.declared.Number.TheVariants as number
use Rattle.value.specs.declared.Scalar.{Scalar}
use Rattle.value.specs.declared.Scalar.TheVariants as scalar
use Rattle.value.specs.declared.Value.{Value}
use Rattle.value.specs.declared.Value.TheVariants as value
use Rattle.content.specs.Reading.{kind, span, view}
use Rattle.gate.specs.Said.{Said, says, nothing, refuses, read_said}
use Rattle.jsonb.specs.Views.{root_read, elem_at, key_at}
use Rattle.events.specs.Walked.{Walked, Done, Stopped}
use Rattle.paths.specs.Shown.{Answer as Ended, flat, told, ends, shown}

pub data Row : Type 0 where
  -- a packed decimal, with its precision kept or not
  packed : List ℕ → Bool → Row
  -- digit bytes of a precision and a scale, with the precision kept or not
  digits : List ℕ → ℕ → ℕ → Bool → Row
  -- a document's root
  root : List ℕ → Row
  -- of the container that is a document's root: the value at a position, the bytes of a string there, the key there
  element : List ℕ → ℕ → Row
  string : List ℕ → ℕ → Row
  key : List ℕ → ℕ → Row
  -- the walk of a document in room for so many events
  walk : List ℕ → ℕ → Row

pub data Thing : Type 0 where
  -- the characters that a decimal prints, or the bytes of a string
  text : List ℕ → Thing
  -- a value
  valued : Value → Thing
  -- where a key stands
  keyed : Span → Thing
  -- the numbers of a walk's events, nine each, and how it ends
  listed : List ℕ → Ended → Thing

-- ---- decimals: what one prints, or 26; or what reading it refused
unfoldable pub prints : Decimal → Said Thing
prints d = cond (is_well d) (says (text (printed d))) (refuses 26)

unfoldable pub printed_or : Result Decimal Refusal → Said Thing
printed_or (Ok d) = prints d
printed_or (Err r) = refuses (number_of r)

-- ---- documents
-- what a thing that is said is asked further
abbrev pub further : {A B : Type 0} → (A → Said B) → Said A → Said B
further f (says x) = f x
further f nothing = nothing
further f (refuses n) = refuses n

-- a container's view; a scalar has none
abbrev pub view_of : Value → Said View
view_of (value.Container v) = says v
view_of (value.Scalar t s) = nothing

-- the bytes of a string; other values have none
abbrev pub bytes_of : List ℕ → Value → Said Thing
bytes_of d (value.Container v) = nothing
bytes_of d (value.Scalar t (scalar.String s)) = says (text (take s.len (drop s.start d)))
bytes_of d (value.Scalar t scalar.Null) = nothing
bytes_of d (value.Scalar t (scalar.Boolean b)) = nothing
bytes_of d (value.Scalar t (scalar.Number x)) = nothing
bytes_of d (value.Scalar t (scalar.Opaque c s)) = nothing

unfoldable pub root_view : List ℕ → Said View
root_view d = further view_of (read_said (root_read d))

unfoldable pub asked : Row → Said Thing
asked (packed bs keep) = printed_or (read_packed bs keep)
asked (digits bs p s keep) = printed_or (read_bin bs p s keep)
asked (root d) = further (λ x. says (valued x)) (read_said (root_read d))
asked (element d i) = further (λ v. further (λ x. says (valued x)) (elem_at d v i)) (root_view d)
asked (string d i) = further (λ v. further (bytes_of d) (elem_at d v i)) (root_view d)
asked (key d i) = further (λ v. further (λ s. says (keyed s)) (key_at d v i)) (root_view d)
asked (walk d k) = says (listed (flat (shown d k)) (ends (shown d k) 0))

-- ---- answers by their numbers
abbrev pub container : Bool → Bool → ℕ → ℕ → ℕ → Said Thing
container object large start count size = says (valued (value.Container (view start size count (kind object large))))

abbrev pub is : JsonbType → Scalar → Said Thing
is t s = says (valued (value.Scalar t s))

abbrev pub int : JsonbType → ℤ → Said Thing
int t z = is t (scalar.Number (number.Int z))

-- events one after the other, and how the walk ends
abbrev pub joined : List (List ℕ) → List ℕ
joined [] = []
joined (e ∷ es) = e ++ joined es

abbrev pub lists : List (List ℕ) → Walked → Said Thing
lists es w = says (listed (joined es) (told w))

-- ---- the documents
abbrev pub true_and_minus_two : List ℕ
true_and_minus_two = 0x02 ∷ 0x02 ∷ 0x00 ∷ 0x0A ∷ 0x00 ∷ 0x04 ∷ 0x01 ∷ 0x00 ∷ 0x05 ∷ 0xFE ∷ 0xFF ∷ []

-- an object whose member a is Zoë, over the offset of its key and over its last byte too
abbrev pub zoe_ending : ℕ → ℕ → List ℕ
zoe_ending offset b = 0x00 ∷ 0x01 ∷ 0x00 ∷ 0x11 ∷ 0x00 ∷ offset ∷ 0x00 ∷ 0x01 ∷ 0x00 ∷ 0x0C ∷ 0x0C ∷ 0x00 ∷ 0x61 ∷ 0x04 ∷ 0x5A ∷ 0x6F ∷ 0xC3 ∷ b ∷ []

abbrev pub zoe : ℕ → List ℕ
zoe offset = zoe_ending offset 0xAB

-- an array whose first element is a string, over its offset
abbrev pub among : ℕ → List ℕ
among offset = 0x02 ∷ 0x02 ∷ 0x00 ∷ 0x0C ∷ 0x00 ∷ 0x0C ∷ offset ∷ 0x00 ∷ 0x04 ∷ 0x01 ∷ 0x00 ∷ 0x41 ∷ 0x42 ∷ []

-- small and large arrays of an Int32
abbrev pub pointed : List ℕ
pointed = 0x02 ∷ 0x01 ∷ 0x00 ∷ 0x0B ∷ 0x00 ∷ 0x07 ∷ 0x07 ∷ 0x00 ∷ 0xFF ∷ 0xFF ∷ 0xFF ∷ 0xFF ∷ []

abbrev pub inlined : List ℕ
inlined = 0x03 ∷ 0x01 ∷ 0x00 ∷ 0x00 ∷ 0x00 ∷ 0x0D ∷ 0x00 ∷ 0x00 ∷ 0x00 ∷ 0x07 ∷ 0xFF ∷ 0xFF ∷ 0xFF ∷ 0xFF ∷ []

-- an object whose key is FF
abbrev pub bad_key : List ℕ
bad_key = 0x00 ∷ 0x01 ∷ 0x00 ∷ 0x0C ∷ 0x00 ∷ 0x0B ∷ 0x00 ∷ 0x01 ∷ 0x00 ∷ 0x04 ∷ 0x01 ∷ 0x00 ∷ 0xFF ∷ []

-- a string of two bytes, E2 82, which begin the character E2 82 AC, over the byte behind it
abbrev pub cut : ℕ → List ℕ
cut b = 0x0C ∷ 0x02 ∷ 0xE2 ∷ 0x82 ∷ b ∷ []

-- an array of two arrays, of true and of -2
abbrev pub arrays : List ℕ
arrays =
    0x02 ∷ 0x02 ∷ 0x00 ∷ 0x18 ∷ 0x00 ∷ 0x02 ∷ 0x0A ∷ 0x00 ∷ 0x02 ∷ 0x11 ∷ 0x00
    ∷ 0x01 ∷ 0x00 ∷ 0x07 ∷ 0x00 ∷ 0x04 ∷ 0x01 ∷ 0x00 ∷ 0x01 ∷ 0x00 ∷ 0x07 ∷ 0x00 ∷ 0x05 ∷ 0xFE ∷ 0xFF ∷ []

-- ---- events: the root of an array and its two elements; the root of an object and its member; an empty document's null
abbrev pub array_root : List ℕ
array_root = 2 ∷ 0 ∷ 0 ∷ 0 ∷ 0 ∷ 1 ∷ 10 ∷ 2 ∷ 0 ∷ []

abbrev pub is_true : List ℕ
is_true = 4 ∷ 1 ∷ 0 ∷ 0 ∷ 0 ∷ 6 ∷ 1 ∷ 0 ∷ 0 ∷ []

abbrev pub is_minus_two : List ℕ
is_minus_two = 5 ∷ 1 ∷ 1 ∷ 0 ∷ 0 ∷ 9 ∷ 2 ∷ 0 ∷ 0 ∷ []

abbrev pub object_root : List ℕ
object_root = 0 ∷ 0 ∷ 0 ∷ 0 ∷ 0 ∷ 1 ∷ 17 ∷ 1 ∷ 0 ∷ []

abbrev pub keyed_root : List ℕ
keyed_root = 0 ∷ 0 ∷ 0 ∷ 0 ∷ 0 ∷ 1 ∷ 12 ∷ 1 ∷ 0 ∷ []

abbrev pub is_zoe : List ℕ
is_zoe = 12 ∷ 1 ∷ 0 ∷ 12 ∷ 1 ∷ 14 ∷ 4 ∷ 0 ∷ 0 ∷ []

abbrev pub empty_null : List ℕ
empty_null = 4 ∷ 0 ∷ 0 ∷ 0 ∷ 0 ∷ 0 ∷ 0 ∷ 0 ∷ 0 ∷ []

-- an array, its first array with true, its second array with -2
abbrev pub arrays_root : List ℕ
arrays_root = 2 ∷ 0 ∷ 0 ∷ 0 ∷ 0 ∷ 1 ∷ 24 ∷ 2 ∷ 0 ∷ []

abbrev pub first_array : List ℕ
first_array = 2 ∷ 1 ∷ 0 ∷ 0 ∷ 0 ∷ 11 ∷ 7 ∷ 1 ∷ 0 ∷ []

abbrev pub true_in_first : List ℕ
true_in_first = 4 ∷ 2 ∷ 0 ∷ 0 ∷ 0 ∷ 16 ∷ 1 ∷ 0 ∷ 1 ∷ []

abbrev pub second_array : List ℕ
second_array = 2 ∷ 1 ∷ 1 ∷ 0 ∷ 0 ∷ 18 ∷ 7 ∷ 1 ∷ 0 ∷ []

abbrev pub minus_two_in_second : List ℕ
minus_two_in_second = 5 ∷ 2 ∷ 0 ∷ 0 ∷ 0 ∷ 23 ∷ 2 ∷ 0 ∷ 3 ∷ []

abbrev pub table : List (Row × Said Thing)
table =
    -- "-12.34" and "12.34"
    (packed (0x04 ∷ 0x02 ∷ 0x73 ∷ 0xDD ∷ []) true, says (text (45 ∷ 49 ∷ 50 ∷ 46 ∷ 51 ∷ 52 ∷ [])))
    ∷ (packed (0x04 ∷ 0x02 ∷ 0x8C ∷ 0x22 ∷ []) true, says (text (49 ∷ 50 ∷ 46 ∷ 51 ∷ 52 ∷ [])))
    -- "99", and a group out of range
    ∷ (digits (0xE3 ∷ []) 2 0 true, says (text (57 ∷ 57 ∷ [])))
    ∷ (digits (0xE4 ∷ []) 2 0 true, refuses 22)
    -- "0" both ways, with kept precision and without (document 02, W2)
    ∷ (digits (0x7F ∷ []) 2 0 true, says (text (48 ∷ [])))
    ∷ (digits (0x7F ∷ []) 2 0 false, says (text (48 ∷ [])))
    -- an array of true and -2
    ∷ (root true_and_minus_two, container false false 1 2 10)
    ∷ (element true_and_minus_two 0, is type.Literal (scalar.Boolean true))
    ∷ (element true_and_minus_two 1, int type.Int16 (negsuc 1))
    ∷ (element true_and_minus_two 2, nothing)
    -- member a is Zoë; with a key's offset of 0A the key is 5
    ∷ (key (zoe 0x0B) 0, says (keyed (span 12 1)))
    ∷ (element (zoe 0x0B) 0, is type.String (scalar.String (span 14 4)))
    ∷ (string (zoe 0x0B) 0, says (text (0x5A ∷ 0x6F ∷ 0xC3 ∷ 0xAB ∷ [])))
    ∷ (key (zoe 0x0A) 0, refuses 5)
    -- the string 01 00 41 42 begins among later entries; in its own entry the pointer is 6
    ∷ (element (among 0x07) 0, is type.String (scalar.String (span 9 4)))
    ∷ (string (among 0x07) 0, says (text (0x01 ∷ 0x00 ∷ 0x41 ∷ 0x42 ∷ [])))
    ∷ (element (among 0x06) 0, refuses 6)
    -- both hold -1
    ∷ (element pointed 0, int type.Int32 (negsuc 0))
    ∷ (element inlined 0, int type.Int32 (negsuc 0))
    -- the array of true and -2, walked: three events; with room for two it is 12 at the entry of -2
    ∷ (walk true_and_minus_two 1820, lists (array_root ∷ is_true ∷ is_minus_two ∷ []) (Done 3))
    ∷ (walk true_and_minus_two 2, lists (array_root ∷ is_true ∷ []) (Stopped 12 8 2))
    -- the object of Zoë; a last byte that ends no character is 9 at that byte (document 02, W5), a key's offset of 0A is 5 at the key's entry
    ∷ (walk (zoe 0x0B) 1820, lists (object_root ∷ is_zoe ∷ []) (Done 2))
    ∷ (walk (zoe_ending 0x0B 0x22) 1820, lists (object_root ∷ []) (Stopped 9 17 1))
    ∷ (walk (zoe 0x0A) 1820, lists (object_root ∷ []) (Stopped 5 5 1))
    -- a key that is no character is 9 at its byte; a character that its text cuts is 9 at the text's end, whatever stands there
    ∷ (walk bad_key 1820, lists (keyed_root ∷ []) (Stopped 9 12 1))
    ∷ (walk (cut 0x04) 1820, lists [] (Stopped 9 4 0))
    ∷ (walk (cut 0xAC) 1820, lists [] (Stopped 9 4 0))
    -- arrays in an array: an event's last number is the index of its container's, also of those that stand where there is no room for more (document 02, W6)
    ∷ (walk arrays 1820, lists (arrays_root ∷ first_array ∷ true_in_first ∷ second_array ∷ minus_two_in_second ∷ []) (Done 5))
    ∷ (walk arrays 3, lists (arrays_root ∷ first_array ∷ true_in_first ∷ []) (Stopped 12 8 3))
    -- the empty document
    ∷ (walk [] 1820, lists (empty_null ∷ []) (Done 1))
    ∷ []
