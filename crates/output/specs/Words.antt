-- The words in which programs write answers.
-- Assumes nothing.
use Rattle.std.specs.Prelude.{ℕ, ◌/◌, ◌%◌, Bool, true, false, List, [], ◌∷◌, ◌++◌, Option, Some, None, Result, Ok, Err, codes, flat_map}
use Rattle.std.specs.Fmt.{decimal, digit_glyph}
use Rattle.std.specs.Char.{encode_utf8}
use Rattle.refusal.specs.declared.Refusal.{Refusal}
use Rattle.refusal.specs.Refusals.{number_of}

-- an answer: its own words, or the number of its refusal
abbrev pub answer_words : {A : Type 0} → (A → Option (List ℕ)) → Result A Refusal → Option (List ℕ)
answer_words words (Ok x) = words x
answer_words words (Err r) = Some (codes "refused " ++ decimal (number_of r))

-- something, or a word for nothing
abbrev pub words_or : {A : Type 0} → (A → Option (List ℕ)) → List ℕ → Option A → Option (List ℕ)
words_or words nothing (Some x) = words x
words_or words nothing None = Some nothing

-- a byte in two hexadecimal digits
abbrev pub two_digits : ℕ → List ℕ
two_digits b = digit_glyph false (b / 16) ∷ digit_glyph false (b % 16) ∷ []

-- bytes in hexadecimal digits
abbrev pub hex : List ℕ → List ℕ
hex bs = flat_map two_digits bs

-- the same, and - for none
abbrev pub hex_word : List ℕ → List ℕ
hex_word [] = codes "-"
hex_word (b ∷ bs) = hex (b ∷ bs)

-- bytes as the characters of these numbers
abbrev pub characters : List ℕ → List ℕ
characters bs = flat_map encode_utf8 bs

-- whether all outside a result is as it was
abbrev pub kept_word : Bool → List ℕ
kept_word true = codes "kept"
kept_word false = codes "touched"

-- how many bytes were written: none on a refusal
abbrev pub written_len : Result ℕ Refusal → ℕ
written_len (Ok n) = n
written_len (Err r) = 0
