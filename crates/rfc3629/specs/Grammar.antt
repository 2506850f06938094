-- What UTF-8 is: the grammar of RFC 3629, section 4, a constructor for each of its rows; and where bytes break that are none.
-- Assumes nothing.
use Rattle.std.specs.Prelude.{ℕ, ◌+◌, ◌≤◌, ◌≡◌, List, [], ◌∷◌, ◌++◌, length}

-- %xLO-HI of the RFC
abbrev pub Within : ℕ → ℕ → ℕ → Type 0
Within lo hi b = (lo ≤ b) × (b ≤ hi)

-- UTF8-tail = %x80-BF
abbrev pub Tail : ℕ → Type 0
Tail b = Within 0x80 0xBF b

-- UTF8-char = UTF8-1 / UTF8-2 / UTF8-3 / UTF8-4
pub data Char : List ℕ → Type 0 where
  utf8-1 : {a : ℕ} → Within 0x00 0x7F a → Char (a ∷ [])
  utf8-2 : {a b : ℕ} → Within 0xC2 0xDF a → Tail b → Char (a ∷ b ∷ [])
  utf8-3-E0 : {b c : ℕ} → Within 0xA0 0xBF b → Tail c → Char (0xE0 ∷ b ∷ c ∷ [])
  utf8-3-E1-EC : {a b c : ℕ} → Within 0xE1 0xEC a → Tail b → Tail c → Char (a ∷ b ∷ c ∷ [])
  utf8-3-ED : {b c : ℕ} → Within 0x80 0x9F b → Tail c → Char (0xED ∷ b ∷ c ∷ [])
  utf8-3-EE-EF : {a b c : ℕ} → Within 0xEE 0xEF a → Tail b → Tail c → Char (a ∷ b ∷ c ∷ [])
  utf8-4-F0 : {b c d : ℕ} → Within 0x90 0xBF b → Tail c → Tail d → Char (0xF0 ∷ b ∷ c ∷ d ∷ [])
  utf8-4-F1-F3 : {a b c d : ℕ} → Within 0xF1 0xF3 a → Tail b → Tail c → Tail d → Char (a ∷ b ∷ c ∷ d ∷ [])
  utf8-4-F4 : {b c d : ℕ} → Within 0x80 0x8F b → Tail c → Tail d → Char (0xF4 ∷ b ∷ c ∷ d ∷ [])

-- UTF8-octets = *( UTF8-char )
pub data Utf8 : List ℕ → Type 0 where
  none : Utf8 []
  and : {c s : List ℕ} → Char c → Utf8 s → Utf8 (c ++ s)

-- some character begins with the bytes m
abbrev pub Begins : List ℕ → Type 0
Begins m = (q : List ℕ) × Char (m ++ q)

-- some character begins with the bytes m and has more
abbrev pub Unfinished : List ℕ → Type 0
Unfinished m = (b : ℕ) × (q : List ℕ) × Char (m ++ (b ∷ q))

-- After the bytes m of a character nothing goes on: the text ends inside the character, or no character begins with m and the next byte.
abbrev pub Stuck : List ℕ → List ℕ → Type 0
Stuck m [] = m ≡ [] → ⊥
Stuck m (b ∷ rest) = Begins (m ++ (b ∷ [])) → ⊥

-- The bytes s break at the place p: whole characters, then bytes up to p that begin a character which has more, and no way on from there. So a
-- character that is cut at the end breaks at the end.
pub record Breaks (s : List ℕ) (p : ℕ) : Type 0 where
  pub before : List ℕ
  pub begun : List ℕ
  pub rest : List ℕ
  pub split : s ≡ before ++ (begun ++ rest)
  pub place : p ≡ length before + length begun
  pub whole : Utf8 before
  pub unfinished : Unfinished begun
  pub stuck : Stuck begun rest
