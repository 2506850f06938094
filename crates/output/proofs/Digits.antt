-- Two digits for each byte, and the text of ASCII.
-- Assumes nothing.
use Rattle.std.proofs.Common.{◌≡◌, ℕ, suc, ◌+◌, ◌*◌, ◌<◌, ◌≤◌, List, [], ◌∷◌, ◌++◌, length, get_or, take, drop, ◌-◌, refl, ap, arith, sym, ◌∙◌, append_assoc, add-one, length-drop}
use Rattle.std.proofs.Math.ListN.{set, length-set}
use Rattle.std.proofs.Math.Seq.{take-suc, take-add, drop-drop}
use Rattle.std.proofs.lemmas.Grind.{flat_map-append, take-set_at}
use Rattle.std.proofs.lemmas.Str.{encode_ascii}
use Rattle.std.specs.Prelude.{flat_map}
use Rattle.std.specs.Char.{encode_utf8}
use Rattle.std.specs.Str.{IsAscii}
use Rattle.output.specs.Words.{two_digits}

pub characters_ascii : (bs : List ℕ) → IsAscii bs → flat_map encode_utf8 bs ≡ bs
characters_ascii [] h = refl
characters_ascii (b ∷ bs) h = rw (encode_ascii b (h 0)) (ap (λ xs. b ∷ xs) (characters_ascii bs (λ i. h (suc i))))

-- a turn of the loop: two bytes more of the text are two digits of one byte more
pub two_more : (text bs : List ℕ) (i n d e b : ℕ) → n ≡ 2 * i + 1 → n < length text → i < length bs → b ≡ get_or bs i 0
    → d ∷ e ∷ [] ≡ two_digits b
    → take (2 * i) text ≡ flat_map two_digits (take i bs)
    → take (2 * (i + 1)) (set (set text (2 * i) d) n e) ≡ flat_map two_digits (take (i + 1) bs)
two_more text bs i n d e b en ln li eb ed h =
    let s1 : take (2 * (i + 1)) (set (set text (2 * i) d) n e) ≡ take n (set text (2 * i) d) ++ (e ∷ [])
    = take-set_at (set text (2 * i) d) n (2 * (i + 1)) e (omega arith) (omega (arith, length-set {A = ℕ})) in
    let s2 : take n (set text (2 * i) d) ≡ take (2 * i) text ++ (d ∷ []) = take-set_at text (2 * i) n d en (omega arith) in
    let s3 : take (i + 1) bs ≡ take i bs ++ (b ∷ []) = rw (add-one, eb) (take-suc bs i 0 li) in
    let s4 : flat_map two_digits (take i bs ++ (b ∷ [])) ≡ flat_map two_digits (take i bs) ++ flat_map two_digits (b ∷ [])
    = flat_map-append two_digits (take i bs) (b ∷ []) in
    let s5 : (flat_map two_digits (take i bs) ++ (d ∷ [])) ++ (e ∷ []) ≡ flat_map two_digits (take i bs) ++ flat_map two_digits (b ∷ [])
    = rw append_assoc (ap (λ xs. flat_map two_digits (take i bs) ++ xs) ed) in
    s1 ∙ ap (λ xs. xs ++ (e ∷ [])) (s2 ∙ ap (λ xs. xs ++ (d ∷ [])) h) ∙ s5 ∙ sym s4 ∙ sym (ap (flat_map two_digits) s3)

-- the bytes up to a place, and the piece behind it
pub piece_more : (xs rest bytes more : List ℕ) (m : ℕ) → m ≤ length rest → rest ≡ drop (length xs - length rest) xs
    → bytes ≡ take m rest → more ≡ drop m rest
    → (more ≡ drop (length xs - length more) xs)
    × (flat_map two_digits (take (length xs - length more) xs) ≡ flat_map two_digits (take (length xs - length rest) xs) ++ flat_map two_digits bytes)
piece_more xs rest bytes more m hm hr hb hd =
    let k = length xs - length rest in
    let e : length xs - length more ≡ k + m
    = omega (arith, ap length hr, length-drop (length xs - length rest) xs, ap length hd, length-drop m rest) in
    let left : more ≡ drop (k + m) xs = hd ∙ ap (drop m) hr ∙ drop-drop m k xs in
    let front : take (k + m) xs ≡ take k xs ++ bytes = take-add k m xs ∙ ap (λ ys. take k xs ++ ys) (ap (take m) (sym hr) ∙ sym hb) in (
      left ∙ ap (λ n. drop n xs) (sym e),
      ap (λ n. flat_map two_digits (take n xs)) e ∙ ap (flat_map two_digits) front ∙ flat_map-append two_digits (take k xs) bytes,
    )
