-- Escapes in a string literal: document 01, "Escapes `\\ \n \r \t`, .. `\x` 2, `\u` 4, `\U` 8 hex digits; surrogates and numbers above 10FFFF are 6", and these arms of the Rust's `parse_string_literal`.
use Rattle.std.specs.Prelude.{ℕ, zero, suc, ◌+◌, ◌*◌, eqb, leb, Err, None, Ok, Some}
use Prim.Native.Char.{code}
use Rattle.basis.specs.Types.{Code, Text}
use Rattle.basis.specs.Pick.{pick}
use Rattle.utf8.specs.Encode.{is_scalar}
use Rattle.classes.specs.Class.{digit_of}
use Rattle.chars.specs.Cursors.{eat_next_of}
use Rattle.chars.specs.declared.cursor.Cursor.{Cursor}
use Rattle.chars.specs.Takes.{Taken}
use Rattle.escape.specs.Answer.{Digits, valued}
use Rattle.escape.specs.declared.Escaped.{Escaped}
use Rattle.escape.specs.declared.Escaped.TheVariants.{Char, Malformed, Other}

-- no character: the number after the last code point
abbrev pub no_char : ℕ
no_char = 0x110000

-- the character that a letter stands for by itself: `\r`, `\n`, `\\`, `\t`
unfoldable pub letter_of : Code → ℕ
letter_of c =
    pick (eqb c (code "r")) 0x0D
    (pick (eqb c (code "n")) 0x0A
    (pick (eqb c (code "\\")) (code "\\")
    (pick (eqb c (code "t")) 0x09 no_char)))

-- how many hex digits come after a letter: `\x`, `\u`, `\U`
unfoldable pub digits_after : Code → ℕ
digits_after c = pick (eqb c (code "x")) 2 (pick (eqb c (code "u")) 4 (pick (eqb c (code "U")) 8 0))

-- a character that was taken, or the end
abbrev pub on_taken : {A : Type 0} → Taken → (ℕ → Cursor → A) → A → A
on_taken (Some (c, next)) f end = f c next
on_taken None f end = end

-- a digit's value, or what is no digit
abbrev pub on_digit : ℕ → Digits → (ℕ → Digits) → Digits
on_digit d bad f = pick (leb 16 d) bad (f d)

-- n digits, counted on from v: each character is taken, whatever it is
unfoldable pub digits_from : Text → ℕ → ℕ → Cursor → Digits
digits_from t zero v here = valued v here
digits_from t (suc n) v here = on_taken (eat_next_of t here) (λ c next. on_digit (digit_of c) (Err next) (λ d. digits_from t n (v * 16 + d) next)) (Err here)

-- the scalar value that the digits make
unfoldable pub scalar_of : Digits → Escaped
scalar_of (Ok (v, here)) = pick (is_scalar v) (Char v here) (Malformed here)
scalar_of (Err here) = Malformed here

-- what a backslash and the character c stand for, the cursor standing behind c
unfoldable pub escaped_of : Text → Code → Cursor → Escaped
escaped_of t c here =
    pick (eqb (letter_of c) no_char) (pick (eqb (digits_after c) 0) Other (scalar_of (digits_from t (digits_after c) 0 here)))
    (Char (letter_of c) here)
