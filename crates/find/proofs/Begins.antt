-- What begins at a place, for each way out of the functions. Assumes nothing.
use Rattle.std.specs.Prelude.{Option, None, Some}
use Prim.Native.Nat.{ℕ, ◌+◌, ◌-◌, ◌≤◌}
use native.Mathlib.Omega.{arith}
use Prim.Native.Char.{code}
use mathlib.Core.Bool.{Bool, true, false}
use mathlib.Core.List.{List}
use mathlib.Core.Path.{◌≡◌, refl}
use lib.Dec.{eqb}
use lib.ListN.{length}
use borrow.Author.Tests.{eqb-true}
use Rattle.basis.specs.Pick.{either}
use Rattle.basis.proofs.Cases.{pick_cases}
use Rattle.position.specs.declared.Position.{Position}
use Rattle.position.specs.Place.{advanced, advanced_by}
use Rattle.utf8.specs.Table.{◌‥◌, within, look_at}
use Rattle.utf8.specs.Looks.{Look, char_found}
use Rattle.utf8.proofs.Laws.{at_width}
use Rattle.utf8.proofs.Ranges.{within_low, within_high}
use Rattle.classes.specs.Class.{is_numeric_digit, is_id_first_alphabetic}
use Rattle.white.specs.White.{is_white}
use Rattle.white.proofs.Whites.{plain}
use Rattle.chars.specs.Cursors.{cursor}
use Rattle.chars.specs.declared.cursor.Cursor.{Cursor}
use Rattle.chars.specs.Ends.{stretch_end}
use Rattle.chars.specs.declared.stretch.Stretch.TheVariants as Stretch
use Rattle.fault.specs.Faults.{part, unexpected_input}
use Rattle.token.specs.Tokens as Token
use Rattle.entry.specs.Kinds as Kind
use Rattle.identifier.specs.Identifiers.{identify_of}
use Rattle.symbols.specs.Found.{Longest, symbol_as}
use Rattle.find.specs.Find.{white_of, word_of, number_run, symbol_of, code_of, is_code, slash_sign, hash_sign, sign_at, on_sign, mark_of, begins_word, begins_of, find_of}
use Rattle.find.specs.declared.Sign.{Sign}
use Rattle.find.specs.declared.Sign.TheVariants as sign
use Rattle.find.specs.declared.Found.TheVariants.{Part, Wrong, End}

-- ---- symbols
module _ (at w : ℕ) (p : Position) {l : Longest} where
  pub a_symbol : {t n : ℕ} → l ≡ symbol_as t n → symbol_of at w p l ≡ Part (cursor (at + n) (advanced_by (n - 1) p)) Kind.symbol t
  unfolding symbol_of
  a_symbol q = rw q

  pub no_symbol : l ≡ None → symbol_of at w p l ≡ Wrong (unexpected_input p (part at w))
  unfolding symbol_of
  no_symbol q = rw q

-- ---- a comment's two characters are within the script
abbrev pub Paired : List ℕ → ℕ → Sign → Type 0
Paired t at (sign.Literal o) = Unit {0}
Paired t at sign.Line = at + 2 ≤ length t
Paired t at sign.Block = at + 2 ≤ length t
Paired t at sign.Symbol = Unit {0}

code_within : (t : List ℕ) (at d : ℕ) → is_code d (code_of (look_at t at)) ≡ true → at + 1 ≤ length t
code_within t at d q = by (look_at t at) refl q
  where
    by : (x : Look) → look_at t at ≡ x → is_code d (code_of x) ≡ true → at + 1 ≤ length t
    by (Some (c, w)) e h = omega (arith, at_width t at e)
    by None e h = cc

module _ (t : List ℕ) (at : ℕ) where
  slash_paired : Paired t at (slash_sign (code_of (look_at t (at + 1))))
  unfolding slash_sign
  slash_paired =
      let behind = code_of (look_at t (at + 1)) in
      pick_cases (Paired t at) (is_code (code "/") behind) _ _
      (λ y. omega (arith, code_within t (at + 1) (code "/") y))
      (λ m. pick_cases (Paired t at) (is_code (code "*") behind) _ _
      (λ y. omega (arith, code_within t (at + 1) (code "*") y))
      (λ n. tt))

  hash_paired : (behind : Option ℕ) → Paired t at (hash_sign behind)
  unfolding hash_sign
  hash_paired behind = pick_cases (Paired t at) (is_code (code "{") behind) _ _ (λ y. tt) (λ n. tt)

  pub sign_paired : (c : ℕ) → Paired t at (sign_at t at c)
  unfolding sign_at
  sign_paired c =
      pick_cases (Paired t at) (eqb c (code "\"")) _ _ (λ y. tt)
      (λ n1. pick_cases (Paired t at) (eqb c (code "'")) _ _ (λ y. tt)
      (λ n2. pick_cases (Paired t at) (eqb c (code "`")) _ _ (λ y. tt)
      (λ n3. pick_cases (Paired t at) (eqb c (code "#")) _ _ (λ y. hash_paired _)
      (λ n4. pick_cases (Paired t at) (eqb c (code "/")) _ _ (λ y. slash_paired)
      (λ n5. tt)))))

  pub block_within : (c : ℕ) → sign_at t at c ≡ sign.Block → at + 2 ≤ length t
  block_within c e = rw e at (sign_paired c)

-- ---- what begins at a sign
pub signed : (t : List ℕ) (at : ℕ) (p : Position) (c w : ℕ) {m : Sign} → sign_at t at c ≡ m → mark_of t at p c w ≡ on_sign t at p w m
unfolding mark_of
signed t at p c w e = rw e

-- ---- no letter, no `_` and no digit is white
letter_plain : (c : ℕ) → is_id_first_alphabetic c ≡ true → is_white c ≡ false
unfolding is_id_first_alphabetic
letter_plain c y = by (within (code "A" ‥ code "Z") c) refl y
  where
    by : (b : Bool) → within (code "A" ‥ code "Z") c ≡ b → either b (within (code "a" ‥ code "z") c) ≡ true → is_white c ≡ false
    by true z h = plain (omega (arith, within_low (code "A" ‥ code "Z") c z)) (omega (arith, within_high (code "A" ‥ code "Z") c z))
    by false z h = plain (omega (arith, within_low (code "a" ‥ code "z") c h)) (omega (arith, within_high (code "a" ‥ code "z") c h))

word_plain : (c : ℕ) → begins_word c ≡ true → is_white c ≡ false
unfolding begins_word
word_plain c y = by (is_id_first_alphabetic c) refl y
  where
    by : (b : Bool) → is_id_first_alphabetic c ≡ b → either b (eqb c (code "_")) ≡ true → is_white c ≡ false
    by true z h = letter_plain c z
    by false z h = let q = eqb-true c 0x5F h in plain (omega (arith, q)) (omega (arith, q))

digit_plain : (c : ℕ) → is_numeric_digit c ≡ true → is_white c ≡ false
unfolding is_numeric_digit
digit_plain c y = plain (omega (arith, within_low (code "0" ‥ code "9") c y)) (omega (arith, within_high (code "0" ‥ code "9") c y))

-- ---- what begins behind a cursor, by what is white
module _ (white : ℕ → Bool) (t book : List ℕ) (s : Cursor) where
  pub nothing_more_lem : look_at t s.at ≡ None → find_of white t book s ≡ End
  unfolding find_of
  nothing_more_lem e = rw e

  module _ {c w : ℕ} (e : look_at t s.at ≡ char_found c w) where
    pub finds_white : white c ≡ true → find_of white t book s ≡ white_of c (cursor (s.at + w) (advanced s.place))
    unfolding find_of begins_of
    finds_white y = rw (e, y)

-- no letter, no `_` and no digit is white
module _ (t book : List ℕ) (s : Cursor) {c w : ℕ} (e : look_at t s.at ≡ char_found c w) where
  abbrev p : Position
  p = advanced s.place

  pub finds_word : begins_word c ≡ true → find_of is_white t book s ≡ word_of (identify_of t book (cursor s.at p))
  unfolding find_of begins_of
  finds_word y = rw (e, word_plain c y, y)

  module _ (m : begins_word c ≡ false) where
    pub finds_digit : is_numeric_digit c ≡ true → find_of is_white t book s ≡ Part (stretch_end Stretch.Word t (cursor (s.at + w) p)) Kind.number Token.IntegerConstant
    unfolding find_of begins_of number_run
    finds_digit y = rw (e, digit_plain c y, m, y)

    pub finds_mark : is_numeric_digit c ≡ false → is_white c ≡ false → find_of is_white t book s ≡ mark_of t s.at p c w
    unfolding find_of begins_of
    finds_mark y n = rw (e, n, m, y)
