-- The reading of a string literal: document 01, "String literal", and the Rust's `parse_string_literal`. What the entry asks first is in Entry.
use Rattle.std.specs.declared.ops.ControlFlow.TheVariants.{Break, Continue}
use Rattle.std.specs.Prelude.{ℕ, suc, ◌-◌, ◌<◌, Bool, false, List, [], ◌∷◌, ◌≡◌, eqb, length, None}
use Rattle.basis.specs.Types.{Code, Offset, Text}
use Rattle.position.specs.declared.Position.{Position}
use Rattle.position.specs.Place.{none}
use Rattle.utf8.specs.Table.{Ch, chars_at}
use Rattle.utf8.specs.Encode.{encoded}
use Rattle.white.specs.White.{is_white}
use Rattle.chars.specs.Scan.{Turn, go, stop, Rule, run_at}
use Rattle.chars.specs.declared.cursor.Cursor.{Cursor}
use Rattle.literal.specs.Trace.{Trace, checks, Yield, added, tested, yields}
use Rattle.classes.specs.Marks.{lf, cr, dollar, backslash}
use Rattle.literal.specs.Answers.{once, too_long}
use Rattle.string_turn.specs.Kinds.{is_verbatim, is_interpolated}
use Rattle.string_turn.specs.Take.{scanning, input_end, take_of}
use Rattle.string_turn.specs.Act.{act_of}
use Rattle.string_turn.specs.declared.take.Scanning.{Scanning}
use Rattle.string_turn.specs.Answer.{Last}
use Rattle.string_turn.specs.Answer.{Got}
use Rattle.string_turn.specs.Answer.{Acted}
use Rattle.string.specs.Ends.{last_of}

-- a character that was taken, or the scan over
abbrev pub on_got : {A : Type 0} → Got → (ℕ → Cursor → A) → (Last → A) → A
on_got (Continue (c, here)) f g = f c here
on_got (Break last) f g = g last

-- a step that goes on, or the scan over
abbrev pub on_acted : {A : Type 0} → Acted → (ℕ → ℕ → Scanning → A) → (Last → A) → A
on_acted (Continue (c, at, s)) f g = f c at s
on_acted (Break last) f g = g last

-- a turn: a character is taken, the limit is tested, and the character is acted on; of the characters cs from here on it takes those that are not left then
unfoldable pub string_turn : (Code → Bool) → Text → Code → Position → Offset → List Ch → Scanning → Turn Scanning (List Yield) Trace
string_turn white t q start at cs s =
    on_got (take_of t q start at s)
    (λ c here. on_acted (act_of white t q start c here s)
    (λ d next s'. go (tested (too_long start here (once q)) ∷ added (encoded d) ∷ []) (length cs - suc (length (chars_at t next))) s')
    (λ last. stop (checks (too_long start here (once q)) (last_of start last))))
    (λ last. stop (last_of start last))

-- the rule for a terminator, of the text t, for a literal that starts at a place; `white` is the white-space test of the continuation
unfoldable pub string_rule : (Code → Bool) → Text → Code → Position → Rule Scanning (List Yield) Trace
string_rule white t q start = record { turn = string_turn white t q start; end = λ at s. last_of start (input_end q start at s); note = yields }

-- before the first turn
unfoldable pub string_begun : Position → Scanning
string_begun p = scanning p none None 0

-- the literal's reading by the unlimited rules, from a cursor whose place is the literal's start
unfoldable pub string_reading : (Code → Bool) → Text → Code → Cursor → Trace
string_reading white t q from = run_at (string_rule white t q from.place) t from.at (string_begun from.place)

-- what is left to read from an offset, in a state
abbrev pub rest : Text → Code → Position → Offset → Scanning → Trace
rest t q start at s = run_at (string_rule is_white t q start) t at s

-- a terminator of literals that have escapes
pub record Escaping (q : ℕ) : Type 0 where
  pub plain : is_verbatim q ≡ false
  pub whole : is_interpolated q ≡ false
  pub other : eqb backslash q ≡ false

-- one of the three terminators: none of the characters that the rules name, not white, and of one byte, which is not 0
pub record Terminating (q : ℕ) : Type 0 where
  pub no_dollar : eqb q dollar ≡ false
  pub no_backslash : eqb q backslash ≡ false
  pub no_cr : eqb q cr ≡ false
  pub no_lf : eqb q lf ≡ false
  pub no_white : is_white q ≡ false
  pub low : q < 0x80
  pub some : 0 < q
