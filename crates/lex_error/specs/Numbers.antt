-- Document 01's numbers of the refusals.
use Rattle.std.specs.Prelude.{ℕ, Result, Ok, Err}
use Rattle.lex_error.specs.declared.LexError.{LexError}
use Rattle.lex_error.specs.declared.LexError.TheVariants.{
  NotUtf8,
  TextTooLong,
  BadArgument,
  UnterminatedString,
  UnexpectedInput,
  MalformedEscapeSequence,
  StringTooLong,
  MalformedIdentifier,
  NoLiteralRoom,
  NoTokenRoom,
  StillOpen,
  NotOneCharacter,
  TooDeep,
  BadBook,
  BadSum,
}

-- the number of a refusal
abbrev pub number_of : LexError → ℕ
number_of NotUtf8 = 1
number_of TextTooLong = 2
number_of BadArgument = 3
number_of UnterminatedString = 4
number_of UnexpectedInput = 5
number_of MalformedEscapeSequence = 6
number_of StringTooLong = 7
number_of MalformedIdentifier = 8
number_of NoLiteralRoom = 9
number_of NoTokenRoom = 10
number_of StillOpen = 11
number_of NotOneCharacter = 12
number_of TooDeep = 13
number_of BadBook = 14
number_of BadSum = 15

-- what is asked of an input: nothing is wrong, or the refusal
abbrev pub Asked : Type 0
Asked = Result (Unit {0}) LexError

-- the number that is told of what was asked: 0 where nothing is wrong
abbrev pub told_number : {A : Type 0} → Result A LexError → ℕ
told_number (Ok a) = 0
told_number (Err e) = number_of e

-- nothing is wrong
abbrev pub no_refusal : Asked
no_refusal = Ok tt

-- what is asked only where nothing was wrong before
abbrev pub asked_then : {A B : Type 0} → Result A LexError → Result B LexError → Result B LexError
asked_then (Ok a) r = r
asked_then (Err e) r = Err e

-- what follows where nothing is wrong, or what a refusal leads to
abbrev pub on_asked : {A B : Type 0} → Result A LexError → B → (LexError → B) → B
on_asked (Ok a) b f = b
on_asked (Err e) b f = f e
