-- The numbers of refusals are 1 to 15. Assumes nothing.
use Prim.Native.Nat.{◌≤◌}
use native.Mathlib.Omega.{arith}
use Rattle.std.specs.Prelude.{Result, Ok, Err}
use Rattle.lex_error.specs.declared.LexError.{LexError}
use Rattle.lex_error.specs.declared.LexError.TheVariants.{NotUtf8, TextTooLong, BadArgument, UnterminatedString, UnexpectedInput, MalformedEscapeSequence, StringTooLong, MalformedIdentifier, NoLiteralRoom, NoTokenRoom, StillOpen, NotOneCharacter, TooDeep, BadBook, BadSum}
use Rattle.lex_error.specs.Numbers.{number_of, told_number}

pub number_small : (e : LexError) → number_of e ≤ 15
number_small NotUtf8 = omega arith
number_small TextTooLong = omega arith
number_small BadArgument = omega arith
number_small UnterminatedString = omega arith
number_small UnexpectedInput = omega arith
number_small MalformedEscapeSequence = omega arith
number_small StringTooLong = omega arith
number_small MalformedIdentifier = omega arith
number_small NoLiteralRoom = omega arith
number_small NoTokenRoom = omega arith
number_small StillOpen = omega arith
number_small NotOneCharacter = omega arith
number_small TooDeep = omega arith
number_small BadBook = omega arith
number_small BadSum = omega arith

pub number_some : (e : LexError) → 1 ≤ number_of e
number_some NotUtf8 = omega arith
number_some TextTooLong = omega arith
number_some BadArgument = omega arith
number_some UnterminatedString = omega arith
number_some UnexpectedInput = omega arith
number_some MalformedEscapeSequence = omega arith
number_some StringTooLong = omega arith
number_some MalformedIdentifier = omega arith
number_some NoLiteralRoom = omega arith
number_some NoTokenRoom = omega arith
number_some StillOpen = omega arith
number_some NotOneCharacter = omega arith
number_some TooDeep = omega arith
number_some BadBook = omega arith
number_some BadSum = omega arith

pub told_small : {A : Type 0} (r : Result A LexError) → told_number r ≤ 15
told_small (Ok a) = omega arith
told_small (Err e) = number_small e
