-- Worked examples of the definitions, under one theorem. Assumes nothing.
use Rattle.symbols.specs.Found.{symbol_as}
use Rattle.std.specs.Prelude.{None}
use mathlib.Core.Path.{◌≡◌, refl}
use Rattle.basis.specs.Words.{word, begins}
use Rattle.classes.specs.Class.{is_numeric_digit, is_id_first_alphabetic, is_id_continue}
use Rattle.token.specs.Tokens as Token
use Rattle.token.specs.Keywords.{keywords}
use Rattle.symbols.specs.Symbols.{is_symbol, stands, standing, longer, longest_in, longest_of, longest_symbol_of}

pub record Worked : Type 0 where
  pub equals : longest_symbol_of (word "a===b") 1 ≡ symbol_as Token.EqualsTo 2
  pub power : longest_symbol_of (word "**=") 0 ≡ symbol_as Token.PowerOfAssign 3
  pub not_in : longest_symbol_of (word "!in x") 0 ≡ symbol_as Token.NotIn 3
  pub not_in_end : longest_symbol_of (word "!in") 0 ≡ symbol_as Token.NotIn 3
  pub bang : longest_symbol_of (word "!inx") 0 ≡ symbol_as Token.Bang 1
  pub no_symbol : longest_symbol_of (word "~") 0 ≡ None
  pub letter : longest_symbol_of (word "in") 0 ≡ None
  pub past_end : longest_symbol_of (word "+") 2 ≡ None

pub worked : Worked
unfolding word keywords begins is_numeric_digit is_id_first_alphabetic is_id_continue is_symbol stands standing longer longest_in longest_of longest_symbol_of
worked = record {
  equals = refl;
  power = refl;
  not_in = refl;
  not_in_end = refl;
  bang = refl;
  no_symbol = refl;
  letter = refl;
  past_end = refl;
}
