-- Worked examples of the definitions, under one theorem. Assumes nothing.
use Rattle.std.specs.Prelude.{Some}
use mathlib.Core.Path.{◌≡◌, refl}
use mathlib.Core.List.{[]}
use Rattle.basis.specs.Words.{word, begins}
use Rattle.token.specs.Tokens as Token
use Rattle.token.specs.Keywords.{keywords, text_in}
use Rattle.keywords.specs.Lookup.{same_text, lookup_in, lookup_of}
use Rattle.syntax.specs.Syntax.{written_as, literal_syntax_of}

pub record Worked : Type 0 where
  pub unary_plus : lookup_of (literal_syntax_of Token.UnaryPlus) ≡ Some Token.Plus
  pub unary_minus : lookup_of (literal_syntax_of Token.UnaryMinus) ≡ Some Token.Minus
  pub no_text : literal_syntax_of Token.EOF ≡ []
  pub no_token : literal_syntax_of 91 ≡ []

pub worked : Worked
unfolding word keywords begins same_text lookup_in lookup_of text_in written_as literal_syntax_of
worked = record {
  unary_plus = refl;
  unary_minus = refl;
  no_text = refl;
  no_token = refl;
}
