-- Worked examples of the definitions, under one theorem. Assumes nothing.
use Rattle.std.specs.Prelude.{None, Some}
use mathlib.Core.Path.{◌≡◌, refl}
use mathlib.Core.List.{[]}
use Rattle.basis.specs.Words.{word, begins}
use Rattle.token.specs.Tokens as Token
use Rattle.token.specs.Keywords.{keywords}
use Rattle.keywords.specs.Lookup.{same_text, lookup_in, lookup_of}

pub record Worked : Type 0 where
  pub keyword : lookup_of (word "const") ≡ Some Token.Const
  pub symbol : lookup_of (word "_") ≡ Some Token.Underscore
  pub longer_word : lookup_of (word "consts") ≡ None
  pub shorter_word : lookup_of (word "cons") ≡ None
  pub empty : lookup_of [] ≡ None

pub worked : Worked
unfolding word keywords begins same_text lookup_in lookup_of
worked = record {
  keyword = refl;
  symbol = refl;
  longer_word = refl;
  shorter_word = refl;
  empty = refl;
}
