-- `precedence` and `is_bind_right` of `tokenizer.rs`. Document 01: "Precedence 0 means none; only PowerOf binds right."
use Rattle.std.specs.Prelude.{ℕ, Bool, List, [], ◌∷◌, eqb}
use Rattle.basis.specs.Pick.{pick}
use Rattle.token.specs.Tokens as Token
use Rattle.token.specs.Tokens.{among_tokens}

-- the tokens that have one precedence
pub record Level : Type 0 where
  pub tokens : List ℕ
  pub number : ℕ

-- some tokens, and the precedence of each
infix 90 ◌binds◌
abbrev pub ◌binds◌ : List ℕ → ℕ → Level
ks binds n = record { tokens = ks; number = n }

-- the levels, in the order of the source
unfoldable pub levels : List Level
levels =
    (Token.Or ∷ Token.XOr ∷ Token.Pipe ∷ []) binds 30
    ∷ (Token.And ∷ Token.Ampersand ∷ []) binds 60
    ∷ (Token.EqualsTo ∷ Token.NotEqualsTo ∷ []) binds 90
    ∷ (Token.In ∷ Token.NotIn ∷ []) binds 110
    ∷ (Token.LessThan ∷ Token.LessThanEqualsTo ∷ Token.GreaterThan ∷ Token.GreaterThanEqualsTo ∷ []) binds 130
    ∷ (Token.DoubleQuestion ∷ []) binds 135
    ∷ (Token.ExclusiveRange ∷ Token.InclusiveRange ∷ []) binds 140
    ∷ (Token.Plus ∷ Token.Minus ∷ []) binds 150
    ∷ (Token.Divide ∷ Token.Multiply ∷ Token.Modulo ∷ []) binds 180
    ∷ (Token.PowerOf ∷ []) binds 190
    ∷ (Token.LeftShift ∷ Token.RightShift ∷ []) binds 210
    ∷ []

-- the number of the first level that has the token; 0 for none
unfoldable pub precedence_in : List Level → ℕ → ℕ
precedence_in [] t = 0
precedence_in (l ∷ ls) t = pick (among_tokens l.tokens t) l.number (precedence_in ls t)

-- a token's precedence
unfoldable pub precedence_of : ℕ → ℕ
precedence_of t = precedence_in levels t

-- the token binds to the right
unfoldable pub is_bind_right : ℕ → Bool
is_bind_right t = eqb t Token.PowerOf
