-- The words by their tokens: a text as one number, the tokens whose texts begin with one byte, one after the other, and how long those texts are. No answer of a crate above speaks of it.
use Rattle.std.specs.Prelude.{ℕ, zero, suc, ◌+◌, ◌*◌, ◌^◌, Bool, false, List, [], ◌∷◌, ◌++◌, eqb, length, get_or}
use Rattle.basis.specs.Types.{Text}
use Rattle.basis.specs.Pick.{pick}
use Rattle.token.specs.Tokens as Token
use Rattle.token.specs.Tokens.{among_tokens}
use Rattle.token.specs.Keywords.{KeywordEntry, keywords, text_in}

-- bytes read behind a number, the first of them the most significant
unfoldable pub number_from : ℕ → Text → ℕ
number_from v [] = v
number_from v (b ∷ s) = number_from (v * 256 + b) s

-- a text as one number: `if` is 0x6966
unfoldable pub word_number : Text → ℕ
word_number s = number_from 0 s

-- a token's text as one number; 0 for a token without one
unfoldable pub spelt_of : ℕ → ℕ
spelt_of t = word_number (text_in keywords t)

-- a text begins with the byte
unfoldable pub starts : ℕ → Text → Bool
starts b [] = false
starts b (c ∷ cs) = eqb c b

-- the token of the first place whose text begins with the byte; EOF for none
unfoldable pub first_in : ℕ → List KeywordEntry → ℕ
first_in b [] = Token.EOF
first_in b (e ∷ es) = pick (starts b e.text) e.token (first_in b es)

unfoldable pub first_token : ℕ → ℕ
first_token b = first_in b keywords

-- the lengths of the texts that begin with the byte
unfoldable pub lengths_in : ℕ → List KeywordEntry → List ℕ
lengths_in b [] = []
lengths_in b (e ∷ es) = pick (starts b e.text) (length e.text ∷ []) [] ++ lengths_in b es

-- bit n of a number, set if n is among the numbers
abbrev pub bit_of : List ℕ → ℕ → ℕ
bit_of ns n = pick (among_tokens ns n) (2 ^ n) 0

-- numbers as the bits of one number, those up to a greatest
unfoldable pub bits_up_to : ℕ → List ℕ → ℕ
bits_up_to zero ns = bit_of ns 0
bits_up_to (suc n) ns = bit_of ns (suc n) + bits_up_to n ns

-- the lengths of the listed texts that begin with the byte, none of them more than 8, as the bits of one number
unfoldable pub lengths_of : ℕ → ℕ
lengths_of b = bits_up_to 8 (lengths_in b keywords)

-- the places behind the first that has the token
unfoldable pub places_behind : ℕ → List KeywordEntry → List KeywordEntry
places_behind t [] = []
places_behind t (e ∷ es) = pick (eqb e.token t) es (places_behind t es)

-- the next token whose text begins with the byte that a token's own begins with; EOF for none
unfoldable pub next_token : ℕ → ℕ
next_token t = first_in (get_or (text_in keywords t) 0 0) (places_behind t keywords)
