-- The raw writer: document 01, "Raw writer".
use Rattle.std.specs.Prelude.{ℕ, suc, ◌≤◌, ◌<◌, max, List, [], ◌∷◌, ◌++◌, ◌≡◌, eqb, replicate}
use Rattle.basis.specs.Types.{Text, Bytes}
use Rattle.basis.specs.Pick.{pick}
use Rattle.classes.specs.Marks.{quote, hash}
use Rattle.lex_error.specs.Numbers.{asked_then, on_asked}
use Rattle.door.specs.Door.{text_of}
use Rattle.lent.specs.Written.{written_of, left_of}
use Rattle.lent.specs.Answer.{Written}

-- how many hashes a text begins with
unfoldable pub hashes_ahead : Text → ℕ
hashes_ahead [] = 0
hashes_ahead (c ∷ cs) = let n = hashes_ahead cs in pick (eqb c hash) (suc n) 0

-- the most hashes that follow a quote of the body
unfoldable pub most_after_quote : Text → ℕ
most_after_quote [] = 0
most_after_quote (c ∷ cs) = let n = most_after_quote cs in pick (eqb c quote) (max (hashes_ahead cs) n) n

-- k, the hashes on either side of a body: one more than the most that follow a quote of it. The theorem `leastness` says that it is the least that document 01 asks for
unfoldable pub hashes_for : Text → ℕ
hashes_for body = suc (most_after_quote body)

-- the literal that is written: k hashes, quote, body, quote, k hashes
unfoldable pub raw_literal_of : Text → Text
raw_literal_of body = replicate (hashes_for body) hash ++ quote ∷ body ++ quote ∷ replicate (hashes_for body) hash

-- the answer: the literal's length, or 2, 1, 9 in that order
unfoldable pub raw_write_of : Text → Bytes → Written
raw_write_of body memory = asked_then (text_of body) (written_of (raw_literal_of body) memory)

-- the lent memory then: the literal and the old rest, or untouched where refused
unfoldable pub raw_left_of : Text → Bytes → Bytes
raw_left_of body memory = on_asked (text_of body) (left_of (raw_literal_of body) memory) (λ e. memory)

-- ---- document 01: "The least k of at least 1 for which the body has no quote followed by k hashes"
-- a body has a quote followed by k hashes
pub record Has (k : ℕ) (body : List ℕ) : Type 0 where
  pub before : List ℕ
  pub after : List ℕ
  pub is : body ≡ before ++ quote ∷ replicate k hash ++ after

-- k is at least 1, the body has no quote followed by k hashes, and for every smaller count of at least 1 it has one
pub record Least (k : ℕ) (body : List ℕ) : Type 0 where
  pub positive : 1 ≤ k
  pub works : Has k body → ⊥
  pub no_less : (j : ℕ) → 1 ≤ j → j < k → Has j body

abbrev pub Leastness : Type 0
Leastness = (body : List ℕ) → Least (hashes_for body) body
