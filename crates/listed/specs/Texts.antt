-- A text that is put into lent memory piece by piece: each goes in whole behind the last one, or is left out.
use Rattle.std.specs.Prelude.{ℕ, List, [], ◌∷◌, ◌++◌}
use Rattle.basis.specs.Store.{stored, after}

-- the memory, and the index behind what was put into it
pub record Writing : Type 0 where
  pub memory : List ℕ
  pub next : ℕ

abbrev pub writing : List ℕ → ℕ → Writing
writing l i = record { memory = l; next = i }

-- one piece more
unfoldable pub put : Writing → List ℕ → Writing
put t xs = writing (stored t.memory t.next xs) (after t.memory t.next xs)

-- some pieces more
unfoldable pub puts : Writing → List (List ℕ) → Writing
puts t [] = t
puts t (xs ∷ xss) = puts (put t xs) xss

-- pieces as one text. The theorem `whole_text` says that memory with room for it then has it in front
unfoldable pub joined : List (List ℕ) → List ℕ
joined [] = []
joined (xs ∷ xss) = xs ++ joined xss
