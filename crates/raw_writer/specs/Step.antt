-- What an inner function of the writer answers.
use Rattle.std.specs.Prelude.{ℕ, ◌+◌, eqb}
use Rattle.basis.specs.Pick.{pick}
use Rattle.classes.specs.Marks.{quote, hash}

-- a quote and the hashes directly after it, counted together, after one byte more; 0 where the bytes so far do not end so
unfoldable pub next_held : ℕ → ℕ → ℕ
next_held held c = pick (eqb c quote) 1 (pick (eqb c hash) (pick (eqb held 0) 0 (held + 1)) 0)
