-- How entries are laid out: document 01, "Each entry is five u32: kind, line, position, offset, length".
use Rattle.std.specs.Prelude.{ℕ, ◌<◌, List, [], ◌∷◌, ◌++◌}
use Rattle.basis.specs.Types.{Offset}
use Rattle.position.specs.declared.Position.{Position}
use Rattle.position.specs.Place.{line_number, column_number}
use Rattle.entry.specs.Kinds.{kind_number}
use Rattle.entry.specs.declared.kinds.Kind.{Kind}
use Rattle.entry.specs.declared.Entry.{Entry}

-- a token's entry
abbrev pub entry : Kind → Position → Offset → ℕ → Entry
entry k p a n = record { kind = k; place = p; at = a; len = n }

-- the numbers of an entry
unfoldable pub numbers_of : Entry → List ℕ
numbers_of e = kind_number e.kind ∷ line_number e.place ∷ column_number e.place ∷ e.at ∷ e.len ∷ []

-- some entries, one after the other, by how one of them is laid out
unfoldable pub laid_out : (Entry → List ℕ) → List Entry → List ℕ
laid_out f [] = []
laid_out f (e ∷ es) = f e ++ laid_out f es

-- each of some numbers is a u32
abbrev pub U32s : List ℕ → Type 0
U32s [] = Unit {0}
U32s (n ∷ ns) = (n < 4294967296) × U32s ns
