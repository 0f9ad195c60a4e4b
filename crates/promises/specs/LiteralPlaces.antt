-- The places that the raw scanner passes in a literal, by its own rule: document 01, "Raw literal" and "Position".
use Rattle.std.specs.Prelude.{ℕ, zero, suc, Bool, false, List, [], ◌∷◌, eqb}
use Rattle.basis.specs.Pick.{pick, both, either, isnt}
use Rattle.position.specs.declared.Position.{Position}
use Rattle.position.specs.Place.{advanced, lined}
use Rattle.utf8.specs.Table.{chars, codes}
use Rattle.raw_writer.specs.Writer.{hashes_for}
use Rattle.classes.specs.Marks.{quote, hash, lf}

-- n columns on
unfoldable pub columns : ℕ → Position → Position
columns zero p = p
columns (suc n) p = columns n (advanced p)

-- an attempt to close lasts behind a character: a quote begins one, and hashes go on with it
abbrev pub attempts : Bool → ℕ → Bool
attempts attempt c = either (eqb c quote) (both attempt (eqb c hash))

-- the place behind a character of a body: one column on; and an LF starts a line, but not during an attempt
unfoldable pub behind_char : Bool → ℕ → Position → Position
behind_char attempt c p = pick (both (eqb c lf) (isnt attempt)) (lined (advanced p)) (advanced p)

-- behind all characters of a body
unfoldable pub behind_all : Bool → List ℕ → Position → Position
behind_all attempt [] p = p
behind_all attempt (c ∷ cs) p = behind_all (attempts attempt c) cs (behind_char attempt c p)

-- behind its first one; for an empty body, behind the closing quote
unfoldable pub behind_first : Bool → List ℕ → Position → Position
behind_first attempt [] p = advanced p
behind_first attempt (c ∷ cs) p = behind_char attempt c p

-- where the body of a literal begins that starts at a place: behind its hashes, the first of which has that place, and the quote
abbrev pub body_place : List ℕ → Position → Position
body_place body start = columns (hashes_for body) start

-- the first place
unfoldable pub first_place : List ℕ → Position → Position
first_place body start = behind_first false (codes (chars body)) (body_place body start)

-- where the literal ends: behind the body, the closing quote and the closing hashes
unfoldable pub end_place : List ℕ → Position → Position
end_place body start = columns (suc (hashes_for body)) (behind_all false (codes (chars body)) (body_place body start))
