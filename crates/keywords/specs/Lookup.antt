-- `lookup_symbol_from_syntax` of `types/token.rs`. Document 01: "A text is a keyword or symbol exactly if it stands as a non-empty entry of `KEYWORDS_LIST`."
use Rattle.std.specs.Prelude.{Bool, List, [], ◌∷◌, eqb, length, None, Some}
use Rattle.basis.specs.Types.{Text}
use Rattle.basis.specs.Pick.{pick, both}
use Rattle.basis.specs.Words.{begins}
use Rattle.token.specs.Keywords.{KeywordEntry, keywords}
use Rattle.token.specs.Lookups.{Lookup}

-- two texts are the same: equally long, and one begins with the other
unfoldable pub same_text : Text → Text → Bool
same_text w s = both (eqb (length w) (length s)) (begins w s)

-- the token of the first place that has the text
unfoldable pub lookup_in : List KeywordEntry → Text → Lookup
lookup_in [] s = None
lookup_in (e ∷ es) s = pick (same_text e.text s) (Some e.token) (lookup_in es s)

-- the token of the place that lists the text; an empty text is listed nowhere
unfoldable pub lookup_of : Text → Lookup
lookup_of s = pick (eqb (length s) 0) None (lookup_in keywords s)
