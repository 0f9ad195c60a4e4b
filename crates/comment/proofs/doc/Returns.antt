-- The table of returns in front of the definition, row by row. Assumes nothing.
use mathlib.Core.Bool.{true, false}
use mathlib.Core.Path.{◌≡◌, refl}
use Rattle.basis.specs.Words.{word, begins}
use Rattle.comment.specs.Doc.{begins_only, is_doc_comment}

pub documents :
    (is_doc_comment (word "///") ≡ true)
    × (is_doc_comment (word "///a") ≡ true)
    × (is_doc_comment (word "////") ≡ false)
    × (is_doc_comment (word "//") ≡ false)
    × (is_doc_comment (word "/**") ≡ true)
    × (is_doc_comment (word "/**/") ≡ true)
    × (is_doc_comment (word "/***") ≡ false)
    × (is_doc_comment (word "/*a") ≡ false)
unfolding word begins begins_only is_doc_comment
documents = (refl, refl, refl, refl, refl, refl, refl, refl)
