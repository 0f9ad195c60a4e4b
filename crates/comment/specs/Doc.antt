-- Doc comments: document 01, "`is_doc_comment` counts `/**/` as a doc comment", and the Rust's `is_doc_comment`.
use Rattle.std.specs.Prelude.{Bool}
use Rattle.basis.specs.Types.{Text}
use Rattle.basis.specs.Pick.{both, either, isnt}
use Rattle.basis.specs.Words.{word, begins}

-- it begins with one word, and not with a longer one
unfoldable pub begins_only : Text → Text → Text → Bool
begins_only w longer s = both (begins w s) (isnt (begins longer s))

-- a comment is a doc comment. Returns:
--
--   ///    true        /**    true
--   ///a   true        /**/   true
--   ////   false       /***   false
--   //     false       /*a    false
unfoldable pub is_doc_comment : Text → Bool
is_doc_comment s = either (begins_only (word "///") (word "////") s) (begins_only (word "/**") (word "/***") s)
