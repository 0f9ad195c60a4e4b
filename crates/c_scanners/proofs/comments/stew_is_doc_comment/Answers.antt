-- It is what the call answers.
use Rattle.c_scanners.proofs.comments.stew_is_doc_comment.Goals as goal

pub returns : goal.returns
returns c = c.is_doc_comment.ensures
