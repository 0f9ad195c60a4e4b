-- The door first, then the start: two laws of proofs/Arguments.antt.
use Rattle.std.proofs.lemmas.Result.{err_from_is_err_and}
use Rattle.string.proofs.Arguments.{let_in, not_let_in}
use Rattle.string.proofs.argument_refuses.Goals as goal

pub returns-in_err-door : goal.returns-in_err-door
returns-in_err-door c =
    let p = err_from_is_err_and c.from_residual.result c.from_residual.ensures.1 in
    rw (p.1, p.2) (not_let_in _ _ _ _ c.door.ensures c.in_err-door.was)

pub returns : goal.returns
returns c = let_in _ _ _ _ c.door.ensures c.in_ok-door.was c.start_refuses.ensures
