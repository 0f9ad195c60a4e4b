-- What the digits gave is told apart as the definition does.
use Rattle.escape.proofs.Ways.{digits_scalar, digits_none, digits_bad}
use Rattle.escape.proofs.number.Goals as goal

pub returns-then-is_scalar : goal.returns-then-is_scalar
returns-then-is_scalar c = search digits_scalar

pub returns-else-is_scalar : goal.returns-else-is_scalar
returns-else-is_scalar c = search digits_none

pub returns-in-Err : goal.returns-in-Err
returns-in-Err c = search digits_bad
