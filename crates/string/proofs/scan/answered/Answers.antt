-- Each return is a law of proofs/Turning.antt on how a scan is over.
use Rattle.string.proofs.scan.Turning.{over_limit, accepted, refuses}
use Rattle.string.proofs.scan.answered.Goals as goal

pub returns-in-Ok : goal.returns-in-Ok
returns-in-Ok c = search over_limit

pub returns-in-Ok-2 : goal.returns-in-Ok-2
returns-in-Ok-2 c = search accepted

pub returns-in-Err : goal.returns-in-Err
returns-in-Err c = search refuses
