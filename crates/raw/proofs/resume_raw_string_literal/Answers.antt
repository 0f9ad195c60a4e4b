-- The scan of what was asked is what the definition says.
use Rattle.raw.specs.Raw.{as_source}
use Rattle.raw.proofs.Refusals.{resumes_within, resume_answered, resume_left}
use Rattle.raw.proofs.resume_raw_string_literal.Goals as goal

pub read-requires : goal.read-requires
read-requires c = resumes_within _ _ _ c.asks.ensures

pub returns : goal.returns
returns c = record { value = resume_answered as_source _ _ _ _ c.asks.ensures _ _ c.read.ensures.value; out_after = resume_left as_source _ _ _ _ c.asks.ensures _ _ c.read.ensures.out_after }
