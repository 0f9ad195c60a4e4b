-- The scan of what was asked is what the definition says.
use Rattle.raw.specs.Raw.{as_source}
use Rattle.raw.proofs.Refusals.{resumes_within, parse_answered, parse_left}
use Rattle.raw.proofs.parse_raw_string_literal.Goals as goal

pub read-requires : goal.read-requires
read-requires c = resumes_within _ _ _ c.asks.ensures

pub returns : goal.returns
returns c = record { value = parse_answered as_source _ _ _ c.asks.ensures _ _ c.read.ensures.value; out_after = parse_left as_source _ _ _ c.asks.ensures _ _ c.read.ensures.out_after }
