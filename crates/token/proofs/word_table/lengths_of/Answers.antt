-- The last arm has what the definition has for every number that no arm names; the check finds by itself that each arm has what the definition has there.
use Prim.Native.Nat.{zero-le}
use mathlib.Core.List.{[], ◌∷◌}
use Rattle.basis.specs.Words.{word}
use Rattle.token.specs.Tokens.{among_tokens}
use Rattle.token.specs.Keywords.{keywords}
use Rattle.token.proofs.Arms.{run, OnRun, run_is, numbers}
use Rattle.token.specs.Spelt.{starts, lengths_in, bits_up_to, lengths_of}
use Rattle.token.proofs.word_table.Keyed.{firsts, keyed_by}
use Rattle.token.proofs.word_table.lengths_of.Goals as goal

-- no other number has one: one computed test over them
other : OnRun numbers lengths_of (keyed_by firsts) (run 0 256 0 ∷ [])
unfolding keywords word starts lengths_in bits_up_to lengths_of among_tokens
other = run_is numbers lengths_of (keyed_by firsts) (run 0 256 0 ∷ []) tt

pub returns-in_default : goal.returns-in_default
returns-in_default c = search (other 0, zero-le)
