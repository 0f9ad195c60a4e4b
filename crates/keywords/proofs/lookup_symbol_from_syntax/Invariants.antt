-- A text whose length is not noted under its first byte is listed nowhere; the loop keeps that the text is listed nowhere but from its token on.
use Prim.Native.Nat.{◌<◌}
use mathlib.Core.Path.{◌≡◌}
use Rattle.token.specs.Spelt.{word_number}
use Rattle.token.proofs.word_table.Numbers.{Bytes}
use Rattle.keywords.proofs.Sought.{Sought, left}
use Rattle.keywords.proofs.lookup_symbol_from_syntax.Given as goal

abbrev pub invariant-loop-token : goal.invariant-loop-token
invariant-loop-token l = Bytes l.text × (l.v ≡ word_number l.text) × Sought l.text l.token × (l.token < 256)

abbrev pub decreases-loop-token : goal.decreases-loop-token
decreases-loop-token l = left 5 l.token
