-- A literal's reading by the unlimited rules, as a value: no limit and no room is in it.
use Rattle.std.specs.Prelude.{ℕ, Bool, false, List, [], ◌∷◌, ◌++◌, ltb, eqb}
use Rattle.basis.specs.Types.{Bytes}
use Rattle.basis.specs.Pick.{pick}
use Rattle.literal.specs.declared.End.{End}
use Rattle.literal.specs.declared.Refusal.{Refusal}

-- a reading is accepted, is refused by a rule of its own (4, 5, 6), adds the bytes of one step, or comes to a place where the Rust tests the limit, with the 7 that it would give there
pub data Trace : Type 0 where
  ends : End → Trace
  fails : Refusal → Trace
  adds : List ℕ → Trace → Trace
  checks : Refusal → Trace → Trace

-- what one turn of a scanner yields: bytes, or a test of the limit
pub data Yield : Type 0 where
  added : List ℕ → Yield
  tested : Refusal → Yield

-- a reading that begins with what a turn yields, in order
unfoldable pub yields : List Yield → Trace → Trace
yields [] t = t
yields (added bs ∷ ys) t = adds bs (yields ys t)
yields (tested f ∷ ys) t = checks f (yields ys t)

-- the body: all bytes that are added
unfoldable pub bytes : Trace → Bytes
bytes (ends e) = []
bytes (fails f) = []
bytes (adds bs t) = bs ++ bytes t
bytes (checks f t) = bytes t

-- how a reading ends
pub data Outcome : Type 0 where
  good : End → Outcome
  bad : Refusal → Outcome

-- how the reading ends where nothing cuts it
unfoldable pub final : Trace → Outcome
final (ends e) = good e
final (fails f) = bad f
final (adds bs t) = final t
final (checks f t) = final t

-- a length passes the limit; 0 is no limit
unfoldable pub passes : ℕ → ℕ → Bool
passes limit n = pick (eqb limit 0) false (ltb limit n)
