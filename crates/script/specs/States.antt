-- Where a run stands, and what a token makes of it: document 01, "counting open braces (`{` and `#{`) at each of sixteen levels, until the matching `}`".
use Rattle.std.specs.Prelude.{ℕ, ◌+◌, ◌-◌, ◌≤◌, ◌<◌, Bool, true, false, List, eqb, leb, replicate, get_or, set}
use Rattle.basis.specs.Pick.{pick, either}
use Rattle.position.specs.Place as Place
use Rattle.token.specs.Tokens as Tokens
use Rattle.chars.specs.Cursors.{cursor}
use Rattle.chars.specs.declared.cursor.Cursor.{Cursor}
use Rattle.script.specs.declared.State.{State}
use Rattle.script.specs.declared.Crossed.{Crossed}
use Rattle.script.specs.declared.Crossed.TheVariants.{Plain, Piece, Token}

abbrev pub state : Cursor → ℕ → List ℕ → Bool → State
state c n bs d = record { cursor = c; level = n; braces = bs; due = d }

-- where a run begins, behind a cursor
unfoldable pub begun_at : Cursor → State
begun_at c = state c 0 (replicate 16 0) false

-- the run over a whole script begins at START
abbrev pub begun : State
begun = begun_at (cursor 0 Place.start)

-- behind something that opens and closes nothing
unfoldable pub moved_to : Cursor → State → State
moved_to c s = state c s.level s.braces false

-- behind a piece of text that `${` ended: one interpolation more, with no brace open yet
unfoldable pub interpolating : Cursor → State → State
interpolating c s = state c (s.level + 1) (set s.braces s.level 0) false

-- the open braces of the innermost interpolation
unfoldable pub count : State → ℕ
count s = get_or s.braces (s.level - 1) 0

-- so many of them, and the run stands at a cursor
unfoldable pub with_braces : Cursor → ℕ → State → State
with_braces c n s = state c s.level (set s.braces (s.level - 1) n) false

-- the innermost interpolation is closed, and its text goes on
unfoldable pub resumed : Cursor → State → State
resumed c s = state c (s.level - 1) (set s.braces (s.level - 1) 0) true

-- behind an opening brace
unfoldable pub opened : Cursor → State → State
opened c s = pick (eqb s.level 0) (moved_to c s) (with_braces c (count s + 1) s)

-- behind a closing brace: the last one of an interpolation closes it
unfoldable pub closed : Cursor → State → State
closed c s = pick (eqb s.level 0) (moved_to c s) (pick (leb (count s) 1) (resumed c s) (with_braces c (count s - 1) s))

-- behind a symbol
unfoldable pub behind : ℕ → Cursor → State → State
behind t c s = pick (either (eqb t Tokens.LeftBrace) (eqb t Tokens.MapStart)) (opened c s) (pick (eqb t Tokens.RightBrace) (closed c s) (moved_to c s))

-- where a run stands behind what it has passed
unfoldable pub behind_of : Crossed → Cursor → State → State
behind_of Plain c s = moved_to c s
behind_of Piece c s = interpolating c s
behind_of (Token t) c s = behind t c s

-- sixteen interpolations at most are open, each with no more braces than bytes were passed
pub record Fine (s : State) : Type 0 where
  pub deep : s.level ≤ 16
  pub few : (i : ℕ) → get_or s.braces i 0 ≤ s.cursor.at
  pub short : s.cursor.at ≤ 16777216

-- an interpolation more is opened only where there are not sixteen
abbrev pub Fits : Crossed → State → Type 0
Fits Plain s = Unit {0}
Fits Piece s = s.level < 16
Fits (Token t) s = Unit {0}
