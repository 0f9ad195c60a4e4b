-- A script's reading by the unlimited rules, as a value: its tokens in their order, and how it ends. No limit and no room is in it.
use Rattle.entry.specs.declared.kinds.Kind.{Kind}
use Rattle.std.specs.Prelude.{ℕ, ◌+◌, ◌-◌, List, [], ◌∷◌, ◌++◌, length, Err, Ok}
use Rattle.position.specs.declared.Position.{Position}
use Rattle.fault.specs.declared.Fault.{Fault}
use Rattle.chars.specs.declared.cursor.Cursor.{Cursor}
use Rattle.literal.specs.Trace.{Trace, bytes, final, Outcome, good, bad}
use Rattle.entry.specs.declared.Entry.{Entry}
use Rattle.entry.specs.Entries.{entry}
use Rattle.reading.specs.Endings.{Ending}

-- a token: its kind; the cursor at its first character, a literal's opener too, whose place is the token's; the cursor behind its last; and the numbers that it stands for, which no token has yet
pub record Token : Type 0 where
  pub kind : Kind
  pub start : Cursor
  pub end : Cursor
  pub values : List ℕ

abbrev pub token : Kind → Cursor → Cursor → Token
token k s e = record { kind = k; start = s; end = e; values = [] }

-- the script is over at a place; or it stops with a fault that no literal brings; or with one that is found in or behind a literal, which begins at a cursor and is not listed; or a token is listed that is a part of the script; or a literal is read and listed
pub data Reading : Type 0 where
  finishes : Position → Reading
  halts : Fault → Reading
  spoils : Cursor → Trace → Fault → Reading
  lists : Token → Reading → Reading
  reads : Token → Trace → Reading → Reading

-- what a token that is listed leaves: its entry, its literal bytes and its numbers
pub record Kept : Type 0 where
  pub entry : Entry
  pub bytes : List ℕ
  pub values : List ℕ

-- a token whose bytes, so many, stand at an offset
abbrev pub kept : Token → ℕ → ℕ → List ℕ → Kept
kept k at n bs = record { entry = entry k.kind k.start.place at n; bytes = bs; values = k.values }

-- a token that is a part of the script
abbrev pub kept_part : Token → Kept
kept_part k = kept k k.start.at (k.end.at - k.start.at) []

-- what a run leaves: what each token leaves, in their order, and how it ends
pub record Left : Type 0 where
  pub tokens : List Kept
  pub ending : Ending

-- the entries of some tokens
unfoldable pub entries : List Kept → List Entry
entries [] = []
entries (k ∷ ks) = k.entry ∷ entries ks

-- their literal bytes, packed
unfoldable pub literal_bytes : List Kept → List ℕ
literal_bytes [] = []
literal_bytes (k ∷ ks) = k.bytes ++ literal_bytes ks

-- nothing more is listed
abbrev pub nothing_more : Ending → Left
nothing_more e = record { tokens = []; ending = e }

-- one token more
abbrev pub more : Kept → Left → Left
more k l = record { tokens = k ∷ l.tokens; ending = l.ending }

-- a literal that is accepted goes on; one that a rule of its own refuses stops the run
abbrev pub on_outcome : Outcome → Left → Left
on_outcome (good e) l = l
on_outcome (bad f) l = nothing_more (Err f.fault)

-- what a run leaves where nothing cuts it, with so many literal bytes packed before
unfoldable pub whole : ℕ → Reading → Left
whole used (finishes p) = nothing_more (Ok p)
whole used (halts f) = nothing_more (Err f)
whole used (spoils s t f) = on_outcome (final t) (nothing_more (Err f))
whole used (lists k r) = more (kept_part k) (whole used r)
whole used (reads k t r) = on_outcome (final t) (more (kept k used (length (bytes t)) (bytes t)) (whole (used + length (bytes t)) r))
