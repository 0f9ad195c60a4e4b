-- What a string limit, a literal room and a token room leave of a script's reading: document 01, "9 goes before 12 and 13, these before 10; 10 only for a token read without fault".
use Rattle.std.specs.Prelude.{ℕ, ◌+◌, ◌-◌, ltb, Err, Ok}
use Rattle.basis.specs.Pick.{pick}
use Rattle.position.specs.declared.Position.{Position}
use Rattle.fault.specs.Faults.{no_token_room}
use Rattle.chars.specs.declared.cursor.Cursor.{Cursor}
use Rattle.literal.specs.Scans.{Scanned}
use Rattle.literal.specs.Trace.{Trace, bytes}
use Rattle.literal.specs.Answers.{full}
use Rattle.literal.specs.Cut.{cut}
use Rattle.reading.specs.Reading.{Reading, finishes, halts, spoils, lists, reads, kept, kept_part, Left, nothing_more, more}
use Rattle.reading.specs.declared.Bounds.{Bounds}

-- the bounds: the limit on a literal's bytes, 0 for none; the literal bytes and the entries that there is room for
abbrev pub bounds : ℕ → ℕ → ℕ → Bounds
bounds limit literals entries = record { limit = limit; literals = literals; entries = entries }

-- the answer of a literal that begins at a cursor within the bounds, where so many literal bytes are used
abbrev pub scanned : Bounds → ℕ → Cursor → Trace → Scanned
scanned b used s t = cut (full s) b.limit (b.literals - used) 0 t

-- a scan that is accepted goes on with its length; one that is refused stops the run
abbrev pub on_scan : Scanned → (ℕ → Left) → Left
on_scan (Ok (e, m)) next = next m
on_scan (Err f) next = nothing_more (Err f.fault)

-- a token is listed where there is an entry left for it, else 10 at its place
abbrev pub in_room : Bounds → ℕ → Position → Left → Left
in_room b n p l = pick (ltb n b.entries) l (nothing_more (Err (no_token_room p)))

-- what the bounds leave of a reading, where n entries are listed and so many literal bytes used
unfoldable pub cut_run : Bounds → ℕ → ℕ → Reading → Left
cut_run b n used (finishes p) = nothing_more (Ok p)
cut_run b n used (halts f) = nothing_more (Err f)
cut_run b n used (spoils s t f) = on_scan (scanned b used s t) (λ m. nothing_more (Err f))
cut_run b n used (lists k r) = in_room b n k.start.place (more (kept_part k) (cut_run b (n + 1) used r))
cut_run b n used (reads k t r) = on_scan (scanned b used k.start t) (λ m. in_room b n k.start.place (more (kept k used m (bytes t)) (cut_run b (n + 1) (used + m) r)))
