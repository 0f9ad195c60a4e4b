-- What the inner functions of the scan answer, and what a turn of the body tells.
use Rattle.utf8.specs.Looks.{char_found}
use Rattle.std.specs.Prelude.{ℕ, ◌+◌, ◌-◌, ◌≤◌, ◌<◌, List, [], ◌∷◌, ◌≡◌, eqb, ltb, length}
use Rattle.basis.specs.Types.{Code}
use Rattle.basis.specs.Pick.{pick, both}
use Rattle.position.specs.declared.Position.{Position}
use Rattle.utf8.specs.Table.{look_at}
use Rattle.chars.specs.Cursors.{cursor}
use Rattle.chars.specs.Scan.{on, move_at, run_at}
use Rattle.chars.specs.Stretch.{NextChar}
use Rattle.chars.specs.declared.cursor.Cursor.{Cursor}
use Rattle.literal.specs.Trace.{added, tested}
use Rattle.literal.specs.Cut.{cut}
use Rattle.literal.specs.declared.Refusal.{Refusal}
use Rattle.classes.specs.Marks.{quote, hash}
use Rattle.literal.specs.Answers.{too_long}
use Rattle.raw.specs.Raw.{as_source, hashes_of, BodyState, body_state, placed, body_rule, Newlines}
use Rattle.raw.specs.declared.scan.Body.{Body}
use Rattle.raw.specs.declared.scan.Lost.{Lost}
use Rattle.raw.specs.declared.scan.Stand.{Stand}

-- a turn of the body at an offset goes on with n bytes more, at another offset and in another state
pub record Adds (mode : Newlines) (t : List ℕ) (k at : ℕ) (s : BodyState) (n next : ℕ) (r : BodyState) : Type 0 where
  pub bytes : List ℕ
  pub count : length bytes ≡ n
  pub moves : (start : Position)
      → move_at (body_rule mode start k) t at s ≡ on (added bytes ∷ tested (too_long start (cursor next r.place) (hashes_of k)) ∷ []) next r

-- a character that ends an attempt to close
abbrev pub Failing : Code → Type 0
Failing c = (c ≡ quote → ⊥) × (c ≡ hash → ⊥)

-- so many hashes stand one behind the other from an offset on
pub data Hashes (t : List ℕ) (at : ℕ) : ℕ → Type 0 where
  none : Hashes t at 0
  more : {n : ℕ} → Hashes t at n → look_at t (at + n) ≡ char_found hash 1 → Hashes t at (n + 1)

-- what a quote with so many hashes behind it is passed with, by what stands at the offset behind them: no more before another quote, which begins the attempt anew; else the character that ends the attempt
pub data LostAt (t : List ℕ) (hashes at : ℕ) : Lost → Type 0 where
  again : look_at t at ≡ char_found quote 1 → LostAt t hashes at (record { width = hashes + 1; columns = hashes + 1 })
  ended : {w : ℕ} → NextChar t Failing at (length t) w → LostAt t hashes at (record { width = hashes + w + 1; columns = hashes + 2 })

-- characters passed at once in a literal that k hashes close leave what a limit and a room make of the rest: from one stand to another, further on, with a body that has grown as much
pub record BodyPasses (t : List ℕ) (k limit room held : ℕ) (s r : Stand) : Type 0 where
  pub low : s.here.at ≤ r.here.at
  pub counts : r.n ≡ s.n + (r.here.at - s.here.at)
  pub fits : r.n ≤ room
  pub same : (start : Position) (full : Refusal)
      → cut full limit room s.n (run_at (body_rule as_source start k) t s.here.at (body_state held s.here.place s.first))
      ≡ cut full limit room r.n (run_at (body_rule as_source start k) t r.here.at (body_state held r.here.place r.first))

-- passed outside an attempt to close, with a byte at least
abbrev pub Passes : Body → Stand → Stand → Type 0
Passes b s r = (s.n < r.n) × BodyPasses b.text.now b.k b.limit b.room 0 s r

-- how many bytes are held back behind a character: a quote begins or restarts an attempt to close, a hash goes on with it, and any other character ends it
unfoldable pub held_behind : Code → ℕ → ℕ
held_behind c held = pick (eqb c quote) 1 (pick (both (ltb 0 held) (eqb c hash)) (held + 1) 0)

-- the cursor behind a character that does not close, where it is taken with a column
abbrev pub cursor_behind : Newlines → Code → ℕ → Cursor → Cursor
cursor_behind mode c held next = cursor next.at (placed mode held c next.place)
