-- What the arguments of a scan refuse, for each way out; what is known of arguments that nothing refuses; and the reading then. Assumes nothing.
use Rattle.std.specs.Prelude.{Ok, Err}
use Rattle.lex_error.specs.declared.LexError.{LexError}
use Rattle.lex_error.specs.declared.LexError.TheVariants.{BadArgument}
use Rattle.lex_error.specs.Numbers.{Asked, no_refusal, asked_then, told_number}
use Prim.Native.Nat.{ℕ, ◌≤◌, ◌<◌}
use native.Mathlib.Omega.{arith}
use mathlib.Core.Bool.{Bool, true, false}
use mathlib.Core.List.{List}
use mathlib.Core.Path.{◌≡◌, refl, sym, ◌∙◌}
use lib.Dec.{ltb}
use lib.ListN.{length}
use borrow.Author.Tests.{le-leb, lt-leb}
use Rattle.basis.specs.Pick.{pick}
use Rattle.basis.proofs.Cases.{pick_cases}
use Rattle.position.specs.declared.Position.{Position}
use Rattle.position.specs.Place.{on_line}
use Rattle.utf8.specs.Table.{◌‥◌, within, chars, edge, well}
use Rattle.chars.specs.Cursors.{cursor}
use Rattle.door.specs.Door.{text_of, door_of}
use Rattle.chars.specs.declared.cursor.Cursor.{Cursor}
use Rattle.door.proofs.Doors.{admitted}
use Rattle.literal.specs.Cut.{cut, wrote}
use Rattle.literal.specs.declared.Refusal.{Refusal}
use Rattle.literal.specs.Scans.{Scanned}
use Rattle.literal.proofs.Turns.{cut_fails}
use Rattle.literal.specs.Answers.{as_given, full}
use Rattle.raw.specs.Raw.{read_of, Newlines}
use Rattle.raw.specs.Entries.{raw_trace, enters_of, resumes_of, parse_trace, parse_of, resume_trace, resume_of}

-- what is asked first, and 3 where a test fails
abbrev then3 : Asked → Bool → Asked
then3 a b = asked_then a (pick b no_refusal (Err BadArgument))

passed_first : (a : Asked) (b : Bool) → then3 a b ≡ no_refusal → a ≡ no_refusal
passed_first (Ok u) b h = refl
passed_first (Err e) b h = cc

-- refused with 1, 2 or 3, if at all
abbrev pub Early : Asked → Type 0
Early a = told_number a ≤ 3

still_early : (a : Asked) (b : Bool) → Early a → Early (then3 a b)
still_early (Ok u) b h = pick_cases Early b no_refusal (Err BadArgument) (λ p. omega arith) (λ p. omega arith)
still_early (Err e) b h = h

module _ (t : List ℕ) (start : Cursor) where
  door_early : (at : ℕ) → Early (door_of t at)
  unfolding door_of text_of
  door_early at =
      still_early (text_of t) (edge (chars t) at)
      (pick_cases Early (ltb 16777216 (length t)) _ _ (λ q. omega arith) (λ q. pick_cases Early (well t) _ _ (λ r. omega arith) (λ r. omega arith)))

  enters_within : enters_of t start ≡ no_refusal → start.at ≤ length t
  unfolding enters_of
  enters_within z = (admitted t start.at (passed_first (door_of t start.at) (on_line start.place) z)).within

  pub enters_early : Early (enters_of t start)
  unfolding enters_of
  enters_early = still_early (door_of t start.at) (on_line start.place) (door_early start.at)

  pub on_line_lem : door_of t start.at ≡ no_refusal → on_line start.place ≡ true → enters_of t start ≡ no_refusal
  unfolding enters_of
  on_line_lem z f = rw (z, f)

  -- one hash is always good
  pub one_hash : resumes_of t start 1 ≡ enters_of t start
  unfolding resumes_of
  one_hash = by (enters_of t start)
    where
      by : (a : Asked) → ◌≡◌ {A = Asked} (asked_then a no_refusal) a
      by (Ok u) = refl
      by (Err e) = refl

  module _ (k : ℕ) where
    -- the door, the line, and the hash count
    pub at_door : {e : LexError} → door_of t start.at ≡ Err e → Err e ≡ resumes_of t start k
    unfolding enters_of resumes_of
    at_door h = rw h refl

    module _ (z : door_of t start.at ≡ no_refusal) where
      pub off_line : on_line start.place ≡ false → Err BadArgument ≡ resumes_of t start k
      unfolding enters_of resumes_of
      off_line f = rw (z, f) refl

      module _ (f : on_line start.place ≡ true) where
        pub no_hash : k < 1 → Err BadArgument ≡ resumes_of t start k
        unfolding enters_of resumes_of
        no_hash h = rw (z, f, lt-leb 1 k h) refl

        module _ (h : 1 ≤ k) where
          pub too_many : 16777216 < k → Err BadArgument ≡ resumes_of t start k
          unfolding enters_of resumes_of
          too_many g = rw (z, f, le-leb 1 k h, lt-leb k 16777216 g) refl

          pub let_in : k ≤ 16777216 → no_refusal ≡ resumes_of t start k
          unfolding enters_of resumes_of
          let_in g = rw (z, f, le-leb 1 k h, le-leb k 16777216 g) refl

    pub resumes_within : {a : Asked} → a ≡ resumes_of t start k → a ≡ no_refusal → start.at ≤ length t
    unfolding resumes_of
    resumes_within e z = enters_within (passed_first (enters_of t start) (within (1 ‥ 16777216) k) (sym e ∙ z))

    pub resumes_early : Early (resumes_of t start k)
    unfolding resumes_of
    resumes_early = still_early (enters_of t start) (within (1 ‥ 16777216) k) enters_early

-- a scan, where something was refused and where nothing was
module _ (mode : Newlines) (t : List ℕ) (start : Cursor) (k : ℕ) where
  pub is_refused : {a : Asked} {e : LexError} (full : Refusal) (limit room : ℕ) → a ≡ Err e → Err (as_given e start) ≡ cut full limit room 0 (raw_trace mode a t start k)
  unfolding raw_trace
  is_refused {e = e} full limit room h = rw h (sym (cut_fails full limit room 0 (as_given e start)))

  module _ {a : Asked} (z : a ≡ no_refusal) where
    pub reads_on : raw_trace mode a t start k ≡ read_of mode t start k
    unfolding raw_trace
    reads_on = rw z

    pub answered : (full : Refusal) (limit room : ℕ) {r : Scanned} → r ≡ cut full limit room 0 (read_of mode t start k) → r ≡ cut full limit room 0 (raw_trace mode a t start k)
    answered full limit room h = rw reads_on h

    pub left : (r : Scanned) (l : List ℕ) {l' : List ℕ} → l' ≡ wrote r (read_of mode t start k) l → l' ≡ wrote r (raw_trace mode a t start k) l
    left r l h = rw reads_on h

-- the answers of the two entries, and what they leave of what was lent
module _ (mode : Newlines) (t : List ℕ) (at : ℕ) (p : Position) where
  module _ {a : Asked} (e : a ≡ resumes_of t (cursor at p) 1) where
    pub parse_answered : (limit room : ℕ) {r : Scanned} → r ≡ cut (full (cursor at p)) limit room 0 (raw_trace mode a t (cursor at p) 0) → r ≡ parse_of mode t at p limit room
    unfolding parse_of parse_trace
    parse_answered limit room h = rw (← one_hash t (cursor at p), ← e) h

    pub parse_left : (r : Scanned) (l : List ℕ) {l' : List ℕ} → l' ≡ wrote r (raw_trace mode a t (cursor at p) 0) l → l' ≡ wrote r (parse_trace mode t at p) l
    unfolding parse_trace
    parse_left r l h = rw (← one_hash t (cursor at p), ← e) h

  module _ (k : ℕ) {a : Asked} (e : a ≡ resumes_of t (cursor at p) k) where
    pub resume_answered : (limit room : ℕ) {r : Scanned} → r ≡ cut (full (cursor at p)) limit room 0 (raw_trace mode a t (cursor at p) k) → r ≡ resume_of mode t at p k limit room
    unfolding resume_of resume_trace
    resume_answered limit room h = rw (← e) h

    pub resume_left : (r : Scanned) (l : List ℕ) {l' : List ℕ} → l' ≡ wrote r (raw_trace mode a t (cursor at p) k) l → l' ≡ wrote r (resume_trace mode t at p k) l
    unfolding resume_trace
    resume_left r l h = rw (← e) h
