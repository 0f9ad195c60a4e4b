-- What is read at once, as the turns that it stands for. Assumes nothing.
use Rattle.utf8.specs.Looks.{char_found}
use Rattle.std.specs.Prelude.{None}
use Prim.Native.Nat.{ℕ, ◌+◌, ◌<◌}
use native.Mathlib.Omega.{arith}
use native.Mathlib.Nat.{add-zero}
use mathlib.Core.Bool.{true, false}
use mathlib.Core.List.{List, []}
use mathlib.Core.Logic.{inl, inr, ⊎_elim}
use mathlib.Core.Path.{◌≡◌, refl, sym, ap, ◌∙◌}
use lib.Dec.{eqb}
use lib.ListN.{length, get_or, get_or-eq_default}
use Rattle.basis.proofs.Bounds.{split}
use Rattle.position.specs.declared.Position.{Position}
use Rattle.position.specs.Place.{is_none, or_else, column_number, advanced, advanced_by, lined}
use Rattle.position.proofs.Moves.{two_columns, first_set}
use Rattle.utf8.specs.Table.{look_at}
use Rattle.utf8.specs.Encode.{is_scalar, encoded}
use Rattle.utf8.proofs.Bits.{look_ascii}
use Rattle.utf8.proofs.Encodes.{encoded_none}
use Rattle.white.specs.White.{is_white}
use Rattle.classes.specs.Marks.{lf, cr, space, quote, apostrophe, backtick, dollar, backslash, left_brace}
use Rattle.escape.specs.Escapes.{no_char}
use Rattle.escape.specs.Whole.{WholeAt}
use Rattle.escape.specs.declared.WholeEscape.{WholeEscape}
use Rattle.literal.specs.Trace.{adds, checks, bytes, passes}
use Rattle.literal.specs.Cut.{cut}
use Rattle.literal.proofs.Turns.{cut_on, cut_adds}
use Rattle.string_turn.specs.Kinds.{is_verbatim, is_interpolated}
use Rattle.string_turn.specs.Take.{scanning}
use Rattle.string_turn.specs.declared.take.Scanning.{Scanning}
use Rattle.string.specs.Reading.{rest, Escaping, Terminating}
use Rattle.string.proofs.Readings.{Once, once_on, Twice}
use Rattle.string.proofs.Escaping.{whole_twice, continues_twice, skips_once}
use Rattle.string.proofs.Doubling.{doubled_taken, doubled_acted}
use Rattle.string.proofs.Texts.{feed_twice, sign_once}
use Rattle.string.specs.Limited.{GoesOn}
use Rattle.string.specs.Units.{TerminatorOf, StandsAt, clear_state, Reads, ReadsAnywhere}
use Rattle.string.specs.declared.scan.Clear.{Clear}
use Rattle.string.specs.declared.scan.Unit.{Unit}

-- ---- the terminators
pub quote_escapes : {q : ℕ} → q ≡ quote → Escaping q
unfolding is_verbatim is_interpolated
quote_escapes e = rw e (record { plain = refl; whole = refl; other = refl })

pub apostrophe_escapes : {q : ℕ} → q ≡ apostrophe → Escaping q
unfolding is_verbatim is_interpolated
apostrophe_escapes e = rw e (record { plain = refl; whole = refl; other = refl })

pub quote_terminates : {q : ℕ} → q ≡ quote → Terminating q
unfolding is_white
quote_terminates e = rw e (record { no_dollar = refl; no_backslash = refl; no_cr = refl; no_lf = refl; no_white = refl; low = omega arith; some = omega arith })

pub apostrophe_terminates : {q : ℕ} → q ≡ apostrophe → Terminating q
unfolding is_white
apostrophe_terminates e = rw e (record { no_dollar = refl; no_backslash = refl; no_cr = refl; no_lf = refl; no_white = refl; low = omega arith; some = omega arith })

pub backtick_terminates : {q : ℕ} → q ≡ backtick → Terminating q
unfolding is_white
backtick_terminates e = rw e (record { no_dollar = refl; no_backslash = refl; no_cr = refl; no_lf = refl; no_white = refl; low = omega arith; some = omega arith })

pub terminates : {q : ℕ} → TerminatorOf q → Terminating q
terminates (inl e) = quote_terminates e
terminates (inr (inl e)) = apostrophe_terminates e
terminates (inr (inr e)) = backtick_terminates e

pub escapes : {q : ℕ} → TerminatorOf q → (q ≡ backtick → ⊥) → Escaping q
escapes (inl e) n = quote_escapes e
escapes (inr (inl e)) n = apostrophe_escapes e
escapes (inr (inr e)) n = absurd (n e)

no_space : {q : ℕ} → TerminatorOf q → eqb space q ≡ false
no_space (inl e) = rw e refl
no_space (inr (inl e)) = rw e refl
no_space (inr (inr e)) = rw e refl

white_space : is_white space ≡ true
unfolding is_white
white_space = refl

-- ---- the characters that a unit is made of
pub ascii_at : (t : List ℕ) (at : ℕ) {b c : ℕ} → b ≡ get_or t at 0 → b ≡ c → 0 < c → c < 0x80 → StandsAt t at c
ascii_at t at {b} {c} e h low high =
    let g : get_or t at 0 ≡ c = sym e ∙ h in
    ⊎_elim
    (λ l. record { inside = l; is = sym (look_ascii t at l 1 (rw g high) refl) ∙ ap (λ (x : ℕ). char_found x 1) g })
    (λ l. absurd (let z : get_or t at 0 ≡ 0 = get_or-eq_default t 0 l in omega (arith, z, g, low)))
    (split at (length t))

-- ---- one turn, or two
nothing_added : encoded no_char ≡ []
unfolding is_scalar
nothing_added = encoded_none no_char refl

module _ (t : List ℕ) (q : ℕ) (start : Position) (at : ℕ) (s : Scanning) (limit n : ℕ) (within : passes limit n ≡ false) {d next : ℕ} {r : Scanning} where
  once_goes : Once is_white t q start at s d next r → GoesOn limit n t q start at s d next r
  unfolding bytes
  once_goes x =
      record {
        is = λ full room h. ap (cut full limit room n) x.is ∙ cut_on full limit room n _ _ within;
        body = ap bytes x.is;
        low = x.low;
        high = x.high;
      }

  twice_goes : Twice is_white t q start at s d next r → GoesOn limit n t q start at s d next r
  unfolding bytes
  twice_goes x =
      let two : rest t q start at s ≡ checks x.seven (adds [] (checks x.eight (adds (encoded d) (rest t q start next r)))) = rw (← nothing_added) x.is in
      record {
        is = λ full room h.
            ap (cut full limit room n) two
            ∙ cut_on full limit room n _ _ within
            ∙ cut_adds full limit room n 0 [] _ refl h (omega arith)
            ∙ rw (add-zero n) (cut_on full limit room n _ _ within);
        body = ap bytes two;
        low = x.low;
        high = x.high;
      }

two_on : (at : ℕ) → at + 1 + 1 ≡ at + 2
two_on at = omega arith

-- the same by other names
goes_as : {t : List ℕ} {q : ℕ} {start : Position} {limit n at d : ℕ} {s : Scanning} {next next' : ℕ} {r r' : Scanning}
    → GoesOn limit n t q start at s d next r → next ≡ next' → r ≡ r' → GoesOn limit n t q start at s d next' r'
goes_as g e h = rw (← e, ← h) g

abbrev pub unit : ℕ → ℕ → Position → ℕ → Unit
unit c w p k = record { c = c; width = w; place = p; skip = k; more = false }

module _ (t : List ℕ) (q : ℕ) (here : Clear) where
  abbrev p : Position
  p = here.place

  abbrev f : Position
  f = here.first

  -- a doubled terminator: one turn
  module _ (i : TerminatorOf q) (kept : here.skip ≡ 0) (set : is_none f ≡ false) (one : StandsAt t here.at q) (two : StandsAt t (here.at + 1) q) {w : Position} (e : w ≡ advanced_by 2 p) where
    behind_both : scanning (advanced (advanced p)) (or_else f (advanced (advanced p))) None 0 ≡ scanning w (or_else f (advanced p)) None 0
    behind_both = rw (e, two_columns p, first_set f (advanced (advanced p)) set, first_set f (advanced p) set)

    pub doubled_reads : ReadsAnywhere t q here (unit q 2 w 0)
    doubled_reads start limit within =
        let x = once_on is_white t q start here.at (scanning p f None 0) (doubled_taken t q start (terminates i) p f here.at one.is) (doubled_acted t q start (terminates i) p f here.at one.is two.is) in
        rw kept (goes_as (once_goes t q start here.at (scanning p f None 0) limit here.n within x) (two_on here.at) behind_both)

  -- a whole escape: two turns
  pub escape_reads : TerminatorOf q → (q ≡ backtick → ⊥) → {x : WholeEscape} → WholeAt t q here.at x → {w : Position} → w ≡ advanced_by x.width p
      → (x.width ≡ 0 → ⊥) → ReadsAnywhere t q here (unit x.c x.width w here.skip)
  escape_reads i n {x} y {w} e z start limit within =
      rw e (twice_goes t q start here.at (clear_state here) limit here.n within (whole_twice is_white t q start (escapes i n) p f here.skip here.at y z))

  -- a space that is skipped: one turn
  pub skipped_reads : TerminatorOf q → (q ≡ backtick → ⊥) → StandsAt t here.at space → {w : Position} {k : ℕ} → w ≡ advanced p → k ≡ column_number w → k < here.skip
      → ReadsAnywhere t q here (unit no_char 1 w here.skip)
  skipped_reads i n one {w} {k} e c l start limit within =
      let h : column_number (advanced p) < here.skip = rw (← e, ← c) l in
      rw e (once_goes t q start here.at (clear_state here) limit here.n within (skips_once is_white t q start (escapes i n) p f here.skip here.at one.is (no_space i) white_space h))

  -- a backslash at the end of a line: two turns
  pub continues_reads : q ≡ quote → StandsAt t here.at backslash → StandsAt t (here.at + 1) lf → (start : Position)
      → {v w : Position} {k : ℕ} → v ≡ advanced_by 2 p → w ≡ lined v → k ≡ column_number start → Reads t q start here (unit no_char 2 w (k + 1))
  continues_reads h one two start e g c limit within =
      rw (g, e, c, two_columns p)
      (goes_as (twice_goes t q start here.at (clear_state here) limit here.n within (continues_twice is_white t q start (quote_escapes h) p f here.skip here.at one.is h two.is)) (two_on here.at) refl)

module _ (t : List ℕ) (here : Clear) where
  -- in text, a CR before LF: two turns
  pub feed_reads : StandsAt t here.at cr → StandsAt t (here.at + 1) lf → {v w : Position} → v ≡ advanced_by 2 here.place → w ≡ lined v
      → ReadsAnywhere t backtick here (unit lf 2 w here.skip)
  feed_reads one two e g start limit within =
      rw (g, e, two_columns here.place)
      (goes_as (twice_goes t backtick start here.at (clear_state here) limit here.n within (feed_twice is_white t start here.place here.first here.skip here.at one.is two.is)) (two_on here.at) refl)

  -- in text, `\$` before `{`: one turn
  no_white : is_white dollar ≡ false
  unfolding is_white
  no_white = refl

  pub sign_reads : StandsAt t here.at backslash → StandsAt t (here.at + 1) dollar → StandsAt t (here.at + 2) left_brace → {w : Position} → w ≡ advanced here.place
      → ReadsAnywhere t backtick here (unit dollar 2 w 0)
  sign_reads one two three e start limit within =
      let brace : look_at t (here.at + 1 + 1) ≡ char_found left_brace 1 = rw (two_on here.at) three.is in
      rw e (goes_as (once_goes t backtick start here.at (clear_state here) limit here.n within (sign_once is_white t start here.place here.first here.skip here.at one.is two.is brace no_white)) (two_on here.at) refl)
