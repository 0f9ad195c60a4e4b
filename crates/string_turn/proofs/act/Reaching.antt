-- What acting on a character keeps to, whatever the state: it goes on by whole characters, and no refusal of its own is 7 or 9. Assumes nothing.
use Rattle.std.specs.declared.ops.ControlFlow.TheVariants.{Break, Continue}
use Rattle.std.specs.Prelude.{Err, None, Ok, Some}
use Prim.Native.Nat.{ℕ}
use native.Mathlib.Omega.{arith}
use mathlib.Core.Bool.{Bool, false}
use mathlib.Core.List.{List}
use mathlib.Core.Path.{◌≡◌, refl}
use lib.Dec.{eqb, ltb}
use Rattle.basis.specs.Pick.{pick, both, isnt}
use Rattle.basis.proofs.Cases.{pick_cases}
use Rattle.position.specs.declared.Position.{Position}
use Rattle.position.specs.Place.{rewound, or_else, column_number}
use Rattle.chars.specs.Cursors.{cursor, eat_next_of}
use Rattle.chars.specs.declared.cursor.Cursor.{Cursor}
use Rattle.chars.specs.Takes.{Taken}
use Rattle.chars.proofs.Cursors.{ate_took}
use Rattle.classes.specs.Marks.{lf, cr, backslash}
use Rattle.literal.specs.Answers.{nothing, ending}
use Rattle.escape.specs.Escapes.{escaped_of, on_taken}
use Rattle.escape.specs.declared.Escaped.{Escaped}
use Rattle.escape.specs.declared.Escaped.TheVariants as escaped
use Rattle.chars.proofs.Reaches.{Reached, there, and_on, took_reached}
use Rattle.escape.proofs.Ways.{ReachedBy, escaped_reached}
use Rattle.string_turn.specs.Kinds.{is_verbatim, is_continued}
use Rattle.string_turn.specs.Endings.{malformed_at}
use Rattle.string_turn.specs.Take.{scanning, is_empty, next_is}
use Rattle.string_turn.specs.Answer.{Pending, goes_with}
use Rattle.string_turn.specs.declared.take.Scanning.{Scanning}
use Rattle.string_turn.proofs.take.Reaching.{Fair, unterminated_fair}
use Rattle.string_turn.specs.Act.{close_of, line_feed_of, on_escaped, escape_of, add_of, plain_of, on_pending, other_of, match_of, on_closing, act_of}
use Rattle.string_turn.specs.Answer.{Acted}
use Rattle.string_turn.specs.Answer.{Closing}

-- a step from an offset
abbrev pub Steps : List ℕ → ℕ → Acted → Type 0
Steps t a (Continue (c, next, s)) = Reached t a next
Steps t a (Break last) = Fair last

abbrev Opens : List ℕ → ℕ → Closing → Type 0
Opens t a None = Unit {0}
Opens t a (Some here) = Reached t a here.at

malformed_fair : (q from : ℕ) (here : Cursor) → Fair (Err (malformed_at q from here))
unfolding malformed_at
malformed_fair q from here = (λ e. omega arith, λ e. omega arith, λ e. omega arith)

module _ (t : List ℕ) where
  close_opens : (q c : ℕ) (here : Cursor) (e : Pending) → Opens t here.at (close_of t q c here e)
  unfolding close_of
  close_opens q c here e = pick_cases (Opens t here.at) (both (eqb c q) (is_empty e)) _ _ (λ _. by (eat_next_of t here) refl) (λ _. there)
    where
      by : (x : Taken) → eat_next_of t here ≡ x → Opens t here.at (on_taken x (λ d next. pick (eqb d q) (Some next) None) None)
      by (Some (d, next)) e = pick_cases (Opens t here.at) (eqb d q) _ _ (λ _. took_reached (ate_took t here e)) (λ _. tt)
      by None e = tt

  line_feed_steps : (q : ℕ) (start : Position) (at : ℕ) (s : Scanning) → Steps t at (line_feed_of q start at s)
  unfolding line_feed_of
  line_feed_steps q start at s =
      pick_cases (Steps t at) (is_verbatim q) _ _ (λ _. there)
      (λ _. pick_cases (Steps t at) (both (is_continued q) (isnt (is_empty s.escape))) _ _ (λ _. there)
      (λ _. unterminated_fair start (cursor at (rewound s.place))))

  escape_steps : (q c from at : ℕ) (s : Scanning) → Steps t at (escape_of t q c from at s)
  unfolding escape_of
  escape_steps q c from at s = by (escaped_of t c (cursor at s.place)) (escaped_reached t c (cursor at s.place))
    where
      by : (x : Escaped) → ReachedBy t at x
          → Steps t at (on_escaped x (λ d next. goes_with d next.at (scanning next.place s.first None s.skip)) (λ next. Break (Err (malformed_at q from next)))
          (pick (eqb c q) (goes_with q at (scanning s.place s.first None s.skip)) (Break (Err (malformed_at q from (cursor at s.place))))))
      by (escaped.Char d next) p = p
      by (escaped.Malformed next) p = malformed_fair q from next
      by escaped.Other p = pick_cases (Steps t at) (eqb c q) _ _ (λ _. there) (λ _. malformed_fair q from (cursor at s.place))

  module _ (white : ℕ → Bool) where
    add_steps : (c at : ℕ) (s : Scanning) → Steps t at (add_of white c at s)
    unfolding add_of
    add_steps c at s = pick_cases (Steps t at) (both (white c) (ltb (column_number s.place) s.skip)) _ _ (λ _. there) (λ _. there)

    plain_steps : (q c at : ℕ) (s : Scanning) → Steps t at (plain_of white q c at s)
    unfolding plain_of
    plain_steps q c at s = pick_cases (Steps t at) (both (isnt (is_verbatim q)) (eqb c backslash)) _ _ (λ _. there) (λ _. add_steps c at s)

    other_steps : (q c at : ℕ) (s : Scanning) → Steps t at (other_of white t q c at s)
    unfolding other_of
    other_steps q c at s = by s.escape
      where
        by : (e : Pending) → Steps t at (on_pending e (plain_of white q c at s) (λ from. escape_of t q c from at s))
        by None = plain_steps q c at s
        by (Some from) = escape_steps q c from at s

    match_steps : (q : ℕ) (start : Position) (c at : ℕ) (s : Scanning) → Steps t at (match_of white t q start c at s)
    unfolding match_of
    match_steps q start c at s =
        pick_cases (Steps t at) (both (eqb c cr) (next_is t at lf)) _ _ (λ _. there)
        (λ _. pick_cases (Steps t at) (eqb c lf) _ _ (λ _. line_feed_steps q start at s) (λ _. other_steps q c at s))

    from_there : {a b : ℕ} (x : Acted) → Reached t a b → Steps t b x → Steps t a x
    from_there (Continue (c, next, s)) p q = and_on p q
    from_there (Break last) p q = q

    pub act_steps : (q : ℕ) (start : Position) (c : ℕ) (at : Cursor) (s : Scanning) → Steps t at.at (act_of white t q start c at s)
    unfolding act_of
    act_steps q start c at s = by (close_of t q c at s.escape) (close_opens q c at s.escape)
      where
        next : Cursor → Scanning
        next here = scanning here.place (or_else s.first here.place) s.escape s.skip

        by : (x : Closing) → Opens t at.at x
            → Steps t at.at (on_closing x (Break (Ok (ending at s.first nothing false))) (λ here. match_of white t q start c here.at (next here)))
        by None p = tt
        by (Some here) p = from_there (match_of white t q start c here.at (next here)) p (match_steps q start c here.at (next here))
