-- What acting on a character leads to is small. Assumes nothing.
use Rattle.std.specs.declared.ops.ControlFlow.TheVariants.{Break, Continue}
use Rattle.std.specs.Prelude.{Err, None, Ok, Some}
use Prim.Native.Nat.{ℕ, ◌≤◌}
use native.Mathlib.Omega.{arith}
use mathlib.Core.Bool.{Bool, false}
use mathlib.Core.List.{List}
use lib.Dec.{eqb, ltb}
use lib.ListN.{length}
use Rattle.basis.specs.Pick.{pick, both, isnt}
use Rattle.basis.proofs.Cases.{pick_cases}
use Rattle.position.specs.declared.Position.{Position}
use Rattle.position.specs.Place.{rewound, or_else, column_number}
use Rattle.position.proofs.Small.{Small, lined_small}
use Rattle.chars.specs.Cursors.{cursor, eat_next_of}
use Rattle.chars.specs.declared.cursor.Cursor.{Cursor}
use Rattle.chars.specs.Takes.{Taken}
use Rattle.chars.proofs.Small.{In, TakenIn, ate_in}
use Rattle.classes.specs.Marks.{lf, cr, backslash}
use Rattle.literal.specs.Answers.{nothing, ending}
use Rattle.escape.specs.Escapes.{escaped_of, on_taken}
use Rattle.escape.specs.declared.Escaped.{Escaped}
use Rattle.escape.specs.declared.Escaped.TheVariants as escaped
use Rattle.escape.proofs.Small.{EscapedIn, escaped_in}
use Rattle.string_turn.specs.Kinds.{is_verbatim, is_continued}
use Rattle.string_turn.specs.Endings.{malformed_at}
use Rattle.string_turn.specs.Take.{scanning, is_empty, next_is}
use Rattle.string_turn.specs.Answer.{Pending, goes_with}
use Rattle.string_turn.specs.declared.take.Scanning.{Scanning}
use Rattle.string_turn.proofs.take.Small.{LastSmall, unterminated_small}
use Rattle.string_turn.specs.Act.{close_of, line_feed_of, on_escaped, escape_of, add_of, plain_of, on_pending, other_of, match_of, on_closing, act_of}
use Rattle.string_turn.specs.Answer.{Acted}
use Rattle.string_turn.specs.Answer.{Closing}

module _ (t : List ℕ) where
  -- an escape that is pending began within the text
  abbrev pub PendingIn : Pending → Type 0
  PendingIn None = Unit {0}
  PendingIn (Some from) = from ≤ length t

  abbrev pub StateSmall : Scanning → Type 0
  StateSmall s = Small s.place × PendingIn s.escape

  abbrev pub StepSmall : Acted → Type 0
  StepSmall (Continue (c, next, s)) = StateSmall s
  StepSmall (Break last) = LastSmall t last

  abbrev ClosingIn : Closing → Type 0
  ClosingIn None = Unit {0}
  ClosingIn (Some here) = In t here

  malformed_small : (q from : ℕ) (here : Cursor) → from ≤ length t → In t here → LastSmall t (Err (malformed_at q from here))
  unfolding malformed_at
  malformed_small q from here h k = record { number = omega arith; place = k.0; at = h; len = omega (arith, k.1) }

  close_in : (q c : ℕ) (here : Cursor) (e : Pending) → In t here → ClosingIn (close_of t q c here e)
  unfolding close_of
  close_in q c here e h = pick_cases ClosingIn (both (eqb c q) (is_empty e)) _ _ (λ _. by (eat_next_of t here) (ate_in t here h.0)) (λ _. h)
    where
      by : (x : Taken) → TakenIn t x → ClosingIn (on_taken x (λ d next. pick (eqb d q) (Some next) None) None)
      by (Some (d, next)) k = pick_cases ClosingIn (eqb d q) _ _ (λ _. k) (λ _. tt)
      by None k = tt

  module _ (at : ℕ) (l : at ≤ length t) (s : Scanning) (h : StateSmall s) where
    line_feed_small : (q : ℕ) (start : Position) → Small start → StepSmall (line_feed_of q start at s)
    unfolding line_feed_of
    line_feed_small q start k =
        pick_cases StepSmall (is_verbatim q) _ _ (λ _. (lined_small h.0, h.1))
        (λ _. pick_cases StepSmall (both (is_continued q) (isnt (is_empty s.escape))) _ _ (λ _. (lined_small h.0, tt))
        (λ _. unterminated_small t start (cursor at (rewound s.place)) k))

    escape_small : (q c from : ℕ) → from ≤ length t → StepSmall (escape_of t q c from at s)
    unfolding escape_of
    escape_small q c from f = by (escaped_of t c (cursor at s.place)) (escaped_in t c (cursor at s.place) (h.0, l))
      where
        by : (x : Escaped) → EscapedIn t x
            → StepSmall (on_escaped x (λ d next. goes_with d next.at (scanning next.place s.first None s.skip)) (λ next. Break (Err (malformed_at q from next)))
            (pick (eqb c q) (goes_with q at (scanning s.place s.first None s.skip)) (Break (Err (malformed_at q from (cursor at s.place))))))
        by (escaped.Char d next) p = (p.0, tt)
        by (escaped.Malformed next) p = malformed_small q from next f p
        by escaped.Other p = pick_cases StepSmall (eqb c q) _ _ (λ _. (h.0, tt)) (λ _. malformed_small q from (cursor at s.place) f (h.0, l))

    module _ (white : ℕ → Bool) (q c : ℕ) where
      add_small : StepSmall (add_of white c at s)
      unfolding add_of
      add_small = pick_cases StepSmall (both (white c) (ltb (column_number s.place) s.skip)) _ _ (λ _. h) (λ _. (h.0, tt))

      plain_small : StepSmall (plain_of white q c at s)
      unfolding plain_of
      plain_small = pick_cases StepSmall (both (isnt (is_verbatim q)) (eqb c backslash)) _ _ (λ _. (h.0, omega arith)) (λ _. add_small)

      other_small : StepSmall (other_of white t q c at s)
      unfolding other_of
      other_small = by s.escape h.1
        where
          by : (e : Pending) → PendingIn e → StepSmall (on_pending e (plain_of white q c at s) (λ from. escape_of t q c from at s))
          by None k = plain_small
          by (Some from) k = escape_small q c from k

      match_small : (start : Position) → Small start → StepSmall (match_of white t q start c at s)
      unfolding match_of
      match_small start k =
          pick_cases StepSmall (both (eqb c cr) (next_is t at lf)) _ _ (λ _. h)
          (λ _. pick_cases StepSmall (eqb c lf) _ _ (λ _. line_feed_small q start k) (λ _. other_small))

  pub act_small : (white : ℕ → Bool) (q : ℕ) (start : Position) (c : ℕ) (here : Cursor) (s : Scanning) → Small start → In t here → StateSmall s → StepSmall (act_of white t q start c here s)
  unfolding act_of
  act_small white q start c here s k i h = by (close_of t q c here s.escape) (close_in q c here s.escape i)
    where
      next : Cursor → Scanning
      next to = scanning to.place (or_else s.first to.place) s.escape s.skip

      by : (x : Closing) → ClosingIn x
          → StepSmall (on_closing x (Break (Ok (ending here s.first nothing false))) (λ to. match_of white t q start c to.at (next to)))
      by None p = i.0
      by (Some to) p = match_small to.at p.1 (next to) (p.0, h.1) white q c start k
