-- Laws of places and their moves, for crates above that never look inside a place.
-- Assumes nothing.
use Prim.Native.Nat.{ℕ, zero, suc, ◌+◌, ◌-◌, ◌≤◌, ◌<◌, min}
use native.Mathlib.Omega.{arith}
use native.Mathlib.Numerals.{add-one}
use mathlib.Core.Bool.{Bool, true, false}
use mathlib.Core.Logic.{⊎_elim}
use mathlib.Core.Path.{◌≡◌, refl, sym, ap, ◌∙◌}
use lib.Dec.{eqb}
use borrow.Author.Tests.{eq-eqb, ne_eqb, eqb-true}
use Rattle.basis.specs.Pick.{pick, both, isnt}
use Rattle.basis.proofs.Bounds.{split}
use Rattle.basis.proofs.Cases.{not_both, both_no, both_left, both_right}
use Rattle.position.specs.Place.{
  place,
  none,
  start,
  given,
  line_number,
  column_number,
  is_none,
  on_line,
  begins_line,
  or_else,
  up,
  advanced,
  advanced_by,
  lined,
  rewound,
}
use Rattle.position.specs.declared.Position.{Position}

-- the constants, by their names; no place but NONE is none
pub none_is : place 0 0 ≡ none
unfolding none
none_is = refl

pub start_is : place 1 0 ≡ start
unfolding start
start_is = refl

pub only_none : (p : Position) → is_none p ≡ true → p ≡ none
unfolding is_none none
only_none p h =
    let a : p.line ≡ 0 = eqb-true p.line 0 (both_left (eqb p.line 0) (eqb p.pos 0) h) in
    let b : p.pos ≡ 0 = eqb-true p.pos 0 (both_right (eqb p.line 0) (eqb p.pos 0) h) in
    ap (place p.line) b ∙ ap (λ (n : ℕ). place n 0) a

-- a script begins on a line; no place is none, and on no line
pub start_on : on_line start ≡ true
unfolding on_line start
start_on = refl

pub none_off : on_line none ≡ false
unfolding on_line none
none_off = refl

pub none_none : is_none none ≡ true
unfolding is_none none
none_none = refl

-- tests joined with their own parts
isnt_both : (a b : Bool) → isnt a ≡ true → both a b ≡ false
isnt_both true b h = not_both h refl
isnt_both false b h = refl

both_yes : (a : Bool) → both a true ≡ a
both_yes true = refl
both_yes false = refl

up_some : (n : ℕ) → up n ≡ 0 → ⊥
unfolding up
up_some n h = omega arith

module _ (p : Position) where
  -- moves keep to a line
  pub advanced_on : on_line (advanced p) ≡ on_line p
  unfolding on_line advanced
  advanced_on = refl

  pub lined_on : on_line (lined p) ≡ true
  unfolding on_line lined
  lined_on = rw (ne_eqb (up p.line) 0 (up_some p.line))

  pub rewound_on : on_line (rewound p) ≡ on_line p
  unfolding on_line rewound
  rewound_on = refl

  -- a place on a line
  module _ (h : on_line p ≡ true) where
    pub on_some : is_none p ≡ false
    unfolding on_line is_none
    on_some = isnt_both (eqb p.line 0) (eqb p.pos 0) h

    pub column_zero : begins_line p ≡ eqb (column_number p) 0
    unfolding begins_line column_number
    column_zero = rw on_some (both_yes (eqb p.pos 0))

    pub on_line_lem : 1 ≤ line_number p
    unfolding on_line line_number
    on_line_lem =
        ⊎_elim
        (λ (z : p.line < 1). not_both h (ap isnt (eq-eqb p.line 0 (omega arith))))
        (λ (g : 1 ≤ p.line). g)
        (split p.line 1)

  -- the moves in numbers
  pub advanced_line : line_number (advanced p) ≡ line_number p
  unfolding line_number advanced
  advanced_line = refl

  pub advanced_column : column_number (advanced p) ≡ up (column_number p)
  unfolding column_number advanced
  advanced_column = refl

  pub lined_line : line_number (lined p) ≡ up (line_number p)
  unfolding line_number lined
  lined_line = refl

  pub lined_column : column_number (lined p) ≡ 0
  unfolding column_number lined
  lined_column = refl

  pub rewound_line : line_number (rewound p) ≡ line_number p
  unfolding line_number rewound
  rewound_line = refl

  pub rewound_column : column_number (rewound p) ≡ column_number p - 1
  unfolding column_number rewound
  rewound_column = refl

  -- back from one column on
  pub rewound_advanced : column_number p < 65535 → rewound (advanced p) ≡ p
  unfolding column_number rewound advanced up
  rewound_advanced h = ap (place p.line) (omega arith)

  -- a move that is at its end changes nothing: the last column, the last line at its beginning, column 0
  pub advanced_stays : column_number p ≡ 65535 → advanced p ≡ p
  unfolding column_number advanced up
  advanced_stays h = ap (place p.line) (omega arith)

  pub lined_stays : line_number p ≡ 65535 → column_number p ≡ 0 → lined p ≡ p
  unfolding line_number column_number lined up
  lined_stays h g =
      let e : min (p.line + 1) 65535 ≡ p.line = omega arith in
      rw e (ap (place p.line) (sym g))

  pub rewound_stays : column_number p ≡ 0 → rewound p ≡ p
  unfolding column_number rewound
  rewound_stays h = ap (place p.line) (omega arith)

  -- a place is its two numbers
  pub given_numbers : given (line_number p) (column_number p) ≡ p
  unfolding given line_number column_number
  given_numbers = refl

-- many columns at once: none, one more, and all of them in numbers
pub advanced_by_none : (p : Position) → advanced_by 0 p ≡ p
unfolding advanced_by
advanced_by_none p = refl

pub advanced_by_more : (n : ℕ) (p : Position) → advanced_by (n + 1) p ≡ advanced (advanced_by n p)
unfolding advanced_by
advanced_by_more n p = rw (add-one n)

pub two_columns : (p : Position) → advanced_by 2 p ≡ advanced (advanced p)
two_columns p = advanced_by_more 1 p ∙ ap advanced (advanced_by_more 0 p ∙ ap advanced (advanced_by_none p))

-- a column before many is one behind them
pub advanced_by_first : (n : ℕ) (p : Position) → advanced_by n (advanced p) ≡ advanced (advanced_by n p)
unfolding advanced_by
advanced_by_first zero p = refl
advanced_by_first (suc n) p = ap advanced (advanced_by_first n p)

pub advanced_by_numbers : (n : ℕ) (p : Position) → p.pos ≤ 65535 → advanced_by n p ≡ place p.line (min (p.pos + n) 65535)
unfolding advanced_by advanced up
advanced_by_numbers zero p h = ap (place p.line) (omega arith)
advanced_by_numbers (suc n) p h = rw (advanced_by_numbers n p h) (ap (place p.line) (omega arith))

-- a column on is some place, so the first of two places on stays the first
pub advanced_some : (p : Position) → is_none (advanced p) ≡ false
unfolding is_none advanced
advanced_some p = rw (ne_eqb (up p.pos) 0 (up_some p.pos)) (both_no (eqb p.line 0))

pub first_stays : (f p q : Position) → or_else (or_else f (advanced p)) q ≡ or_else f (advanced p)
unfolding or_else
first_stays f p q = by (is_none f) refl
  where
    by : (b : Bool) → is_none f ≡ b → pick (is_none (pick (is_none f) (advanced p) f)) q (pick (is_none f) (advanced p) f) ≡ pick (is_none f) (advanced p) f
    by true e = rw (e, advanced_some p)
    by false e = rw (e, e)

-- a first place that is set stays
pub first_set : (f p : Position) → is_none f ≡ false → or_else f p ≡ f
unfolding or_else
first_set f p e = rw e

-- the first place, n columns on from p: f while there is none, then the first of them where f is none
unfoldable pub first_by : ℕ → Position → Position → Position
first_by zero f p = f
first_by (suc n) f p = or_else f (advanced p)

module _ (f p : Position) where
  pub first_by_none : first_by 0 f p ≡ f
  unfolding first_by
  first_by_none = refl

  pub first_by_more : (n : ℕ) → or_else (first_by n f p) (advanced (advanced_by n p)) ≡ first_by (n + 1) f p
  unfolding first_by advanced_by
  first_by_more zero = refl
  first_by_more (suc n) = rw (add-one (suc n)) (first_stays f p (advanced (advanced (advanced_by n p))))

  pub first_by_some : (n : ℕ) → (n ≡ 0 → ⊥) → first_by n f p ≡ or_else f (advanced p)
  unfolding first_by
  first_by_some zero h = absurd (h refl)
  first_by_some (suc n) h = refl

-- two numbers from outside, and out again
module _ (l c : ℕ) where
  pub given_on : on_line (given l c) ≡ isnt (eqb l 0)
  unfolding on_line given
  given_on = refl

  pub given_none : is_none (given l c) ≡ both (eqb l 0) (eqb c 0)
  unfolding is_none given
  given_none = refl

  pub given_line : line_number (given l c) ≡ l
  unfolding line_number given
  given_line = refl

  pub given_column : column_number (given l c) ≡ c
  unfolding column_number given
  given_column = refl
