-- The refusals of the arguments, for each way through the code. Assumes nothing.
use Rattle.lex_error.specs.declared.LexError.{LexError}
use Rattle.lex_error.specs.declared.LexError.TheVariants.{BadArgument}
use Rattle.lex_error.specs.Numbers.{Asked, no_refusal}
use Rattle.std.specs.Prelude.{Err, Ok}
use Prim.Native.Nat.{ℕ}
use mathlib.Core.Bool.{Bool, true, false}
use mathlib.Core.List.{List}
use mathlib.Core.Logic.{◌⊎◌, inl, inr}
use native.Mathlib.Omega.{arith}
use mathlib.Core.Path.{◌≡◌, sym, ◌∙◌}
use borrow.Author.Tests.{eq-eqb, ne_eqb}
use Rattle.position.specs.declared.Position.{Position}
use Rattle.position.specs.Place.{on_line, begins_line}
use Rattle.door.specs.Door.{door_of}
use Rattle.classes.specs.Marks.{quote, apostrophe, backtick}
use Rattle.string.specs.Entry.{start_refuses, argument_refuses}

module _ (p : Position) (q : ℕ) {a : Bool} (e : a ≡ on_line p) where
  pub no_line : a ≡ false → ◌≡◌ {A = Asked} (Err BadArgument) (start_refuses p q)
  unfolding start_refuses
  no_line n = rw (sym e ∙ n)

  module _ (y : a ≡ true) where
    module _ (o : q ≡ quote) {b : Bool} (f : b ≡ begins_line p) where
      pub begins_line_lem : b ≡ true → ◌≡◌ {A = Asked} (Err BadArgument) (start_refuses p q)
      unfolding start_refuses
      begins_line_lem n = rw (sym e ∙ y, eq-eqb q quote o, sym f ∙ n)

      pub ordinary_start : b ≡ false → ◌≡◌ {A = Asked} no_refusal (start_refuses p q)
      unfolding start_refuses
      ordinary_start n = rw (sym e ∙ y, eq-eqb q quote o, sym f ∙ n)

    module _ (o : q ≡ quote → ⊥) where
      pub char_start : q ≡ apostrophe → ◌≡◌ {A = Asked} no_refusal (start_refuses p q)
      unfolding start_refuses
      char_start k = rw (sym e ∙ y, ne_eqb q quote o, eq-eqb q apostrophe k)

      module _ (k : q ≡ apostrophe → ⊥) where
        pub text_start : q ≡ backtick → ◌≡◌ {A = Asked} no_refusal (start_refuses p q)
        unfolding start_refuses
        text_start h = rw (sym e ∙ y, ne_eqb q quote o, ne_eqb q apostrophe k, eq-eqb q backtick h)

        pub no_terminator : (q ≡ backtick → ⊥) → ◌≡◌ {A = Asked} (Err BadArgument) (start_refuses p q)
        unfolding start_refuses
        no_terminator h = rw (sym e ∙ y, ne_eqb q quote o, ne_eqb q apostrophe k, ne_eqb q backtick h)

    -- neither of the other two is a quote
    pub no_quote_start : (q ≡ apostrophe) ⊎ (q ≡ backtick) → ◌≡◌ {A = Asked} no_refusal (start_refuses p q)
    no_quote_start (inl k) = char_start (λ o. omega arith) k
    no_quote_start (inr h) = text_start (λ o. omega arith) (λ k. omega arith) h

    pub no_terminator_start : (q ≡ quote → ⊥) → ((q ≡ apostrophe) ⊎ (q ≡ backtick) → ⊥) → ◌≡◌ {A = Asked} (Err BadArgument) (start_refuses p q)
    no_terminator_start o n = no_terminator o (λ k. n (inl k)) (λ h. n (inr h))

module _ (t : List ℕ) (at : ℕ) (p : Position) (q : ℕ) {d : Asked} (e : d ≡ door_of t at) where
  pub let_in : {u : Unit {0}} → d ≡ Ok u → {r : Asked} → r ≡ start_refuses p q → r ≡ argument_refuses t at p q
  unfolding argument_refuses
  let_in z k = rw (k, sym e ∙ z)

  pub not_let_in : {x : LexError} → d ≡ Err x → Err x ≡ argument_refuses t at p q
  unfolding argument_refuses
  not_let_in z = rw (sym e ∙ z)
