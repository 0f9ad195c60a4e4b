-- What an identifier is answered as, for the ways out of the functions that the check does not find. Assumes nothing.
use Rattle.lex_error.specs.declared.LexError.TheVariants.{BadArgument}
use Rattle.identifier.specs.Answer.{refused_at}
use Rattle.chars.specs.Takes.{char_taken}
use Rattle.std.specs.Prelude.{None}
use Prim.Native.Nat.{ℕ, ◌≤◌, ◌<◌}
use Rattle.entry.specs.Kinds.{symbol}
use native.Mathlib.Omega.{arith}
use mathlib.Core.List.{List, [], ◌∷◌}
use mathlib.Core.Path.{◌≡◌, refl, sym, ap}
use lib.ListN.{length}
use Rattle.classes.specs.Class.{is_id_first_alphabetic}
use Rattle.chars.specs.Cursors.{get_next_of}
use Rattle.chars.specs.declared.cursor.Cursor.{Cursor}
use Rattle.chars.proofs.Cursors.{Took, got_took, got_ended, further}
use Rattle.chars.specs.Ends.{stretch_end}
use Rattle.chars.specs.declared.stretch.Stretch.TheVariants as Stretch
use Rattle.fault.specs.Faults.{fault}
use Rattle.identifier.specs.Identifiers.{listed_kind, spanned, identified_from, identify_of}

-- the kind of a listed word
pub kind_none : (w : List ℕ) → length w < 1 → listed_kind w ≡ symbol
unfolding listed_kind is_id_first_alphabetic
kind_none [] e = refl
kind_none (b ∷ w) e = absurd (omega arith)

-- the whole from its first character
module _ (t book : List ℕ) (s : Cursor) where
  pub nothing_there : get_next_of t s ≡ None → identify_of t book s ≡ refused_at (fault BadArgument s.place) s
  unfolding identify_of identified_from
  nothing_there q = rw (got_ended t s q)

  module _ {c : ℕ} {first : Cursor} (q : get_next_of t s ≡ char_taken c first) where
    pub begins_here : identify_of t book s ≡ spanned t book s (stretch_end Stretch.Word t first)
    unfolding identify_of identified_from
    begins_here =
        let k : Took t s.at s.place c first = got_took t s q in
        rw k.found (ap (λ (x : Cursor). spanned t book s (stretch_end Stretch.Word t x)) (sym k.stands))

    pub first_within : (s.at < first.at) × (first.at ≤ length t)
    first_within = further t s.at s.place (got_took t s q)
