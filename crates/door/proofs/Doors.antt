-- The door of every scan, for each way out; and what is known of who was let in. Assumes nothing.
use Prim.Native.Nat.{ℕ, ◌≤◌, ◌<◌}
use mathlib.Core.Bool.{Bool, true, false}
use mathlib.Core.List.{List}
use mathlib.Core.Path.{◌≡◌, refl, sym, ◌∙◌}
use lib.Dec.{ltb}
use lib.ListN.{length}
use borrow.Author.Tests.{lt-ltb, le-ltb, ltb-false}
use Rattle.std.specs.Prelude.{Ok, Err}
use Rattle.lex_error.specs.declared.LexError.{LexError}
use Rattle.lex_error.specs.declared.LexError.TheVariants.{NotUtf8, TextTooLong, BadArgument}
use Rattle.lex_error.specs.Numbers.{Asked, no_refusal, asked_then}
use Rattle.basis.specs.Pick.{pick}
use Rattle.utf8.specs.Table.{chars, well, edge, boundary}
use Rattle.utf8.proofs.Edges.{boundary_edge, edge_within}
use Rattle.door.specs.Door.{text_of, door_of}

-- ---- a text
module _ (t : List ℕ) where
  pub text_long : 16777216 < length t → text_of t ≡ Err TextTooLong
  unfolding text_of
  text_long h = rw (lt-ltb 16777216 (length t) h)

  module _ (h : length t ≤ 16777216) where
    pub text_bytes : well t ≡ false → text_of t ≡ Err NotUtf8
    unfolding text_of
    text_bytes n = rw (le-ltb 16777216 (length t) h, n)

    pub text_good : well t ≡ true → text_of t ≡ no_refusal
    unfolding text_of
    text_good y = rw (le-ltb 16777216 (length t) h, y)

-- a text that is let in: it is short enough and well formed
pub record TextAdmitted (t : List ℕ) : Type 0 where
  pub short : length t ≤ 16777216
  pub formed : well t ≡ true

pub text_admitted : (t : List ℕ) → text_of t ≡ no_refusal → TextAdmitted t
unfolding text_of
text_admitted t e = go (ltb 16777216 (length t)) (well t) refl refl e
  where
    go : (a b : Bool) → ltb 16777216 (length t) ≡ a → well t ≡ b → ◌≡◌ {A = Asked} (pick a (Err TextTooLong) (pick b no_refusal (Err NotUtf8))) no_refusal → TextAdmitted t
    go true b p q z = cc
    go false false p q z = cc
    go false true p q z = record { short = ltb-false 16777216 (length t) p; formed = q }

-- ---- a text and an offset
module _ (t : List ℕ) (at : ℕ) where
  pub text_first : {e : LexError} → text_of t ≡ Err e → door_of t at ≡ Err e
  unfolding door_of
  text_first n = rw n

  pub too_long : 16777216 < length t → door_of t at ≡ Err TextTooLong
  too_long h = text_first (text_long t h)

  -- in a well-formed text the boundaries are the edges
  module _ (z : text_of t ≡ no_refusal) where
    pub let_in : boundary t at ≡ true → door_of t at ≡ no_refusal
    unfolding door_of
    let_in b = rw (z, sym (boundary_edge t at (text_admitted t z).formed) ∙ b)

    pub not_there : boundary t at ≡ false → door_of t at ≡ Err BadArgument
    unfolding door_of
    not_there b = rw (z, sym (boundary_edge t at (text_admitted t z).formed) ∙ b)

-- who is let in: the text is short enough and well formed, and a character begins at the offset or the text ends there
pub record Admitted (t : List ℕ) (at : ℕ) : Type 0 where
  pub short : length t ≤ 16777216
  pub formed : well t ≡ true
  pub stands : edge (chars t) at ≡ true
  pub within : at ≤ length t

pub admitted : (t : List ℕ) (at : ℕ) → door_of t at ≡ no_refusal → Admitted t at
unfolding door_of
admitted t at e = go (text_of t) (edge (chars t) at) refl refl e
  where
    go : (a : Asked) (d : Bool) → text_of t ≡ a → edge (chars t) at ≡ d → ◌≡◌ {A = Asked} (asked_then a (pick d no_refusal (Err BadArgument))) no_refusal → Admitted t at
    go (Err f) d p r z = cc
    go (Ok u) false p r z = cc
    go (Ok u) true p r z =
        let text = text_admitted t p in
        record { short = text.short; formed = text.formed; stands = r; within = edge_within t text.formed at r }
