-- Where no brace is to be counted a run only stands further on. Assumes nothing.
use Prim.Native.Nat.{◌+◌, ◌-◌}
use mathlib.Core.Bool.{Bool, true, false}
use mathlib.Core.Path.{◌≡◌, refl, sym}
use lib.Dec.{eqb, leb}
use Rattle.basis.specs.Pick.{pick, both, either, isnt}
use Rattle.basis.proofs.Cases.{not_both}
use Rattle.token.specs.Tokens as Tokens
use Rattle.chars.specs.declared.cursor.Cursor.{Cursor}
use Rattle.script.specs.declared.State.{State}
use Rattle.script.specs.declared.Crossed.{Crossed}
use Rattle.script.specs.declared.Crossed.TheVariants.{Plain, Piece, Token}
use Rattle.script.specs.States.{state, moved_to, count, with_braces, resumed, opened, closed, behind, behind_of}
use Rattle.script.specs.Counts.{counts}

-- where a symbol leads, by its tests
abbrev there : Cursor → State → Bool → Bool → Bool → Bool → State
there to s z a b c =
    pick (either a b) (pick z (moved_to to s) (with_braces to (count s + 1) s))
    (pick c (pick z (moved_to to s) (pick (leb (count s) 1) (resumed to s) (with_braces to (count s - 1) s))) (moved_to to s))

only_further : (to : Cursor) (s : State) (z a b c : Bool) → both (isnt z) (either a (either b c)) ≡ false → there to s z a b c ≡ moved_to to s
only_further to s z false false false n = refl
only_further to s true true b c n = refl
only_further to s true false true c n = refl
only_further to s true false false true n = refl
only_further to s false true b c n = not_both refl n
only_further to s false false true c n = not_both refl n
only_further to s false false false true n = not_both refl n

uncounted : (what : Crossed) (to : Cursor) (s : State) → counts s.level what ≡ false → behind_of what to s ≡ moved_to to s
unfolding counts behind_of behind opened closed
uncounted Plain to s n = refl
uncounted Piece to s n = not_both refl n
uncounted (Token t) to s n = only_further to s (eqb s.level 0) (eqb t Tokens.LeftBrace) (eqb t Tokens.MapStart) (eqb t Tokens.RightBrace) n

pub uncounted_state : (what : Crossed) (to : Cursor) (s : State) → counts s.level what ≡ false → state to s.level s.braces false ≡ behind_of what to s
unfolding moved_to
uncounted_state what to s n = sym (uncounted what to s n)
