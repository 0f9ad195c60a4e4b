-- The body stands aside, and is looked at there.
use Prim.Native.Nat.{ℕ}
use native.Mathlib.Omega.{arith}
use mathlib.Core.List.{List}
use mathlib.Core.Path.{◌≡◌, ap, ◌∙◌}
use lib.Dec.{eqb}
use lib.ListN.{length}
use borrow.Author.Tests.{lt-leb}
use Rattle.basis.specs.Store.{over}
use Rattle.utf8.specs.Table.{chars, look_at}
use Rattle.utf8.specs.Looks.{Look}
use Rattle.turn.proofs.OneCharacter.{alone, is_alone}
use Rattle.turn.proofs.Literals.{body, body_long, body_alone}
use Rattle.std.proofs.Common.{rules}
use Rattle.turn.proofs.is_one_character.Goals as goal
use Rattle.turn.proofs.is_one_character.Goals.{After-look_at}

-- what was seen at the front of the body
module _ (k : After-look_at) where
  abbrev aside : List ℕ
  aside = k.args.aside.now

  abbrev of : List ℕ
  of = body k.args.text.now k.args.read.opener k.args.read.from k.requires.0

  seen : alone k.look_at.result k.args.read.len ≡ eqb (length (chars of)) 1
  seen =
      ap (λ (x : Look). alone x k.args.read.len) (k.look_at.ensures ∙ ap (λ (l : List ℕ). look_at l 0) (k.requires.2 (omega (arith, k.requires.1, k.if-read-le4.true))))
      ∙ ap (λ (m : ℕ). alone (look_at (over of aside) 0) m) k.requires.1
      ∙ body_alone k.args.text.now k.args.read.opener k.args.read.from k.requires.0 aside

pub returns-then-read-le4 : goal.returns-then-read-le4
returns-then-read-le4 c = is_alone c.look_at.result c.is_some_and.result c.args.read.len c.is_some_and.ensures (λ x k. search rules) ∙ seen (goal.at.returns-then-read-le4 c).After-look_at

pub returns-else-read-le4 : goal.returns-else-read-le4
returns-else-read-le4 c = lt-leb _ 4 c.if-read-le4.false ∙ body_long _ _ _ c.requires.0 (omega (arith, c.requires.1, c.if-read-le4.false))
