-- A text whose length is not noted under its first byte is listed nowhere; the loop keeps that the text is listed nowhere but from its token on.
use Prim.Native.Nat.{ℕ, ◌≤◌}
use native.Mathlib.Omega.{arith}
use mathlib.Core.List.{List}
use mathlib.Core.Path.{◌≡◌}
use lib.ListN.{length}
use Rattle.token.proofs.word_table.Numbers.{Bytes}
use Rattle.keywords.proofs.Sought.{empty_none, long_none, length_none, sought_first, sought_end, sought_next, found, goes_on}
use Rattle.keywords.proofs.lookup_symbol_from_syntax.Goals as goal
use Rattle.keywords.proofs.lookup_symbol_from_syntax.Goals.{then-text-gt-LONGEST-via-then-text-gt-LONGEST, then-text-gt-LONGEST-via-else-text-gt-LONGEST+then-lengths_of-text-eq0}

-- a text with a first byte is not empty
some : (s : List ℕ) → 1 ≤ length s → length s ≡ 0 → ⊥
some s h e = omega arith

pub returns-in_default : goal.returns-in_default
returns-in_default c = empty_none _ (omega arith)

-- no listed text is longer, or none that begins with the byte is as long
pub returns-then-text-gt-LONGEST : goal.returns-then-text-gt-LONGEST
returns-then-text-gt-LONGEST c =
    elim c.then-text-gt-LONGEST.branch [
      | then-text-gt-LONGEST-via-then-text-gt-LONGEST w ↦ long_none _ w.if-text-gt-LONGEST.true
      | then-text-gt-LONGEST-via-else-text-gt-LONGEST+then-lengths_of-text-eq0 w ↦
          length_none _ (some _ c.in-len1-up.len_at_least) (rw w.lengths_of.ensures at w.if-lengths_of-text-eq0.true)
    ]

pub loop-token-init : goal.loop-token-init
loop-token-init c =
    let whole : Bytes c.args.text.now = λ i. omega (arith, c.type_inv.text i) in
    (whole, c.number_of-v.ensures, sought_first _ (some _ c.in-len1-up.len_at_least) (whole 0) _ c.first_of-token.ensures, omega arith)

pub returns-then-spelt-v : goal.returns-then-spelt-v
returns-then-spelt-v c =
    let inv = c.loop-token.invariant in
    found _ _ inv.2 c.loop-token-test.true _ c.spelt.ensures _ inv.1 inv.0 c.if-spelt-v.true

pub loop-token-smaller : goal.loop-token-smaller
loop-token-smaller c =
    goes_on _ _ c.loop-token.invariant.3 c.loop-token-test.true c.next_of-token.ensures

pub loop-token-preserved : goal.loop-token-preserved
loop-token-preserved c =
    let inv = c.loop-token.invariant in
    (inv.0, inv.1, sought_next _ _ inv.2 c.loop-token-test.true _ c.spelt.ensures _ inv.1 c.if-spelt-v.false _ c.next_of-token.ensures, omega arith)

pub returns : goal.returns
returns c = sought_end _ _ c.loop-token.invariant.2 c.loop-token-test.false
