-- Turns of the search by halving. Assumes nothing.
use Prim.Native.Nat.{ℕ, zero, suc, ◌+◌, ◌-◌, ◌/◌, ◌≤◌, ◌<◌}
use native.Mathlib.Omega.{arith}
use mathlib.Core.List.{List}
use mathlib.Core.Path.{◌≡◌, refl, sym, ◌∙◌}
use lib.ListN.{length}
use borrow.Author.Tests.{lt-ltb, le-ltb, le-leb}
use Rattle.book.specs.Order.{compared}
use Rattle.book.specs.Contents.{word_count, bodies, word_at, enough}
use Rattle.book_lookup.specs.Seek.{middle, narrowed, sought_in, sought_of}
use Rattle.std.specs.declared.cmp.Ordering.{Ordering}
use Rattle.std.specs.declared.cmp.Ordering.TheVariants.{Less, Equal, Greater}
use Rattle.std.specs.Prelude.{None, Some}

-- the word, if it is found, is found from lo up to hi
pub record Seeking (book w : List ℕ) (lo hi : ℕ) : Type 0 where
  pub within : hi ≤ word_count book
  pub left : ℕ
  pub turns : hi ≤ lo + left
  pub rest : sought_of book w ≡ sought_in left book w lo hi

module _ (book w : List ℕ) where
  pub seeking_start : (n : ℕ) → bodies book ≤ length book → n ≡ word_count book → Seeking book w 0 n
  unfolding sought_of enough
  seeking_start n h c = record { within = omega arith; left = n; turns = omega arith; rest = rw (le-leb (bodies book) (length book) h, c) }

  module _ (lo hi : ℕ) where
    -- one turn, where some are left
    turn : (f : ℕ) → hi ≤ lo + f → lo < hi
        → (g : ℕ) × (hi ≤ lo + suc g) × (sought_in f book w lo hi ≡ narrowed (compared (word_at book (middle lo hi)).text w) lo (middle lo hi) hi (λ l h. sought_in g book w l h))
    unfolding sought_in
    turn zero h l = absurd (omega arith)
    turn (suc f) h l = (f, h, rw (lt-ltb lo hi l))

    over : (f : ℕ) → hi ≤ lo → sought_in f book w lo hi ≡ None
    unfolding sought_in
    over zero l = refl
    over (suc f) l = rw (le-ltb lo hi l)

    module _ (s : Seeking book w lo hi) where
      pub not_there : hi ≤ lo → None ≡ sought_of book w
      not_there l = sym (s.rest ∙ over s.left l)

      module _ (l : lo < hi) (v : List ℕ) (d : v ≡ (word_at book (lo + (hi - lo) / 2)).text) (o : Ordering) (e : o ≡ compared v w) where
        pub there : o ≡ Equal → Some (lo + (hi - lo) / 2) ≡ sought_of book w
        unfolding middle
        there g = sym (s.rest ∙ (turn s.left s.turns l).2 ∙ rw (← d, ← e, g))

        pub behind : o ≡ Less → Seeking book w (lo + (hi - lo) / 2 + 1) hi
        unfolding middle
        behind g = let t = turn s.left s.turns l in record {
          within = s.within;
          left = t.0;
          turns = omega (arith, t.1);
          rest = s.rest ∙ t.2 ∙ rw (← d, ← e, g);
        }

        pub before : o ≡ Greater → Seeking book w lo (lo + (hi - lo) / 2)
        unfolding middle
        before g = let t = turn s.left s.turns l in record {
          within = omega arith;
          left = t.0;
          turns = omega (arith, t.1);
          rest = s.rest ∙ t.2 ∙ rw (← d, ← e, g);
        }
