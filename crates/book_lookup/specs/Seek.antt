-- The search by halving, in any book, good or bad.
use Rattle.std.specs.Prelude.{ℕ, zero, suc, ◌+◌, ◌-◌, ◌/◌, Option, None, Some, ltb}
use Rattle.std.specs.declared.cmp.Ordering.{Ordering}
use Rattle.std.specs.declared.cmp.Ordering.TheVariants.{Less, Equal, Greater}
use Rattle.basis.specs.Types.{Text, Bytes}
use Rattle.basis.specs.Pick.{pick}
use Rattle.book.specs.Order.{compared}
use Rattle.book.specs.Contents.{word_at, word_count, enough}

-- the middle of lo and hi
unfoldable pub middle : ℕ → ℕ → ℕ
middle lo hi = lo + (hi - lo) / 2

-- where to go on from the middle: nowhere, behind it, or before it
abbrev pub narrowed : Ordering → ℕ → ℕ → ℕ → (ℕ → ℕ → Option ℕ) → Option ℕ
narrowed Equal lo mid hi on = Some mid
narrowed Less lo mid hi on = on (mid + 1) hi
narrowed Greater lo mid hi on = on lo mid

-- the word among those from lo up to hi, in at most n turns
unfoldable pub sought_in : ℕ → Bytes → Text → ℕ → ℕ → Option ℕ
sought_in zero book w lo hi = None
sought_in (suc n) book w lo hi = pick (ltb lo hi) (narrowed (compared (word_at book (middle lo hi)).text w) lo (middle lo hi) hi (λ l h. sought_in n book w l h)) None

-- which word of the book it is; a book short of its contents has none
unfoldable pub sought_of : Bytes → Text → Option ℕ
sought_of book w = pick (enough book) (sought_in (word_count book) book w 0 (word_count book)) None
