-- What the writer counts in bytes, told of characters: only a quote's encoding has the byte of a quote, and so the hash. Assumes nothing.
use Prim.Native.Nat.{ℕ, ◌≤◌}
use native.Mathlib.Omega.{arith}
use mathlib.Core.Bool.{false}
use mathlib.Core.List.{List, [], ◌∷◌, ◌++◌}
use mathlib.Core.Logic.{⊎_elim}
use mathlib.Core.Path.{◌≡◌, refl}
use lib.Dec.{eqb}
use borrow.Author.Tests.{ne_eqb}
use Rattle.basis.proofs.Bounds.{split}
use Rattle.utf8.specs.Encode.{encode}
use Rattle.utf8.proofs.Encodes.{enc1, enc2, enc3, enc4}
use Rattle.raw_writer.specs.Writer.{most_after_quote}
use Rattle.classes.specs.Marks.{quote, hash}

-- a byte is neither a quote nor a hash; and so all of some bytes
abbrev Other : ℕ → Type 0
Other b = (eqb b quote ≡ false) × (eqb b hash ≡ false)

abbrev Others : List ℕ → Type 0
Others [] = Unit {0}
Others (b ∷ bs) = Other b × Others bs

-- bytes above 7F are such
abbrev Highs : List ℕ → Type 0
Highs [] = Unit {0}
Highs (b ∷ bs) = (0x80 ≤ b) × Highs bs

highs_other : (bs : List ℕ) → Highs bs → Others bs
highs_other [] h = tt
highs_other (b ∷ bs) h = ((ne_eqb b quote (λ q. omega (arith, h.0)), ne_eqb b hash (λ q. omega (arith, h.0))), highs_other bs h.1)

-- the bytes of a character that is neither
bytes_other : (c : ℕ) → Other c → Others (encode c)
bytes_other c o =
    ⊎_elim (λ g. rw (enc1 c g) (o, tt)) (λ l.
    ⊎_elim (λ g. highs_other (encode c) (rw (enc2 c l g) (omega arith, (omega arith, tt)))) (λ k.
    ⊎_elim (λ g. highs_other (encode c) (rw (enc3 c k g) (omega arith, (omega arith, (omega arith, tt)))))
    (λ m. highs_other (encode c) (rw (enc4 c m) (omega arith, (omega arith, (omega arith, (omega arith, tt))))))
    (split c 0x10000)) (split c 0x800)) (split c 0x80)

-- they count for nothing
most_others : (bs l : List ℕ) → Others bs → most_after_quote (bs ++ l) ≡ most_after_quote l
unfolding most_after_quote
most_others [] l o = refl
most_others (b ∷ bs) l o = rw o.0.0 (most_others bs l o.1)

-- a quote, a hash, and any other character in front of a text
pub quote_bytes : encode quote ≡ quote ∷ []
unfolding encode
quote_bytes = refl

pub hash_bytes : encode hash ≡ hash ∷ []
unfolding encode
hash_bytes = refl

pub other_most : (c : ℕ) → eqb c quote ≡ false → eqb c hash ≡ false → (l : List ℕ) → most_after_quote (encode c ++ l) ≡ most_after_quote l
other_most c q h l = most_others (encode c) l (bytes_other c (q, h))
