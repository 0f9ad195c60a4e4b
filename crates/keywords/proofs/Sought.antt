-- The lookup, as a walk over the tokens whose texts begin with the text's first byte, if one of them is as long. Assumes nothing.
use Rattle.std.specs.Prelude.{None, Some}
use Prim.Native.Nat.{ℕ, zero, suc, zero-le, ◌+◌, ◌/◌, ◌%◌, ◌^◌, ◌≤◌, ◌<◌}
use native.Mathlib.Omega.{arith}
use mathlib.Core.Bool.{Bool, true, false}
use mathlib.Core.Path.{◌≡◌, refl, sym, ap, ◌∙◌}
use mathlib.Core.Logic.{⊎_elim}
use mathlib.Core.List.{List, [], ◌∷◌}
use lib.Dec.{T, eqb, ltb, leb, eqb→eq, eqb-zero-suc, ltb→lt, leb→le}
use lib.ListN.{length, get_or}
use borrow.Author.Tests.{eq-eqb, ne_eqb}
use Rattle.basis.specs.Pick.{pick, both, either, isnt}
use Rattle.basis.specs.Words.{word, begins}
use Rattle.basis.proofs.Bounds.{split}
use Rattle.basis.proofs.Cases.{both_no, true_left, true_right}
use Rattle.token.specs.Tokens as Token
use Rattle.token.specs.Tokens.{among_tokens}
use Rattle.token.specs.Keywords.{KeywordEntry, keywords, text_in}
use Rattle.token.specs.Spelt.{number_from, word_number, spelt_of, starts, first_in, first_token, lengths_in, bits_up_to, lengths_of, places_behind, next_token}
use Rattle.token.proofs.word_table.Numbers.{Bytes, bytes, bytes_are, number_same}
use Rattle.keywords.specs.Lookup.{same_text, lookup_in, lookup_of}
use Rattle.keywords.proofs.Same.{same_text_lem, same_self, other_length}

-- ---- the places whose text begins with a byte
those : ℕ → List KeywordEntry → List KeywordEntry
those b [] = []
those b (e ∷ es) = pick (starts b e.text) (e ∷ those b es) (those b es)

-- a word that begins with another byte is another text
other_start : (w s : List ℕ) → (length s ≡ 0 → ⊥) → starts (get_or s 0 0) w ≡ false → same_text w s ≡ false
unfolding same_text begins starts
other_start w [] n e = absurd (n refl)
other_start [] (b ∷ s) n e = rw (eqb-zero-suc (length s))
other_start (c ∷ w) (b ∷ s) n e = rw e (both_no (eqb (length (c ∷ w)) (length (b ∷ s))))

those_only : (s : List ℕ) → (length s ≡ 0 → ⊥) → (es : List KeywordEntry) → lookup_in es s ≡ lookup_in (those (get_or s 0 0) es) s
unfolding those lookup_in
those_only s n [] = refl
those_only s n (e ∷ es) = go (starts (get_or s 0 0) e.text) refl (those_only s n es)
  where
    go : (t : Bool) → starts (get_or s 0 0) e.text ≡ t → lookup_in es s ≡ lookup_in (those (get_or s 0 0) es) s → lookup_in (e ∷ es) s ≡ lookup_in (pick t (e ∷ those (get_or s 0 0) es) (those (get_or s 0 0) es)) s
    go true z h = rw h
    go false z h = rw (other_start e.text s n z) h

-- ---- the test: from the first token on, the next ones are those places' own, and the last is EOF
-- a text begins with the byte, which is not 0, and is of bytes
fits : ℕ → List ℕ → Bool
fits b w = both (starts b w) (both (ltb 0 b) (bytes w))

pub chained : ℕ → ℕ → List KeywordEntry → Bool
chained b t [] = eqb t Token.EOF
chained b t (e ∷ es) =
    both (eqb e.token t) (both (isnt (eqb t Token.EOF)) (both (eqb (spelt_of t) (word_number e.text)) (both (fits b e.text) (chained b (next_token t) es))))

chain_end : (b t : ℕ) → T (chained b t []) → t ≡ Token.EOF
unfolding chained
chain_end b t h = eqb→eq t Token.EOF h

every : ℕ → ℕ → Bool
every zero b = true
every (suc n) b = both (chained b (first_token b) (those b keywords)) (every n (suc b))

checked : T (every 256 0)
unfolding every chained fits those keywords text_in word number_from word_number spelt_of starts first_in first_token places_behind next_token
checked = tt

every_at : (n b k : ℕ) → T (every n b) → b ≤ k → k < b + n → T (chained k (first_token k) (those k keywords))
unfolding every
every_at zero b k h f u = absurd (omega arith)
every_at (suc n) b k h f u =
    ⊎_elim
    (λ g. let e : b ≡ k = omega arith in rw (← e) (true_left (chained b (first_token b) (those b keywords)) (every n (suc b)) h))
    (λ g. every_at n (suc b) k (true_right (chained b (first_token b) (those b keywords)) (every n (suc b)) h) g (omega arith))
    (split k (suc b))

-- what it says of the place where the walk stands
record Here (b t : ℕ) (e : KeywordEntry) (es : List KeywordEntry) : Type 0 where
  token : e.token ≡ t
  some : T (isnt (eqb t Token.EOF))
  number : spelt_of t ≡ word_number e.text
  begun : get_or e.text 0 0 ≡ b
  plain : 0 < b
  whole : Bytes e.text
  rest : T (chained b (next_token t) es)

starts_byte : (b : ℕ) (w : List ℕ) → T (starts b w) → get_or w 0 0 ≡ b
unfolding starts
starts_byte b [] h = absurd h
starts_byte b (c ∷ w) h = eqb→eq c b h

here : (b t : ℕ) (e : KeywordEntry) (es : List KeywordEntry) → T (chained b t (e ∷ es)) → Here b t e es
unfolding chained fits
here b t e es h =
    let h₁ = true_right (eqb e.token t) _ h in
    let h₂ = true_right (isnt (eqb t Token.EOF)) _ h₁ in
    let h₃ = true_right (eqb (spelt_of t) (word_number e.text)) _ h₂ in
    let f = true_left (both (starts b e.text) (both (ltb 0 b) (bytes e.text))) _ h₃ in
    let g = true_right (starts b e.text) _ f in
    record {
      token = eqb→eq e.token t (true_left (eqb e.token t) _ h);
      some = true_left (isnt (eqb t Token.EOF)) _ h₁;
      number = eqb→eq (spelt_of t) (word_number e.text) (true_left (eqb (spelt_of t) (word_number e.text)) _ h₂);
      begun = starts_byte b e.text (true_left (starts b e.text) _ f);
      plain = ltb→lt 0 b (true_left (ltb 0 b) _ g);
      whole = bytes_are e.text (true_right (ltb 0 b) _ g);
      rest = true_right (both (starts b e.text) (both (ltb 0 b) (bytes e.text))) _ h₃;
    }

-- ---- the walk ends: each step goes on to a token with fewer behind it
pub left : ℕ → ℕ → ℕ
left zero t = 0
left (suc n) t = pick (eqb t Token.EOF) 0 (suc (left n (next_token t)))

falls : ℕ → ℕ → Bool
falls zero t = true
falls (suc n) t = both (either (eqb t Token.EOF) (ltb (left 5 (next_token t)) (left 5 t))) (falls n (suc t))

all_fall : T (falls 256 0)
unfolding falls left keywords text_in word starts first_in places_behind next_token
all_fall = tt

falls_at : (n b t : ℕ) → T (falls n b) → b ≤ t → t < b + n → (t ≡ Token.EOF → ⊥) → left 5 (next_token t) < left 5 t
unfolding falls
falls_at zero b t h f u k = absurd (omega arith)
falls_at (suc n) b t h f u k =
    ⊎_elim
    (λ g.
    let e : b ≡ t = omega arith in
    let w : T (either (eqb t Token.EOF) (ltb (left 5 (next_token t)) (left 5 t))) = rw e at (true_left (either (eqb b Token.EOF) (ltb (left 5 (next_token b)) (left 5 b))) (falls n (suc b)) h) in
    ltb→lt (left 5 (next_token t)) (left 5 t) (rw (ne_eqb t Token.EOF k) at w)
    )
    (λ g. falls_at n (suc b) t (true_right (either (eqb b Token.EOF) (ltb (left 5 (next_token b)) (left 5 b))) (falls n (suc b)) h) g (omega arith) k)
    (split t (suc b))

pub goes_on : (t u : ℕ) → t < 256 → (t ≡ Token.EOF → ⊥) → u ≡ next_token t → left 5 u < left 5 t
goes_on t u h k e = rw e (falls_at 256 0 t all_fall zero-le h k)

-- ---- no listed text is longer than eight bytes
short : List KeywordEntry → Bool
short [] = true
short (e ∷ es) = both (leb (length e.text) 8) (short es)

all_short : T (short keywords)
unfolding short keywords word
all_short = tt

none_longer : (s : List ℕ) → 8 < length s → (es : List KeywordEntry) → T (short es) → None ≡ lookup_in es s
unfolding short lookup_in
none_longer s h [] t = refl
none_longer s h (e ∷ es) t =
    let l = leb→le (length e.text) 8 (true_left (leb (length e.text) 8) (short es) t) in
    rw (← other_length e.text s (λ z. omega arith)) (none_longer s h es (true_right (leb (length e.text) 8) (short es) t))

-- ---- a listed text's own length is noted under its first byte
-- bit n of the lengths that are noted under a byte
abbrev noted : ℕ → ℕ → ℕ
noted b n = lengths_of b / (2 ^ n) % 2

-- the test: a text is empty, or its length is noted
own : List ℕ → Bool
own w = either (eqb (length w) 0) (eqb (noted (get_or w 0 0) (length w)) 1)

all_own : List KeywordEntry → Bool
all_own [] = true
all_own (e ∷ es) = both (own e.text) (all_own es)

listed_own : T (all_own keywords)
unfolding own all_own keywords word among_tokens starts lengths_in bits_up_to lengths_of
listed_own = tt

-- a text whose length is not noted is none of them
module _ (s : List ℕ) (n : length s ≡ 0 → ⊥) (h : noted (get_or s 0 0) (length s) ≡ 0) where
  other_noted : (w : List ℕ) → T (own w) → false ≡ same_text w s
  unfolding own
  other_noted w t = by (same_text w s) refl
    where
      by : (x : Bool) → same_text w s ≡ x → false ≡ x
      by true y =
          let z : T (own s) = rw (same_text_lem w s y) at t in
          absurd (rw (ne_eqb (length s) 0 n, h) at z)
      by false y = refl

  none_noted : (es : List KeywordEntry) → T (all_own es) → None ≡ lookup_in es s
  unfolding all_own lookup_in
  none_noted [] t = refl
  none_noted (e ∷ es) t =
      rw (← other_noted e.text (true_left (own e.text) (all_own es) t)) (none_noted es (true_right (own e.text) (all_own es) t))

module _ (s : List ℕ) where
  pub empty_none : length s ≡ 0 → None ≡ lookup_of s
  unfolding lookup_of
  empty_none e = rw (eq-eqb (length s) 0 e)

  pub long_none : 8 < length s → None ≡ lookup_of s
  unfolding lookup_of
  long_none h = rw (ne_eqb (length s) 0 (λ z. omega arith)) (none_longer s h keywords all_short)

  pub length_none : (length s ≡ 0 → ⊥) → noted (get_or s 0 0) (length s) ≡ 0 → None ≡ lookup_of s
  unfolding lookup_of
  length_none n h = rw (ne_eqb (length s) 0 n) (none_noted s n h keywords listed_own)

  -- the walk stands at a token, and the text is listed nowhere but from there on
  pub record Sought (t : ℕ) : Type 0 where
    pub ahead : List KeywordEntry
    pub chain : T (chained (get_or s 0 0) t ahead)
    pub is : lookup_of s ≡ lookup_in ahead s

  pub sought_first : (length s ≡ 0 → ⊥) → get_or s 0 0 < 256 → (t : ℕ) → t ≡ first_token (get_or s 0 0) → Sought t
  unfolding lookup_of
  sought_first n h t e =
      rw e (record {
        ahead = those (get_or s 0 0) keywords;
        chain = every_at 256 0 (get_or s 0 0) checked zero-le h;
        is = rw (ne_eqb (length s) 0 n) (those_only s n keywords);
      })

  module _ (t : ℕ) (r : Sought t) where
    pub sought_end : t ≡ Token.EOF → None ≡ lookup_of s
    unfolding lookup_in
    sought_end z = sym (r.is ∙ go r.ahead r.chain)
      where
        go : (es : List KeywordEntry) → T (chained (get_or s 0 0) t es) → lookup_in es s ≡ None
        go [] h = refl
        go (e ∷ es) h = absurd (rw (eq-eqb t Token.EOF z) at (here (get_or s 0 0) t e es h).some)

    module _ (k : t ≡ Token.EOF → ⊥) (m : ℕ) (p : m ≡ spelt_of t) (v : ℕ) (q : v ≡ word_number s) where
      pub found : Bytes s → m ≡ v → Some t ≡ lookup_of s
      unfolding lookup_in
      found w y = sym (r.is ∙ go r.ahead r.chain)
        where
          go : (es : List KeywordEntry) → T (chained (get_or s 0 0) t es) → lookup_in es s ≡ Some t
          go [] h = absurd (k (chain_end (get_or s 0 0) t h))
          go (e ∷ es) h =
              let c = here (get_or s 0 0) t e es h in
              let z : e.text ≡ s = number_same e.text s c.whole w (omega (arith, c.begun, c.plain)) (omega (arith, c.plain)) (sym c.number ∙ sym p ∙ y ∙ q) in
              rw (z, same_self s, c.token)

      pub sought_next : (m ≡ v → ⊥) → (u : ℕ) → u ≡ next_token t → Sought u
      unfolding lookup_in
      sought_next y u z = rw z (go r.ahead r.chain r.is)
        where
          other : (e : KeywordEntry) → spelt_of t ≡ word_number e.text → (x : Bool) → same_text e.text s ≡ x → x ≡ false
          other e n true g = absurd (y (p ∙ n ∙ ap word_number (same_text_lem e.text s g) ∙ sym q))
          other e n false g = refl

          go : (es : List KeywordEntry) → T (chained (get_or s 0 0) t es) → lookup_of s ≡ lookup_in es s → Sought (next_token t)
          go [] h i = absurd (k (chain_end (get_or s 0 0) t h))
          go (e ∷ es) h i =
              let c = here (get_or s 0 0) t e es h in
              record { ahead = es; chain = c.rest; is = i ∙ rw (other e c.number (same_text e.text s) refl) }
