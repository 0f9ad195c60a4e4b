-- A text is a keyword or symbol exactly if a place lists it, and a token's text looks up as the token that it is written as. One computed test over the whole list says that no text and no token is listed twice. Assumes nothing.
use Rattle.std.specs.Prelude.{None, Some}
use Prim.Native.Nat.{ℕ, zero, suc, ◌<◌}
use native.Mathlib.Omega.{arith}
use mathlib.Core.Bool.{Bool, true, false}
use mathlib.Core.Path.{◌≡◌, refl, sym, ap, ◌∙◌}
use mathlib.Core.List.{List, [], ◌∷◌}
use lib.Dec.{T, eqb}
use lib.ListN.{length, get_or}
use borrow.Author.Tests.{eqb-true, eqb-false, ne_eqb}
use Rattle.basis.specs.Pick.{both, either}
use Rattle.basis.specs.Words.{word, begins}
use Rattle.basis.proofs.Cases.{true_left, true_right, pick_cases}
use Rattle.token.specs.Keywords.{KeywordEntry, keywords, blank, entry_at, text_in}
use Rattle.keywords.specs.Lookup.{same_text, lookup_in, lookup_of}
use Rattle.syntax.specs.Syntax.{written_as, literal_syntax_of}
use Rattle.token.specs.Lookups.{Lookup}
use Rattle.token.proofs.Places.{many}
use Rattle.keywords.proofs.Same.{same_text_lem}

-- a place lists the text as the token
pub record Listed (s : List ℕ) (t : ℕ) : Type 0 where
  pub place : ℕ
  pub within : place < 153
  pub text : (entry_at place).text ≡ s
  pub token : (entry_at place).token ≡ t
  pub some : length s ≡ 0 → ⊥

-- ---- the test: a place that is not empty is found by its text, and by its token
abbrev is_some : ℕ → Lookup → Bool
is_some t (Some u) = eqb u t
is_some t None = false

some_is : (t : ℕ) (l : Lookup) → T (is_some t l) → l ≡ Some t
some_is t (Some u) h = ap Some (lib.Dec.eqb→eq u t h)
some_is t None h = absurd h

holds : (b : Bool) → T b → b ≡ true
holds true h = refl
holds false h = absurd h

own : KeywordEntry → Bool
own e = either (eqb (length e.text) 0) (both (is_some e.token (lookup_of e.text)) (same_text (literal_syntax_of e.token) e.text))

abbrev every : (KeywordEntry → Bool) → List KeywordEntry → Bool
every f [] = true
every f (e ∷ es) = both (f e) (every f es)

every_at : (f : KeywordEntry → Bool) (es : List KeywordEntry) (k : ℕ) → k < length es → T (every f es) → T (f (get_or es k blank))
every_at f [] k h t = absurd (omega arith)
every_at f (e ∷ es) zero h t = true_left (f e) (every f es) t
every_at f (e ∷ es) (suc k) h t = every_at f es k (omega arith) (true_right (f e) (every f es) t)

checked : T (every own keywords)
unfolding own keywords word begins same_text lookup_in lookup_of text_in written_as literal_syntax_of
checked = tt

module _ (k : ℕ) (h : k < 153) (some : length (entry_at k).text ≡ 0 → ⊥) where
  owned : T (both (is_some (entry_at k).token (lookup_of (entry_at k).text)) (same_text (literal_syntax_of (entry_at k).token) (entry_at k).text))
  unfolding own entry_at
  owned =
      let t : T (own (entry_at k)) = every_at own keywords k (rw many h) checked in
      rw (ne_eqb (length (entry_at k).text) 0 some) at t

  place_found : lookup_of (entry_at k).text ≡ Some (entry_at k).token
  place_found = some_is (entry_at k).token _ (true_left (is_some (entry_at k).token (lookup_of (entry_at k).text)) _ owned)

  place_text : literal_syntax_of (entry_at k).token ≡ (entry_at k).text
  place_text = same_text_lem _ _ (holds _ (true_right (is_some (entry_at k).token (lookup_of (entry_at k).text)) _ owned))

-- ---- what is found stands somewhere
record Has (es : List KeywordEntry) (s : List ℕ) (t : ℕ) : Type 0 where
  place : ℕ
  within : place < length es
  text : (get_or es place blank).text ≡ s
  token : (get_or es place blank).token ≡ t

has_here : (e : KeywordEntry) (es : List KeywordEntry) → Has (e ∷ es) e.text e.token
has_here e es = record { place = 0; within = omega arith; text = refl; token = refl }

has_later : (e : KeywordEntry) (es : List KeywordEntry) (s : List ℕ) (t : ℕ) → Has es s t → Has (e ∷ es) s t
has_later e es s t h = record { place = suc h.place; within = omega arith; text = h.text; token = h.token }

never : (t : ℕ) → None ≡ Some t → ⊥
never t e = let z : ◌≡◌ {A = ℕ} 0 1 = cc in omega arith

lookup_has : (es : List KeywordEntry) (s : List ℕ) (t : ℕ) → lookup_in es s ≡ Some t → Has es s t
unfolding lookup_in
lookup_has [] s t h = absurd (never t h)
lookup_has (e ∷ es) s t h =
    pick_cases (λ (l : Lookup). l ≡ Some t → Has (e ∷ es) s t) (same_text e.text s) (Some e.token) (lookup_in es s)
    (λ z g. let u : e.token ≡ t = cc in rw (← same_text_lem e.text s z, ← u) (has_here e es))
    (λ z g. has_later e es s t (lookup_has es s t g))
    h

text_has : (es : List KeywordEntry) (t : ℕ) → (length (text_in es t) ≡ 0 → ⊥) → Has es (text_in es t) t
unfolding text_in
text_has [] t n = absurd (n refl)
text_has (e ∷ es) t n =
    pick_cases (λ (w : List ℕ). (length w ≡ 0 → ⊥) → Has (e ∷ es) w t) (eqb e.token t) e.text (text_in es t)
    (λ z m. rw (← eqb-true e.token t z) (has_here e es))
    (λ z m. has_later e es (text_in es t) t (text_has es t m))
    n

has_listed : (s : List ℕ) (t : ℕ) → (length s ≡ 0 → ⊥) → Has keywords s t → Listed s t
unfolding entry_at
has_listed s t n h = record { place = h.place; within = rw many at h.within; text = h.text; token = h.token; some = n }

-- ---- a text looks up as a token exactly if a place lists it so
module _ (s : List ℕ) (t : ℕ) where
  pub listed_found : Listed s t → lookup_of s ≡ Some t
  listed_found l = rw (← l.text, ← l.token) (place_found l.place l.within (λ z. l.some (sym (ap length l.text) ∙ z)))

  pub found_listed : lookup_of s ≡ Some t → Listed s t
  unfolding lookup_of
  found_listed =
      pick_cases (λ (l : Lookup). l ≡ Some t → Listed s t) (eqb (length s) 0) None (lookup_in keywords s)
      (λ z e. absurd (never t e))
      (λ z e. has_listed s t (eqb-false (length s) 0 z) (lookup_has keywords s t e))

  -- and then it is the token's text
  pub listed_text : Listed s t → literal_syntax_of t ≡ s
  listed_text l = rw (← l.text, ← l.token) (place_text l.place l.within (λ z. l.some (sym (ap length l.text) ∙ z)))

-- a token that has a text is listed, or written as one that is, and its text looks up as that
module _ (t : ℕ) (some : length (literal_syntax_of t) ≡ 0 → ⊥) where
  pub text_listed : Listed (literal_syntax_of t) (written_as t)
  unfolding literal_syntax_of
  text_listed = has_listed _ (written_as t) some (text_has keywords (written_as t) some)

  pub text_found : lookup_of (literal_syntax_of t) ≡ Some (written_as t)
  text_found = listed_found _ (written_as t) text_listed
