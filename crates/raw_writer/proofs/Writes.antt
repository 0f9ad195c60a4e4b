-- The writer's answer and what it leaves of what was lent, for each way out. Assumes nothing.
use Rattle.lex_error.specs.declared.LexError.{LexError}
use Rattle.lex_error.specs.declared.LexError.TheVariants.{NoLiteralRoom}
use Rattle.lex_error.specs.Numbers.{Asked, no_refusal, asked_then}
use Rattle.std.specs.Prelude.{Err, Ok}
use Prim.Native.Nat.{ℕ, ◌+◌, ◌*◌, ◌≤◌, ◌<◌}
use native.Mathlib.Omega.{arith}
use mathlib.Core.List.{List, ◌++◌, append_assoc}
use mathlib.Core.Path.{◌≡◌, refl, sym, ap, ◌∙◌}
use lib.Dec.{ltb}
use lib.ListN.{length, replicate, length-append, length-replicate}
use lib.Seq.{length-sets}
use Rattle.basis.specs.Store.{stored, after, over, Stored}
use Rattle.basis.proofs.Cases.{pick_cases}
use Rattle.basis.proofs.Stores.{whole, and_then, sets_front}
use Rattle.lent.specs.Written.{written_of}
use Rattle.lent.specs.Answer.{Written}
use Rattle.lent.proofs.Writes as lent
use Rattle.door.proofs.Doors.{text_admitted}
use Rattle.raw_writer.proofs.Hashes.{hashes_short}
use Rattle.raw_writer.specs.Writer.{hashes_for, raw_literal_of, raw_write_of, raw_left_of}
use Rattle.classes.specs.Marks.{quote, hash}
use Rattle.door.specs.Door.{text_of}

-- a body that nothing refuses is short enough
pub is_short : (body : List ℕ) → text_of body ≡ no_refusal → length body ≤ 16777216
is_short body z = (text_admitted body z).short

-- ---- the literal
pub length_literal : (body : List ℕ) → length (raw_literal_of body) ≡ 2 * hashes_for body + 2 + length body
unfolding raw_literal_of
length_literal body = simp (length-append, length-replicate) (omega arith)

-- ---- the answers
module _ (body memory : List ℕ) where
  module _ {e : LexError} (n : text_of body ≡ Err e) where
    pub refused : Err e ≡ raw_write_of body memory
    unfolding raw_write_of
    refused = rw n refl

    pub untouched : memory ≡ raw_left_of body memory
    unfolding raw_left_of
    untouched = rw n refl

  module _ (z : text_of body ≡ no_refusal) {k : ℕ} (q : k ≡ hashes_for body) where
    measured : 2 * k + 2 + length body ≡ length (raw_literal_of body)
    measured = rw q (sym (length_literal body))

    module _ (h : length memory < 2 * k + 2 + length body) where
      pub no_room : Err NoLiteralRoom ≡ raw_write_of body memory
      unfolding raw_write_of
      no_room = rw z (sym (lent.refused (raw_literal_of body) memory (rw measured at h)))

      pub left_alone : memory ≡ raw_left_of body memory
      unfolding raw_left_of
      left_alone = rw z (sym (lent.untouched (raw_literal_of body) memory (rw measured at h)))

    module _ (h : 2 * k + 2 + length body ≤ length memory) where
      pub has_room : length (raw_literal_of body) ≤ length memory
      has_room = rw measured at h

      pub done : Ok (2 * k + 2 + length body) ≡ raw_write_of body memory
      unfolding raw_write_of
      done = rw (z, measured) (sym (lent.done (raw_literal_of body) memory has_room))

      pub written : {l : List ℕ} → l ≡ over (raw_literal_of body) memory → l ≡ raw_left_of body memory
      unfolding raw_left_of
      written g = rw z (g ∙ sym (lent.written (raw_literal_of body) memory has_room))

-- ---- the stores
-- one store more behind those before it
then_stored : (ys : List ℕ) {l l' l'' xs : List ℕ} {i n r q : ℕ} → Stored l i n xs r l' → q ≡ after l' r ys → l'' ≡ stored l' r ys → i + (n + length ys) ≤ length l
    → Stored l i (n + length ys) (xs ++ ys) q l''
then_stored ys {l} {l'} {l''} {xs} {i} {n} {r} {q} s e f h =
    let m : length l' ≡ length l = ap length s.memory ∙ length-sets l i xs in
    and_then s (whole l' r ys e f (omega (arith, s.next)))

-- the literal's parts, as the stores have them
parts : (body : List ℕ) → (((replicate (hashes_for body) hash ++ replicate 1 quote) ++ body) ++ replicate 1 quote) ++ replicate (hashes_for body) hash ≡ raw_literal_of body
unfolding raw_literal_of
parts body = simp append_assoc

module _ (body l₀ : List ℕ) {k : ℕ} (q : k ≡ hashes_for body) (h : length (raw_literal_of body) ≤ length l₀) where
  pub all_stored : {l₁ l₂ l₃ l₄ l₅ : List ℕ} {a b c d : ℕ}
      → a ≡ after l₀ 0 (replicate k hash) → l₁ ≡ stored l₀ 0 (replicate k hash)
      → b ≡ after l₁ a (replicate 1 quote) → l₂ ≡ stored l₁ a (replicate 1 quote)
      → c ≡ after l₂ b body → l₃ ≡ stored l₂ b body
      → d ≡ after l₃ c (replicate 1 quote) → l₄ ≡ stored l₃ c (replicate 1 quote)
      → l₅ ≡ stored l₄ d (replicate k hash)
      → l₅ ≡ over (raw_literal_of body) l₀
  all_stored ea e₁ eb e₂ ec e₃ ed e₄ e₅ =
      let n = length_literal body in
      let m = length-replicate k hash in
      let opened = whole l₀ 0 (replicate k hash) ea e₁ (omega arith) in
      let begun = then_stored (replicate 1 quote) opened eb e₂ (omega arith) in
      let ended = then_stored body begun ec e₃ (omega arith) in
      let closed = then_stored (replicate 1 quote) ended ed e₄ (omega arith) in
      let all = then_stored (replicate k hash) closed refl e₅ (omega arith) in
      all.memory ∙ rw (q, parts body) (sets_front l₀ (raw_literal_of body) h)

-- ---- how long a literal that is written can be
module _ (body memory : List ℕ) {n : ℕ} where
  asked_short : (a : Asked) → text_of body ≡ a → ◌≡◌ {A = Written} (asked_then a (written_of (raw_literal_of body) memory)) (Ok n) → n ≤ 50331652
  unfolding written_of
  asked_short (Err f) p = λ e. cc
  asked_short (Ok u) p =
      pick_cases (λ (w : Written). w ≡ Ok n → n ≤ 50331652) (ltb (length memory) (length (raw_literal_of body))) _ _
      (λ r e. cc)
      (λ r e. let q : length (raw_literal_of body) ≡ n = cc in omega (arith, q, length_literal body, hashes_short body, is_short body p))

  pub written_short : raw_write_of body memory ≡ Ok n → n ≤ 50331652
  unfolding raw_write_of
  written_short = asked_short (text_of body) refl
