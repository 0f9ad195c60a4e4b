-- What the raw writer makes of bodies of millions of bytes. Assumes nothing.
use Rattle.lex_error.specs.Numbers.{no_refusal}
use Rattle.std.specs.Prelude.{Ok}
use Prim.Native.Nat.{ℕ, zero, suc, ◌+◌, ◌*◌, ◌<◌}
use native.Mathlib.Omega.{arith}
use mathlib.Core.Bool.{true}
use mathlib.Core.List.{List, ◌∷◌, ◌++◌}
use mathlib.Core.Path.{◌≡◌, refl, ap, subst, ◌∙◌}
use lib.ListN.{length, replicate, length-append, length-replicate}
use borrow.Author.Tests.{lt-ltb, le-ltb}
use Rattle.utf8.specs.Table.{well}
use Rattle.utf8.specs.Encode.{encode, encode_all, all_scalar, is_scalar}
use Rattle.utf8.proofs.Unicode.{scalars_well}
use Rattle.lent.specs.Written.{written_of, left_of}
use Rattle.raw_writer.specs.Writer.{hashes_ahead, most_after_quote, hashes_for, raw_literal_of, raw_write_of, raw_left_of}
use Rattle.classes.specs.Marks.{quote, hash}
use Rattle.door.specs.Door.{text_of}
use Rattle.promises.specs.LargeBodies.{TooLongFirst, LongWritten}

pub too_long_first : TooLongFirst
unfolding text_of raw_write_of raw_left_of
too_long_first body memory h = rw (lt-ltb 16777216 (length body) h) (refl, refl)

-- a run of hashes
run_ahead : (n : ℕ) → hashes_ahead (replicate n hash) ≡ n
unfolding hashes_ahead
run_ahead zero = refl
run_ahead (suc n) = ap suc (run_ahead n)

run_most : (n : ℕ) → most_after_quote (replicate n hash) ≡ 0
unfolding most_after_quote
run_most zero = refl
run_most (suc n) = run_most n

run_scalar : (n : ℕ) → all_scalar (replicate n hash) ≡ true
unfolding all_scalar is_scalar
run_scalar zero = refl
run_scalar (suc n) = run_scalar n

run_bytes : (n : ℕ) → encode_all (replicate n hash) ≡ replicate n hash
unfolding encode_all encode
run_bytes zero = refl
run_bytes (suc n) = ap (λ (l : List ℕ). hash ∷ l) (run_bytes n)

-- a body between k hashes and a quote on either side
literal_length : (k : ℕ) (b : List ℕ) → length (replicate k hash ++ quote ∷ b ++ quote ∷ replicate k hash) ≡ k + length b + k + 2
literal_length k b =
    rw (length-append (replicate k hash ++ (quote ∷ b)) (quote ∷ replicate k hash), length-append (replicate k hash) (quote ∷ b), length-replicate k hash)
    (omega arith)

-- a quote and n hashes
module _ (n : ℕ) where
  body : List ℕ
  body = quote ∷ replicate n hash

  body_bytes : encode_all body ≡ body
  unfolding body encode_all encode
  body_bytes = ap (λ (l : List ℕ). quote ∷ l) (run_bytes n)

  body_scalar : all_scalar body ≡ true
  unfolding body all_scalar is_scalar
  body_scalar = run_scalar n

  body_well : well body ≡ true
  body_well = subst (λ (s : List ℕ). well s ≡ true) body_bytes (scalars_well body body_scalar)

  body_length : length body ≡ n + 1
  unfolding body
  body_length = omega (arith, length-replicate n hash)

  hashes : hashes_for body ≡ n + 1
  unfolding body hashes_for most_after_quote
  hashes = rw (run_ahead n, run_most n) (omega arith)

  size : length (raw_literal_of body) ≡ 3 * n + 5
  unfolding raw_literal_of
  size = literal_length (hashes_for body) body ∙ omega (arith, hashes, body_length)

  accepts : n < 16777216 → text_of body ≡ no_refusal
  unfolding text_of
  accepts h = rw (le-ltb 16777216 (length body) (omega (arith, body_length)), body_well)

pub long_written : LongWritten
unfolding body raw_write_of raw_left_of written_of left_of
long_written n memory h room =
    rw (accepts n h, le-ltb (length memory) (length (raw_literal_of (body n))) (omega (arith, size n))) (ap Ok (size n), refl)
