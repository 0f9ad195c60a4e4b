-- The theorem StandsAnywhere of specs/RoundTrip.antt: texts that are UTF-8 are so together. Assumes nothing.
use Prim.Native.Nat.{ℕ, zero, suc}
use native.Mathlib.Omega.{arith}
use mathlib.Core.Bool.{true}
use mathlib.Core.List.{List, [], ◌∷◌, ◌++◌, append_assoc}
use mathlib.Core.Path.{◌≡◌, refl, sym, ap, ◌∙◌}
use lib.ListN.{replicate}
use Rattle.basis.proofs.Cases.{both_left, both_right}
use Rattle.utf8.specs.Table.{chars, codes, well}
use Rattle.utf8.specs.Encode.{is_scalar, encode, encode_all, all_scalar}
use Rattle.utf8.proofs.Encodes.{scalar_low}
use Rattle.utf8.proofs.Unicode.{scalars_well, well_encoded}
use Rattle.raw_writer.specs.Writer.{hashes_for, raw_literal_of}
use Rattle.classes.specs.Marks.{quote, hash}
use Rattle.promises.specs.RoundTrip.{StandsAnywhere}
use Rattle.promises.proofs.Counts.{quote_bytes, hash_bytes}

-- scalar values and their encodings, put together
encode_both : (cs ds : List ℕ) → encode_all (cs ++ ds) ≡ encode_all cs ++ encode_all ds
unfolding encode_all
encode_both [] ds = refl
encode_both (c ∷ cs) ds = ap (λ (l : List ℕ). encode c ++ l) (encode_both cs ds) ∙ sym (append_assoc (encode c) (encode_all cs) (encode_all ds))

scalar_both : (cs ds : List ℕ) → all_scalar cs ≡ true → all_scalar ds ≡ true → all_scalar (cs ++ ds) ≡ true
unfolding all_scalar
scalar_both [] ds y z = z
scalar_both (c ∷ cs) ds y z = rw (both_left (is_scalar c) (all_scalar cs) y) (scalar_both cs ds (both_right (is_scalar c) (all_scalar cs) y) z)

well_both : (a b : List ℕ) → well a ≡ true → well b ≡ true → well (a ++ b) ≡ true
well_both a b y z =
    let v = well_encoded a y in
    let w = well_encoded b z in
    rw (encode_both (codes (chars a)) (codes (chars b)), v.1, w.1) at (scalars_well (codes (chars a) ++ codes (chars b)) (scalar_both (codes (chars a)) (codes (chars b)) v.0 w.0))

-- a quote, and hashes
quote_well : well (quote ∷ []) ≡ true
unfolding encode_all all_scalar
quote_well = rw quote_bytes at (scalars_well (quote ∷ []) (rw (scalar_low quote (omega arith)) refl))

hashes_well : (n : ℕ) → well (replicate n hash) ≡ true
unfolding encode_all all_scalar
hashes_well zero = scalars_well [] refl
hashes_well (suc n) = well_both (hash ∷ []) (replicate n hash) (rw hash_bytes at (scalars_well (hash ∷ []) (rw (scalar_low hash (omega arith)) refl))) (hashes_well n)

literal_well : (body : List ℕ) → well body ≡ true → well (raw_literal_of body) ≡ true
unfolding raw_literal_of
literal_well body y =
    let h = hashes_well (hashes_for body) in
    well_both (replicate (hashes_for body) hash ++ quote ∷ body) (quote ∷ replicate (hashes_for body) hash) (well_both (replicate (hashes_for body) hash) (quote ∷ body) h (well_both (quote ∷ []) body quote_well y))
    (well_both (quote ∷ []) (replicate (hashes_for body) hash) quote_well h)

pub stands_anywhere : StandsAnywhere
stands_anywhere body before after y a b = well_both (before ++ raw_literal_of body) after (well_both before (raw_literal_of body) a (literal_well body y)) b
