-- What a read puts behind the bytes that were read is what it consumed.
use Rattle.std.proofs.Common.{◌≡◌, ℕ, ◌+◌, ◌≤◌, List, ◌++◌, rules, length, take, sym, ap, ◌∙◌, subst, le_refl, drop, drop_at, length-take-le}
use Rattle.std.proofs.lemmas.Slice.{take-put_mid_below}
use Rattle.std.proofs.KnownBytes.{Consumes-trans}
use Rattle.std.specs.Io.KnownBytes.{Consumes}
use borrow.Rule.Slice.PartMut.{put_mid, post_of}
use lib.Seq.{take-add, take-append-le}
use Rattle.listing.proofs.read_script.Goals as goal

take-read : (a k m : ℕ) (xs ys : List ℕ) → a ≤ length xs → m ≤ length ys → take a xs ++ take m ys ≡ take (a + m) (put_mid a k xs ys)
take-read a k m xs ys within fits =
    let after = post_of a k xs in
    let front = take-put_mid_below a k xs ys a (le_refl a) within in
    let behind = drop_at (take a xs) (ys ++ after) a (length-take-le a xs within) in
    sym
    (take-add a m (put_mid a k xs ys)
    ∙ ap (λ l. l ++ take m (drop a (put_mid a k xs ys))) front
    ∙ ap (λ l. take a xs ++ take m l) behind
    ∙ ap (λ l. take a xs ++ l) (take-append-le m ys after fits))

pub loop-n-preserved : goal.loop-n-preserved
loop-n-preserved g c =
    let within = c.loop-n.invariant.0 in
    let joined = take-read c.loop-n.n _ c.in_ok-more.more c.loop-n.room c.read.new.buf within c.in_ok-more.ensures.bound.0 in
    (search rules, subst (Consumes _ _) joined (Consumes-trans _ _ _ _ _ c.loop-n.invariant.1 c.in_ok-more.ensures.bytes.0))
