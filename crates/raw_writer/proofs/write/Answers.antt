-- Five stores, each behind the one before it.
use Rattle.raw_writer.proofs.Writes.{all_stored}
use Rattle.raw_writer.proofs.write.Goals as goal

pub returns : goal.returns
returns c =
    all_stored _ _ c.requires.0 c.requires.1
    c.fill-opened.ensures.value c.fill-opened.ensures.out_after c.fill-begun.ensures.value c.fill-begun.ensures.out_after
    c.copy-ended.ensures.value c.copy-ended.ensures.out_after c.fill-closed.ensures.value c.fill-closed.ensures.out_after c.fill.ensures.out_after
