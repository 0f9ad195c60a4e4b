-- The row of the entry's numbers goes to its part of the memory.
use Rattle.std.proofs.Common.{◌≡◌, sym, ap, ◌∙◌, length, arith}
use Rattle.std.proofs.lemmas.List.{ext_get_or}
use Rattle.run.specs.Widths.{five}
use Rattle.run.proofs.Rows.{entry_stored}
use Rattle.run.proofs.layout.U8Part.store.Goals as goal

pub returns : goal.returns
returns c =
    let wide = c.map.ensures.items in
    let long = ap length c.row.ensures ∙ five c.args.e in
    let same : c.map.result ≡ c.row.result = ext_get_or 0 c.map.result c.row.result (wide.long ∙ sym long) (λ i h. (wide.at i 0 0 (omega (arith, wide.long, h))).2.met) in
    rw c.write_row.ensures.out_after (entry_stored c.args.entries.now _ c.args.e c.requires.2 _ (same ∙ c.row.ensures))
