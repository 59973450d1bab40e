use Rattle.std.proofs.Common.{◌≡◌, replicate, ap, ◌∙◌}
use Rattle.row.specs.Rows.{put_row}
use Rattle.row.proofs.Writing.{block_is}
use Rattle.row.proofs.record.to_block.Goals as goal

pub returns : goal.returns
returns c =
    let e : c.fill.new.self ≡ replicate 512 32 = c.fill.ensures.after (λ y e. e) in
    block_is c.args.numbers.now c.put_row.new.bytes (c.put_row.ensures.after ∙ ap (λ z. put_row z 0 c.args.numbers.now) e)
