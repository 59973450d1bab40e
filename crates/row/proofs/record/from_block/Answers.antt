use Rattle.std.proofs.Common.{rules}
use Rattle.row.specs.Records.{record_answer}
use Rattle.row.proofs.Laws.{answered}
use Rattle.row.proofs.record.from_block.Goals as goal

pub returns-then-held-ne-BLOCK : goal.returns-then-held-ne-BLOCK
unfolding record_answer
returns-then-held-ne-BLOCK g c = record { answer = search rules; law = answered c.args.block.now c.args.limits.now c.args.once _ (search rules) }

pub returns-in_err-numbers : goal.returns-in_err-numbers
unfolding record_answer
returns-in_err-numbers g c = record { answer = search rules; law = answered c.args.block.now c.args.limits.now c.args.once _ (search rules) }

pub returns-in_err-only_spaces : goal.returns-in_err-only_spaces
unfolding record_answer
returns-in_err-only_spaces g c = record { answer = search rules; law = answered c.args.block.now c.args.limits.now c.args.once _ (search rules) }

pub returns : goal.returns
unfolding record_answer
returns g c = record { answer = search rules; law = answered c.args.block.now c.args.limits.now c.args.once _ (search rules) }
