use Rattle.std.proofs.Common.{arith}
use Rattle.card.proofs.Activities.{block_of}
use Rattle.card.proofs.activity.Activity.to_block.Goals as goal

pub returns : goal.returns
returns c = block_of c.args.self.now.slots c.to_block.result (omega arith) c.args.self.now.small c.to_block.ensures
