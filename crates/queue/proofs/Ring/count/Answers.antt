use Rattle.std.proofs.Common.{arith}
use Rattle.queue.proofs.Rounds.{contents-length}
use Rattle.queue.proofs.Ring.count.Goals as goal

pub returns-clause-all : goal.returns-clause-all
returns-clause-all g c = omega (arith, contents-length c.args.slots.now c.args.self.now)
