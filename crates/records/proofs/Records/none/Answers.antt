use Rattle.std.proofs.Common.{rules}
use Rattle.queue.proofs.Rounds.{contents-vacant}
use Rattle.records.proofs.Records.none.Goals as goal

pub returns : goal.returns
returns c = search (rules, contents-vacant)
