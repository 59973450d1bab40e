use Rattle.std.proofs.Common.{◌≡◌, map, ap, ◌∙◌, List, arith}
use Rattle.queue.specs.Queue.{contents}
use Rattle.queue.proofs.Rounds.{contents-map}
use Rattle.protocol.specs.declared.WriteRecord.{WriteRecord}
use Rattle.protocol.specs.Activation.{ended}
use Rattle.records.proofs.Scans.{ended_all}
use Rattle.records.proofs.Records.end_waiting.Goals as goal

pub returns : goal.returns
returns c =
    let rs = c.args.self.now.places in
    let all : c.loop-record.record-items ≡ map ended rs = ended_all rs c.loop-record.record-items c.loop-record.record-index c.loop-record.invariant (omega arith) in
    ap (λ (qs : List WriteRecord). contents qs c.args.self.now.ring) all ∙ contents-map ended rs c.args.self.now.ring
