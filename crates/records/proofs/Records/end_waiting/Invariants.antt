use Rattle.std.proofs.Common.{◌≡◌, map}
use Rattle.protocol.specs.Activation.{ended}
use Rattle.records.proofs.Scans.{ended_from}
use Rattle.records.proofs.Records.end_waiting.Given as goal

abbrev pub invariant-loop-record : goal.invariant-loop-record
invariant-loop-record l = map ended l.fn.self.places ≡ ended_from l.record-index l.record-items
