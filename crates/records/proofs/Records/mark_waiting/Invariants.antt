use Rattle.std.proofs.Common.{◌≡◌, length, drop}
use Rattle.protocol.specs.Activation.{marking}
use Rattle.records.specs.Kept.{kept}
use Rattle.records.proofs.Records.mark_waiting.Given as goal

abbrev pub invariant-loop-record : goal.invariant-loop-record
invariant-loop-record l = marking (kept l.self) l.initial.map.bytes ≡ marking (drop (length l.yielded) (kept l.self)) l.map.bytes
