use Rattle.row.proofs.Reading.{SoFar}
use Rattle.row.proofs.get_row.Given as goal

abbrev pub invariant-loop-i : goal.invariant-loop-i
invariant-loop-i g l = SoFar l.bytes l.once l.from l.limits l.i l.numbers
