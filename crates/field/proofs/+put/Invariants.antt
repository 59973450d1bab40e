use Rattle.std.proofs.Common.{length}
use Rattle.field.proofs.+put.Given as goal

abbrev pub decreases-put : goal.decreases-put
decreases-put l = length l.out.now
