use Rattle.std.proofs.Common.{length}
use Rattle.field.proofs.+get.Given as goal

abbrev pub decreases-get : goal.decreases-get
decreases-get l = length l.bytes.now
