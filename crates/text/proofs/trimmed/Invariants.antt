use Rattle.std.proofs.Common.{◌≡◌, length}
use Rattle.text.specs.Text.{trimmed_of}
use Rattle.text.proofs.trimmed.Given as goal

abbrev pub invariant-loop-kept : goal.invariant-loop-kept
invariant-loop-kept l = trimmed_of l.kept ≡ trimmed_of l.bytes

abbrev pub decreases-loop-kept : goal.decreases-loop-kept
decreases-loop-kept l = length l.kept
