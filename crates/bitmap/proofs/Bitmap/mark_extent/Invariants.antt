use Rattle.std.proofs.Common.{◌-◌, ◌^◌}
use Rattle.bitmap.proofs.Rows.{Joined, share}
use Rattle.bitmap.proofs.Bitmap.mark_extent.Given as goal

abbrev pub invariant-loop-k : goal.invariant-loop-k
invariant-loop-k l = Joined l.from l.k (λ i. 2 ^ share l.blocks i - 1) l.fn.self.bytes l.byte-items
