use Rattle.std.proofs.Common.{◌≡◌, length, ap, ◌∙◌, arith}
use Rattle.bitmap.proofs.Packing.{length-packed}
use Rattle.bitmap.proofs.Rows.{joined_none, joined_more, marks_extent, marks_no_extent}
use Rattle.bitmap.proofs.Bitmap.mark_extent.Goals as goal

pub loop-k-init : goal.loop-k-init
loop-k-init c = joined_none _ _ _ c.args.self.now.bytes (omega arith) (omega arith)

pub loop-k-preserved : goal.loop-k-preserved
loop-k-preserved c = joined_more _ c.loop-k.k _ c.args.self.now.bytes c.loop-k.byte-items c.below.result (omega arith) c.below.ensures c.loop-k.invariant

pub returns-after-loop-k : goal.returns-after-loop-k
returns-after-loop-k c =
    let self = c.args.self.now in
    let l : length self.bytes ≡ 512 = omega arith in
    (marks_extent 512 c.args.extent c.args.blocks _ _ c.loop-k.k self.bytes c.loop-k.byte-items l self.octets (omega arith) (omega arith) (omega arith) (omega arith) c.loop-k.invariant).0

pub invariant_of-self : goal.invariant_of-self
invariant_of-self c =
    let self = c.args.self.now in
    let l : length self.bytes ≡ 512 = omega arith in
    let h = marks_extent 512 c.args.extent c.args.blocks _ _ c.loop-k.k self.bytes c.loop-k.byte-items l self.octets (omega arith) (omega arith) (omega arith) (omega arith) c.loop-k.invariant in
    record { whole = ap length h.0 ∙ length-packed 512 _; octets = h.1 }

pub returns-else-extent-lt-EXTENTS : goal.returns-else-extent-lt-EXTENTS
returns-else-extent-lt-EXTENTS c =
    let self = c.args.self.now in let l : length self.bytes ≡ 512 = omega arith in marks_no_extent 512 c.args.extent c.args.blocks self.bytes l self.octets (omega arith)
