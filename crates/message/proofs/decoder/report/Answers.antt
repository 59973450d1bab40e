use Rattle.message.proofs.Decoding.{report_read}
use Rattle.message.proofs.decoder.report.Goals as goal

pub returns : goal.returns
returns c =
    let l = c.report_limits.ensures in
    let r = c.from.ensures in
    simp r (report_read c.args.frame.now _ c.args.blocks (rw l at c.in_ok-current.ensures 82))
