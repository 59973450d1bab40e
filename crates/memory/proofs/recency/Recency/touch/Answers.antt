use Rattle.std.proofs.Common.{ap, ◌∙◌, arith}
use Rattle.protocol.specs.Activation.{touched, moved_from}
use Rattle.memory.proofs.Seeking.{place_of}
use Rattle.memory.proofs.Turning.{turned}
use Rattle.memory.proofs.recency.Recency.touch.Goals as goal

pub returns-in-Some : goal.returns-in-Some
unfolding touched
returns-in-Some c =
    let order = c.args.self.now.order in
    turned order c.in-Some.place 16 _ (omega arith) (omega (arith, c.in-Some.ensures.within)) c.rotate_left.ensures.after
    ∙ ap (moved_from order) (c.in-Some.ensures.first ∙ place_of order c.args.slot (omega arith))

pub returns-in_default : goal.returns-in_default
unfolding touched
returns-in_default c =
    let order = c.args.self.now.order in ap (moved_from order) (c.in_default.ensures.first ∙ place_of order c.args.slot (omega arith))
