use Rattle.std.proofs.Common.{arith}
use Rattle.link.specs.Soundness.{ways_within}
use Rattle.link.proofs.hop.HopLink.count.Goals as goal

pub overflow_add-result : goal.overflow_add-result
overflow_add-result g c =
    let sound = (g.L.Link.means c.args.self.now.lower).sound in
    omega (arith, sound.within c.args.way, sound.most, ways_within c.args.self.now.lanes c.args.way)
