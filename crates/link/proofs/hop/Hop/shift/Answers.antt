use Rattle.std.proofs.Common.{sym, rules}
use Rattle.std.proofs.lemmas.Bool.{ltb-true}
use Rattle.link.specs.Makes.{ways_of}
use Rattle.link.specs.Soundness.{ways_within}
use Rattle.link.proofs.Hops.{shifted}
use Rattle.link.proofs.hop.Hop.shift.Goals as goal

pub returns-in-Some : goal.returns-in-Some
returns-in-Some g c =
    let s = c.args.self.now in
    let room = ltb-true _ _ (sym c.if-not-lower_takes.ensures) in
    shifted _ _ _ (ways_of s.lanes) c.args.way c.in-Some.frame _ room (ways_within s.lanes c.args.way) c.in-Some.ensures.answer c.take.ensures.after (search rules) c.send.ensures.after
