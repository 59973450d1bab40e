use Rattle.std.proofs.Common.{get_or, refl, rules}
use borrow.Author.Tests.{tests}
use Rattle.protocol.specs.Activation.{idle_place}
use Rattle.memory.specs.Meaning.{can_give_up}
use Rattle.memory.proofs.Seeking.{found}
use Rattle.memory.proofs.Memory.idle_place.Goals as goal

pub returns : goal.returns
unfolding idle_place
returns c =
    let m = c.args.self.now in
    found (λ p. can_give_up m (get_or m.recency.order p 0)) 16 _ _ _ c.find.result refl c.find.ensures.ran (λ x b q k. search (rules, tests))
