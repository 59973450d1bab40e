use Rattle.std.proofs.Common.{refl, rules}
use borrow.Author.Tests.{tests}
use Rattle.card.specs.Activities.{extent_in}
use Rattle.protocol.specs.Activation.{holds, slot_of}
use Rattle.memory.proofs.Seeking.{found}
use Rattle.memory.proofs.Memory.slot_of.Goals as goal

pub returns : goal.returns
unfolding slot_of
returns c =
    let m = c.args.self.now in
    found (λ s. holds c.args.extent (extent_in m.activity.slots s)) 16 _ _ _ c.find.result refl c.find.ensures.ran (λ x b q k. search (rules, tests))
