use Rattle.std.proofs.Common.{ℕ, ap, rules}
use borrow.Author.Tests.{tests}
use Rattle.card.specs.Activities.{extent_in}
use Rattle.protocol.specs.Activation.{vacant, vacant_slot}
use Rattle.memory.specs.Meaning.{slots_used}
use Rattle.memory.proofs.Seeking.{found}
use Rattle.memory.proofs.Memory.vacant_slot.Goals as goal

pub returns : goal.returns
unfolding vacant_slot
returns c =
    let m = c.args.self.now in
    found (λ s. vacant (extent_in m.activity.slots s)) (slots_used m) _ _ _ c.find.result (ap (λ (n : ℕ). record { start = 0; end = n }) c.slot_count.ensures) c.find.ensures.ran
    (λ x b q k. search (rules, tests))
