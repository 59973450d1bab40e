use Rattle.std.proofs.Common.{◌≡◌, drop}
use Rattle.card.specs.Activities.{marked}
use Rattle.card.proofs.activity.Activity.mark.Given as goal

abbrev pub invariant-loop-number : goal.invariant-loop-number
invariant-loop-number l = marked l.blocks l.self.slots l.initial.map.bytes ≡ marked l.blocks (drop l.number-index l.self.slots) l.map.bytes
