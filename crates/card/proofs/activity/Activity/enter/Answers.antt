use Rattle.std.proofs.Common.{◌+◌, arith, le-ltb, lt-ltb}
use Rattle.std.proofs.lemmas.List.{set_past}
use Rattle.card.specs.Activities.{entered}
use Rattle.card.proofs.activity.Activity.enter.Goals as goal
use Rattle.card.proofs.activity.Activity.enter.Goals.{else-extent-lt-EXTENTS-via-then-extent-lt-EXTENTS+else-slot-lt-SLOTS, else-extent-lt-EXTENTS-via-else-extent-lt-EXTENTS}

pub returns-then-slot-lt-SLOTS : goal.returns-then-slot-lt-SLOTS
unfolding entered
returns-then-slot-lt-SLOTS c = simp (lt-ltb c.args.extent 64 (omega arith))

pub returns-else-extent-lt-EXTENTS : goal.returns-else-extent-lt-EXTENTS
unfolding entered
returns-else-extent-lt-EXTENTS c =
    elim c.else-extent-lt-EXTENTS.branch [
      | else-extent-lt-EXTENTS-via-then-extent-lt-EXTENTS+else-slot-lt-SLOTS w ↦
          simp (lt-ltb c.args.extent 64 (omega arith), set_past c.args.self.now.slots c.args.slot (c.args.extent + 1) (omega arith))
      | else-extent-lt-EXTENTS-via-else-extent-lt-EXTENTS w ↦ simp (le-ltb c.args.extent 64 (omega arith))
    ]
