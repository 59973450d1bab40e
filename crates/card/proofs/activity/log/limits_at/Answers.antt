use Rattle.std.proofs.Common.{◌∙◌}
use Rattle.card.proofs.Activities.{limits_filled}
use Rattle.card.proofs.activity.log.limits_at.Goals as goal

pub returns : goal.returns
returns c =
    limits_filled c.args.slots c.args.blocks c.min-used.result c.from-most.result c.fill.new.self c.min-used.ensures
    (c.from-most.ensures ∙ c.extents.ensures) (c.fill.ensures.after (λ y e. e))
