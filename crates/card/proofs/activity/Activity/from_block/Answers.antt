use Rattle.std.proofs.Common.{◌≡◌, Ok, rules}
use Rattle.card.specs.Activities.{numbers_of, read_answer}
use Rattle.card.proofs.Activities.{answered, all_small}
use Rattle.card.proofs.activity.Activity.from_block.Goals as goal

pub returns-in_err-slots : goal.returns-in_err-slots
returns-in_err-slots c =
    let e : numbers_of c.from_residual.result ≡ read_answer c.args.block.now c.args.slots c.args.blocks = search rules in
    record { answer = e; law = answered c.args.block.now c.args.slots c.args.blocks _ e }

pub invariant_of-result-clause-small : goal.invariant_of-result-clause-small
invariant_of-result-clause-small c = all_small c.args.block.now c.args.slots c.args.blocks c.limits_at.result c.in_ok-slots.slots c.ranges.blocks.fits c.limits_at.ensures c.in_ok-slots.ensures.answer

pub returns : goal.returns
returns c =
    let e : Ok c.in_ok-slots.slots ≡ read_answer c.args.block.now c.args.slots c.args.blocks = search rules in
    record { answer = e; law = answered c.args.block.now c.args.slots c.args.blocks _ e }
