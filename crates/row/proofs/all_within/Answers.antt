use Rattle.std.proofs.Common.{[], length, ◌∙◌}
use Rattle.std.proofs.lemmas.Bool.{ne_eqb}
use Rattle.row.proofs.Reading.{within_differs, within_zip}
use Rattle.row.proofs.all_within.Goals as goal

pub returns-then-numbers-limits : goal.returns-then-numbers-limits
returns-then-numbers-limits c =
    c.all_taken.ensures ∙ within_zip [] c.args.limits.now c.args.numbers.now c.if-numbers-limits.true

pub returns-else-numbers-limits : goal.returns-else-numbers-limits
returns-else-numbers-limits c =
    ne_eqb (length c.args.numbers.now) (length c.args.limits.now) c.if-numbers-limits.false ∙ within_differs [] c.args.limits.now c.args.numbers.now c.if-numbers-limits.false
