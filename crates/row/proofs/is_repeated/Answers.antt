use Rattle.std.proofs.Common.{rules}
use Rattle.row.specs.Rows.{stands, repeated}
use Rattle.row.proofs.is_repeated.Goals as goal

pub returns-then-number-ne0 : goal.returns-then-number-ne0
unfolding stands repeated
returns-then-number-ne0 c = search rules

pub returns-else-number-ne0 : goal.returns-else-number-ne0
unfolding stands repeated
returns-else-number-ne0 c = search rules
