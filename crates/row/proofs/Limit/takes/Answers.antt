use Rattle.std.proofs.Common.{rules}
use Rattle.field.specs.Fields.{room}
use Rattle.row.specs.Rows.{takes}
use Rattle.row.proofs.Limit.takes.Goals as goal

pub returns-then-contains : goal.returns-then-contains
unfolding takes room
returns-then-contains c = search rules

pub returns-else-contains : goal.returns-else-contains
unfolding takes room
returns-else-contains c = search rules
