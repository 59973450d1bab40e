use Rattle.std.proofs.Common.{rules}
use Rattle.row.specs.Rows.{field_answer}
use Rattle.row.proofs.get_field.Goals as goal

pub returns-in_err-number : goal.returns-in_err-number
unfolding field_answer
returns-in_err-number c = search rules

pub returns-then-number-limit : goal.returns-then-number-limit
unfolding field_answer
returns-then-number-limit c = search rules

pub returns : goal.returns
unfolding field_answer
returns c = search rules
