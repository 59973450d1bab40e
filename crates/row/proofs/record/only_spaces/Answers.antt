use Rattle.std.proofs.Common.{drop, sym, ap, ◌∙◌}
use Rattle.row.proofs.Spaces.{stray, spaces-first}
use Rattle.row.proofs.record.only_spaces.Goals as goal

pub returns : goal.returns
returns c = ap (stray c.args.from) c.in_default.ensures ∙ sym (spaces-first c.args.from (drop c.args.from c.args.block.now))

pub returns-in-Some : goal.returns-in-Some
returns-in-Some c = ap (stray c.args.from) c.in-Some.ensures ∙ sym (spaces-first c.args.from (drop c.args.from c.args.block.now))
