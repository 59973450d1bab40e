use Rattle.std.proofs.Common.{sym, ◌∙◌, rules}
use Rattle.field.proofs.Places.{reads_short, reads_moved, moved}
use Rattle.field.proofs.get_at.Goals as goal

pub returns-then-not-has_columns : goal.returns-then-not-has_columns
returns-then-not-has_columns c =
    reads_short c.args.block.now c.args.at c.args.columns c.args.most (sym c.has_columns.ensures ∙ c.if-not-has_columns.true)

pub returns : goal.returns
returns c =
    reads_moved c.args.block.now c.args.at c.args.columns c.args.most c.get.result c.map_err.result
    (sym c.has_columns.ensures ∙ c.if-not-has_columns.false) c.get.ensures.answer
    (moved c.args.at c.get.result c.map_err.result _ (λ e f i. search rules) c.map_err.ensures.cases)
