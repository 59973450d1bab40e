use Rattle.std.proofs.Common.{sym, ◌∙◌, rules}
use Rattle.field.proofs.Places.{puts_short, puts_moved, moved}
use Rattle.field.proofs.put_at.Goals as goal

pub returns-then-not-has_columns : goal.returns-then-not-has_columns
returns-then-not-has_columns c =
    let h =
    puts_short c.args.block.now c.args.at c.args.columns c.args.number
    (sym c.has_columns.ensures ∙ c.if-not-has_columns.true)
    in
    record { answer = h.0; after = h.1 }

pub returns : goal.returns
returns c =
    let e = c.put.ensures in
    let h =
    puts_moved c.args.block.now c.put.new.out c.args.at c.args.columns c.args.number c.put.result c.map_err.result
    (sym c.has_columns.ensures ∙ c.if-not-has_columns.false) (e.answer, e.after)
    (moved c.args.at c.put.result c.map_err.result _ (λ e f i. search rules) c.map_err.ensures.cases)
    in
    record { answer = h.0; after = h.1 }
