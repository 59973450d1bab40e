use Rattle.std.proofs.Common.{◌∙◌}
use Rattle.std.proofs.lemmas.Result.{err_from_is_err_and}
use Rattle.field.proofs.Writing.{puts_none, puts_last, puts_more, puts_refused}
use Rattle.field.proofs.+put.Goals as goal
use Rattle.field.proofs.+put.Goals.{then-number-lt10, else-number-lt10+in_ok-put}

pub returns-in_default : goal.returns-in_default
returns-in_default t c = let h = puts_none c.args.out.now c.args.number c.in_default.ensures.cases in record { answer = h.0; after = h.1 }

pub returns : goal.returns
returns t c =
    let xs = c.args.out.now in
    let e = c.in-Some.ensures.cases.0 in
    elim c.if-number-lt10.branch [
      | then-number-lt10 w ↦
          let h = puts_last xs c.in-Some.before.now c.if-number-lt10.before _ c.args.number e w.if-number-lt10.true (w.before-is ∙ w.fill.ensures.after (λ y e. e)) in
          record { answer = h.0; after = h.1 }
      | else-number-lt10+in_ok-put w ↦
          let b = w.in_ok-put.ensures in
          let h = puts_more xs c.in-Some.before.now c.if-number-lt10.before _ c.args.number w.in_ok-put.field-0 e w.if-number-lt10.false (b.answer, w.before-is ∙ b.after) in
          record { answer = h.0; after = h.1 }
    ]

pub returns-in_err-put : goal.returns-in_err-put
returns-in_err-put t c =
    let p = err_from_is_err_and c.from_residual.result c.from_residual.ensures.1 in
    let b = c.in_err-put.ensures in
    let h =
    puts_refused c.args.out.now c.in-Some.before.now c.put.new.out _ c.args.number c.in_err-put.field-0.0 c.from_residual.result
    c.in-Some.ensures.cases.0 c.if-number-lt10.false (b.answer, b.after) (p.1 ∙ (cc p.2))
    in
    record { answer = h.0; after = h.1 }
