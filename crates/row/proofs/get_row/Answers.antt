use Rattle.std.proofs.Common.{Err, sym, ap, ◌∙◌, arith}
use Rattle.std.proofs.lemmas.Result.{err_from_is_err_and}
use Rattle.row.proofs.Reading.{sofar_more, sofar_fault, sofar_all}
use Rattle.row.proofs.get_row.Goals as goal

pub returns-in_err-numbers : goal.returns-in_err-numbers
returns-in_err-numbers g c =
    let p = err_from_is_err_and c.from_residual.result c.from_residual.ensures.1 in
    let e = sym c.in_err-numbers.ensures in
    p.1 ∙ ap Err p.2
    ∙ sym (sofar_fault c.args.bytes.now c.args.once c.args.from c.args.limits.now c.loop-i.i c.loop-i.numbers c.in_err-numbers.field-0.0 (omega (arith, c.told-limits, c.loop-i-test.true)) c.loop-i.invariant e)

pub loop-i-preserved : goal.loop-i-preserved
loop-i-preserved g c =
    let e = sym c.in_ok-numbers.ensures in
    sofar_more c.args.bytes.now c.args.once c.args.from c.args.limits.now c.loop-i.i c.loop-i.numbers _ (omega (arith, c.told-limits, c.loop-i-test.true)) c.loop-i.invariant e

pub returns : goal.returns
returns g c = sym (sofar_all c.args.bytes.now c.args.once c.args.from c.args.limits.now c.loop-i.i c.loop-i.numbers (omega arith) c.loop-i.invariant)
