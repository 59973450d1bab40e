use Rattle.std.proofs.Common.{◌≡◌, Ok, arith, lit<, rules}
use Rattle.card.specs.Generations.{generation_of, read_answer}
use Rattle.card.proofs.Generations.{answered, read_most}
use Rattle.card.proofs.generation.Generation.from_block.Goals as goal

pub returns-in_err-current : goal.returns-in_err-current
returns-in_err-current c =
    let e : c.from_residual.result ≡ read_answer c.args.block.now c.args.blocks = search rules in
    record { answer = e; law = answered c.args.block.now c.args.blocks _ e }

pub returns : goal.returns
returns c =
    let e : Ok (generation_of c.in_ok-current.field-0) ≡ read_answer c.args.block.now c.args.blocks = search rules in
    record { answer = e; law = answered c.args.block.now c.args.blocks _ e }

pub overflow_cast-result : goal.overflow_cast-result
overflow_cast-result c =
    let m = read_most c.args.block.now c.args.blocks c.limits_at.result c.in_ok-current.field-0 0 c.limits_at.ensures c.in_ok-current.ensures.answer (lit< tt) in
    omega arith

pub overflow_cast-result-2 : goal.overflow_cast-result-2
overflow_cast-result-2 c =
    let m = read_most c.args.block.now c.args.blocks c.limits_at.result c.in_ok-current.field-0 1 c.limits_at.ensures c.in_ok-current.ensures.answer (lit< tt) in
    omega arith

pub overflow_cast-result-3 : goal.overflow_cast-result-3
overflow_cast-result-3 c =
    let m = read_most c.args.block.now c.args.blocks c.limits_at.result c.in_ok-current.field-0 2 c.limits_at.ensures c.in_ok-current.ensures.answer (lit< tt) in
    omega arith

pub overflow_cast-result-4 : goal.overflow_cast-result-4
overflow_cast-result-4 c =
    let m = read_most c.args.block.now c.args.blocks c.limits_at.result c.in_ok-current.field-0 3 c.limits_at.ensures c.in_ok-current.ensures.answer (lit< tt) in
    omega arith

pub overflow_cast-result-5 : goal.overflow_cast-result-5
overflow_cast-result-5 c =
    let m = read_most c.args.block.now c.args.blocks c.limits_at.result c.in_ok-current.field-0 4 c.limits_at.ensures c.in_ok-current.ensures.answer (lit< tt) in
    omega arith

pub overflow_cast-result-6 : goal.overflow_cast-result-6
overflow_cast-result-6 c =
    let m = read_most c.args.block.now c.args.blocks c.limits_at.result c.in_ok-current.field-0 7 c.limits_at.ensures c.in_ok-current.ensures.answer (lit< tt) in
    omega arith

pub overflow_cast-result-7 : goal.overflow_cast-result-7
overflow_cast-result-7 c =
    let m = read_most c.args.block.now c.args.blocks c.limits_at.result c.in_ok-current.field-0 8 c.limits_at.ensures c.in_ok-current.ensures.answer (lit< tt) in
    omega arith
