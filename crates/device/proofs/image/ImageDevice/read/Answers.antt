use Rattle.std.proofs.Common.{◌+◌, ◌-◌, ◌*◌, arith}
use Rattle.std.proofs.lemmas.Result.{err_from_is_err_and}
use Rattle.device.specs.Makes.{carried, imaged}
use Rattle.device.proofs.Cases.{read_refused}
use Rattle.device.proofs.Copies.{unmarked_read, marked_read}
use Rattle.device.proofs.image.ImageDevice.read.Goals as goal

pub returns-in_err-may_read : goal.returns-in_err-may_read
returns-in_err-may_read c =
    let s = c.args.self.now in
    let e = err_from_is_err_and c.from_residual.result c.from_residual.ensures.1 in
    let w = read_refused (imaged s.factory.now s.area.now (carried s.supply.left)) c.args.block c.args.buffer.now _ _ _ _ c.count.ensures.meant c.in_err-may_read.ensures.answer e.2 e.1 in
    record { answer = w.0; bytes = w.1 }

pub returns-then-self-record-eq0 : goal.returns-then-self-record-eq0
returns-then-self-record-eq0 c =
    let s = c.args.self.now in
    let i = c.args.block in
    let t = c.in_ok-may_read.ensures.passed in
    let w = unmarked_read s.factory.now s.area.now c.args.buffer.now _ i (carried s.supply.left) (i * 512) (i * 512 + 512 - i * 512) (i * 513)
    c.copy_from_slice.ensures.after c.if-self-record-eq0.true (omega arith) (omega arith) t.1 (omega arith) (omega arith) (omega arith) in
    record { answer = w.0; bytes = w.1 }

pub returns-else-self-record-eq0 : goal.returns-else-self-record-eq0
returns-else-self-record-eq0 c =
    let s = c.args.self.now in
    let i = c.args.block in
    let t = c.in_ok-may_read.ensures.passed in
    let w = marked_read s.factory.now s.area.now c.args.buffer.now _ i (carried s.supply.left) (i * 513 + 1) (i * 513 + 513 - (i * 513 + 1)) (i * 513)
    c.copy_from_slice-else-self-record-eq0.ensures.after c.if-self-record-eq0.false (omega arith) (omega arith) t.1 (omega arith) (omega arith) (omega arith) in
    record { answer = w.0; bytes = w.1 }
