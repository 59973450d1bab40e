use Rattle.std.proofs.Common.{◌+◌, ◌-◌, ◌*◌, arith}
use Rattle.std.proofs.lemmas.Result.{err_from_is_err_and}
use Rattle.device.specs.Makes.{carried, flat}
use Rattle.device.proofs.Cases.{read_refused}
use Rattle.device.proofs.Copies.{flat_read}
use Rattle.device.proofs.flat.FlatDevice.read.Goals as goal

pub returns-in_err-may_read : goal.returns-in_err-may_read
returns-in_err-may_read c =
    let s = c.args.self.now in
    let e = err_from_is_err_and c.from_residual.result c.from_residual.ensures.1 in
    let w = read_refused (flat s.area.now (carried s.supply.left)) c.args.block c.args.buffer.now _ _ _ _ c.count.ensures.meant c.in_err-may_read.ensures.answer e.2 e.1 in
    record { answer = w.0; bytes = w.1 }

pub returns : goal.returns
returns c =
    let s = c.args.self.now in
    let i = c.args.block in
    let t = c.in_ok-may_read.ensures.passed in
    let w = flat_read s.area.now c.args.buffer.now _ i (carried s.supply.left) (i * 512) (i * 512 + 512 - i * 512) c.copy_from_slice.ensures.after (omega arith) t.1 (omega arith) (omega arith) in
    record { answer = w.0; bytes = w.1 }
