use Rattle.std.proofs.Common.{arith}
use Rattle.std.proofs.lemmas.Result.{err_from_is_err_and}
use Rattle.device.specs.Makes.{carried, imaged}
use Rattle.device.proofs.Cases.{write_refused}
use Rattle.device.proofs.Writes.{image_wrote}
use Rattle.device.proofs.image.ImageDevice.write.Goals as goal

pub returns-in_err-may_write : goal.returns-in_err-may_write
returns-in_err-may_write c =
    let s = c.args.self.now in
    let e = err_from_is_err_and c.from_residual.result c.from_residual.ensures.1 in
    let w = write_refused (imaged s.factory.now s.area.now (carried s.supply.left)) c.args.block c.args.bytes.now _ _ _ _ c.count.ensures.meant c.in_err-may_write.ensures.answer e.2 e.1 in
    record { answer = w.0; after = w.1 }

pub returns : goal.returns
returns c =
    let s = c.args.self.now in
    let t = c.in_ok-may_write.ensures.passed in
    let w = image_wrote s.factory.now s.area.now c.args.bytes.now _ c.args.block (carried s.supply.left) _ _ _ _ _ (omega arith) (omega arith) t.1 t.2 c.spend-self.ensures (omega arith) (omega arith) c.copy_from_slice.ensures.after (omega arith) (omega arith) in
    record { answer = w.0; after = w.1 }
