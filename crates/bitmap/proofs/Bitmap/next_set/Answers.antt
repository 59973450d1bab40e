use Rattle.std.proofs.Common.{◌≡◌, ◌+◌, ◌-◌, ◌/◌, length, sym, arith}
use Rattle.bitmap.proofs.Seeking.{found_in_rest, found_past, clear_rest, sought, sought_none}
use Rattle.bitmap.proofs.Bitmap.next_set.Goals as goal

pub returns-in_err-rest : goal.returns-in_err-rest
returns-in_err-rest c =
    let self = c.args.self.now in
    let p = c.in_err-rest.ensures.lookup in
    let l : length self.bytes ≡ 512 = omega arith in
    rw c.from_residual.ensures (sym (found_past self.bytes c.args.from (4096 - c.args.from) (omega arith)))

pub returns-then-rest-ne0 : goal.returns-then-rest-ne0
returns-then-rest-ne0 c =
    let self = c.args.self.now in
    let from = c.args.from in
    let l : length self.bytes ≡ 512 = omega arith in
    let p = c.in_ok-rest.ensures.lookup.3 in
    let k = p.0 in
    sym (found_in_rest self.bytes from (4096 - from) _ self.octets (p.1 0) c.if-rest-ne0.true (omega arith))

pub returns-in_err-k : goal.returns-in_err-k
returns-in_err-k c =
    let self = c.args.self.now in
    let from = c.args.from in
    let l : length self.bytes ≡ 512 = omega arith in
    let p = c.in_ok-rest.ensures.lookup.3 in
    let k = p.0 in
    rw c.from_residual-in_err-k.ensures
    (sym (sought_none self.bytes from (4096 - from) (from / 8 + 1) (512 - (from / 8 + 1)) (clear_rest self.bytes from _ (p.1 0) c.if-rest-ne0.false) (omega arith)
    (sym c.in_err-k.ensures) (omega arith)))

pub returns : goal.returns
returns c =
    let self = c.args.self.now in
    let from = c.args.from in
    let l : length self.bytes ≡ 512 = omega arith in
    let p = c.in_ok-rest.ensures.lookup.3 in
    let k = p.0 in
    sym (sought self.bytes from (4096 - from) (from / 8 + 1) (512 - (from / 8 + 1)) c.in_ok-k.field-0 self.octets
    (clear_rest self.bytes from _ (p.1 0) c.if-rest-ne0.false) (omega arith) (sym c.in_ok-k.ensures) (omega arith) (omega arith))
