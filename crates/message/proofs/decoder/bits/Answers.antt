use Rattle.std.proofs.Common.{sym, ap, ◌∙◌, arith, rules, of_calls}
use Rattle.std.proofs.lemmas.Result.{err_from_is_err_and}
use Rattle.bitmap.specs.Bytes.{bytes_of}
use Rattle.message.proofs.Decoding.{fault_bits, bits_said, stray_said, stray_told, map_read, fault_below}
use Rattle.message.proofs.decoder.bits.Goals as goal

pub map_err-requires : goal.map_err-requires
map_err-requires c fault e a r =
    let b = fault_below c.args.blocks c.args.frame.now _ c.in_ok-bytes.bytes.now fault (c.in_ok-bytes.ensures 66) (sym (ap bytes_of e) ∙ c.from_bytes.ensures) in
    search (rules, arith)

pub returns-in_err-bytes : goal.returns-in_err-bytes
returns-in_err-bytes c =
    let r = err_from_is_err_and c.from_residual.result c.from_residual.ensures.1 in
    rw (r.1, r.2) (fault_bits c.args.blocks c.args.frame.now _ (c.in_err-bytes.ensures 66))

pub returns-in_err-map_err : goal.returns-in_err-map_err
returns-in_err-map_err c =
    let t = stray_told c.from_bytes.result c.map_err.result _ (λ e f q. search (rules, of_calls)) c.map_err.ensures.cases c.in_err-map_err.was in
    let r = err_from_is_err_and c.from_residual-in_err-map_err.result c.from_residual-in_err-map_err.ensures.1 in
    rw (r.1, r.2, t.2) (stray_said c.args.blocks c.args.frame.now _ c.in_ok-bytes.bytes.now t.0 (c.in_ok-bytes.ensures 66) (t.1 ∙ c.from_bytes.ensures))

pub returns : goal.returns
returns c =
    let r = map_read c.from_bytes.result (search rules) in
    bits_said c.args.blocks c.args.frame.now _ c.in_ok-bytes.bytes.now _ (c.in_ok-bytes.ensures 66) (r.1 ∙ c.from_bytes.ensures)
