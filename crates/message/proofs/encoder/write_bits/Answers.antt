use Rattle.std.proofs.Common.{[], sym, ◌∙◌}
use Rattle.message.specs.Messages.{says}
use Rattle.message.proofs.Encoding.{unread, clear_bits, written_bits}
use Rattle.message.proofs.encoder.write_bits.Goals as goal

pub returns-in_err-ok : goal.returns-in_err-ok
returns-in_err-ok c =
    let r = unread c.args.bytes.now c.args.out.now c.args.blocks _ c.from_bytes.ensures (sym c.ok.ensures.value ∙ c.in_err-ok.was) in
    record { answer = c.from_residual.ensures ∙ r.answer_is; after = r.after_is }

pub returns : goal.returns
returns c =
    let k = clear_bits c.args.bytes.now c.args.blocks _ _ c.from_bytes.ensures (sym c.ok.ensures.value ∙ c.in_ok-ok.was) in
    let r = written_bits (says 66 [] c.args.bytes.now) c.args.out.now _ c.args.blocks _ k c.write_block.ensures.answer c.write_block.ensures.after in
    record { answer = r.answer_is; after = r.after_is }
