use Rattle.message.specs.Messages.{says}
use Rattle.message.proofs.Encoding.{refused_bytes}
use Rattle.message.proofs.encoder.write_block.Goals as goal

pub returns-then-bytes-ne-BLOCK : goal.returns-then-bytes-ne-BLOCK
returns-then-bytes-ne-BLOCK g c =
    let r = refused_bytes c.args.limits 512 (says c.args.letter c.args.numbers c.args.bytes.now) c.args.out.now c.if-bytes-ne-BLOCK.true in
    record { answer = r.answer_is; after = r.after_is }
