use Rattle.std.proofs.Common.{sym, refl, rules}
use Rattle.card.specs.Reading.{block_answer}
use Rattle.card.proofs.Exits.{block_read}
use Rattle.card.proofs.reading.read_block.Goals as goal

pub returns-in_err-read : goal.returns-in_err-read
unfolding block_answer
returns-in_err-read g c = search rules

pub returns : goal.returns
returns g c =
    let e = c.in_ok-read.ensures in
    sym (block_read (g.D.Device.means c.args.device.now).disk c.args.block _ c.read.new.buffer c.in_ok-read.field-0 refl e.answer e.bytes)
