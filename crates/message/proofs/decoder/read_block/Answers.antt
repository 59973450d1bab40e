use Rattle.std.proofs.Common.{◌≡◌, length, arith, rules}
use Rattle.message.proofs.Decoding.{block_fields}
use Rattle.message.proofs.decoder.read_block.Goals as goal

pub returns : goal.returns
returns g c letter =
    let n : length c.args.limits ≡ g.row.N = search rules in
    block_fields letter c.args.limits c.args.frame.now _ _ _ c.in_ok-numbers.ensures c.in_ok-check_length.ensures (omega arith) (omega arith)
