use Rattle.std.proofs.Common.{◌≡◌, ℕ, Err, arith}
use Rattle.std.proofs.lemmas.Result.{err_from_is_err_and}
use Rattle.refusal.specs.declared.Refusal.{Refusal}
use Rattle.link.specs.Channel.{Channel}
use Rattle.compare.specs.declared.Node.{Node}
use Rattle.protocol.specs.World.{Site}
use Rattle.protocol.specs.Rules.{granted, read_tests, write_tests}
use Rattle.station.specs.Meaning.{site}
use Rattle.writing.proofs.may_write.Goals as goal

-- A write is tested as a read is, and then by tests of its own.
refused_as_a_read :
    (node : Node) (block size : ℕ) (s : Site) (link : Channel) (e : Refusal)
    → Err e ≡ granted (read_tests block size s) → Err e ≡ granted (write_tests node block size s link)
refused_as_a_read node block size s link e h = grind arith

pub returns-in_err-may_read : goal.returns-in_err-may_read
returns-in_err-may_read g c =
    let p = err_from_is_err_and c.from_residual.result c.from_residual.ensures.1 in
    let seat = c.args.seat.now in
    rw (p.1, p.2)
    (refused_as_a_read seat.node c.args.block c.args.size (site g.D.Device.means seat.me.now) (g.L.Link.means seat.link.now).channel _ c.in_err-may_read.ensures)
