use Rattle.std.proofs.Common.{◌+◌, ◌-◌, sym, refl, ap}
use Rattle.queue.specs.Queue.{oldest, younger}
use Rattle.queue.proofs.Rounds.{take_done}
use Rattle.queue.proofs.Ring.take.Goals as goal

pub returns : goal.returns
returns g c =
    let t = take_done _ c.args.self.now (record { first = c.start.result + 1; used = c.count.result - 1 }) _ _ _ c.in_ok-oldest.ensures c.count.ensures.all c.start.ensures.at refl refl in
    record { answer = sym (ap oldest t); after = sym (ap younger t) }
