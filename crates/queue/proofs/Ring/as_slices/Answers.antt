use Rattle.queue.proofs.Rounds.{split_done}
use Rattle.queue.proofs.Ring.as_slices.Goals as goal

pub returns : goal.returns
returns g c =
    let t = split_done c.args.slots.now _ _ c.args.self.now _ _ c.count-waiting.ensures.all (rw (← c.start.ensures.at) c.split_at.ensures.back) (rw (← c.start.ensures.at) c.split_at.ensures.front) c.min-ahead.ensures in
    record { all = t.0; first = t.1 }
