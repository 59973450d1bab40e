use Rattle.std.proofs.Common.{refl}
use Rattle.queue.proofs.Rounds.{put_done}
use Rattle.queue.proofs.Ring.put.Goals as goal

pub returns : goal.returns
returns g c =
    let t = put_done c.args.slots.now c.args.self.now _ c.args.x _ _ c.count-waiting.ensures.all c.if-waiting-slots.false c.place-place.ensures.at refl refl in
    record { answer = t.0; after = t.1 }
