use Rattle.std.proofs.Common.{◌<◌, ◌≤◌, length, sym, arith}
use Rattle.std.proofs.lemmas.List.{set_past}
use Rattle.std.proofs.lemmas.Bool.{lt-ltb, le-ltb}
use Rattle.queue.specs.Queue.{contents}
use Rattle.queue.proofs.Rounds.{replace_done}
use Rattle.queue.proofs.Ring.replace.Goals as goal

pub returns-then-i-count : goal.returns-then-i-count
returns-then-i-count g c =
    let h : length (contents c.args.slots.now c.args.self.now) ≤ c.args.i = omega arith in
    record { answer = sym (le-ltb _ _ h); after = sym (set_past _ _ _ h) }

pub returns : goal.returns
returns g c =
    let h : c.args.i < length (contents c.args.slots.now c.args.self.now) = omega arith in
    record { answer = sym (lt-ltb _ _ h); after = replace_done _ _ _ _ _ h c.place-place.ensures.at }
