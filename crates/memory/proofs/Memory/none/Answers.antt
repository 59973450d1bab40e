use Rattle.protocol.specs.World.{no_slots}
use Rattle.memory.proofs.Memory.none.Goals as goal

pub returns : goal.returns
unfolding no_slots
returns c = cc
