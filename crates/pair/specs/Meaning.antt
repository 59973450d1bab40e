-- What a pair means, and what a call does to it.
use Rattle.std.specs.Prelude.{◌≡◌}
use Rattle.device.specs.Disk as device
use Rattle.link.specs.Channel as link
use Rattle.protocol.specs.World.{World}
use Rattle.protocol.specs.Step.{Call, Answer, step}
use Rattle.station.specs.Meaning.{seat}
use Rattle.pair.specs.declared.Pair.{Pair}

module _ {A B L : Type 0} (zeros : A → device.Meaning) (ones : B → device.Meaning) (cable : L → link.SoundChannel) where
  -- the pair as node 0 sees it
  abbrev pub world : Pair A B L → World
  world p = seat zeros ones cable p.zero p.one p.link

  -- what the call answers, and what it leaves of both nodes, both devices and the link
  abbrev pub Does : Call → Pair A B L → Answer → Pair A B L → Type 0
  Does call p a q = ((step call (world p)).0 ≡ a) × ((step call (world p)).1 ≡ world q)
