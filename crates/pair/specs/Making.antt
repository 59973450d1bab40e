-- Of what a pair is made.
use Rattle.std.specs.Prelude.{◌≡◌, Bool, true, false, ◌&&◌, length, Ok, Err, Result, ◌==◌, nat_le}
use Rattle.device.specs.Disk as device
use Rattle.link.specs.Channel as link
use Rattle.protocol.specs.World.{new_pair}
use Rattle.pair.specs.declared.Pair.{Pair}
use Rattle.pair.specs.declared.Unpaired.{Unpaired}
use Rattle.pair.specs.Meaning.{world}

-- two devices of equal count, 4 to 4,099 blocks
abbrev pub fit : device.Disk → device.Disk → Bool
fit d e = length d.blocks == length e.blocks && (nat_le 4 (length d.blocks) && nat_le (length d.blocks) 4099)

module _ {A B L : Type 0} (mine : A → device.Meaning) (peers : B → device.Meaning) (cable : L → link.SoundChannel) where
  -- the new pair, on the devices as they were; or all that was lent, as it was
  abbrev pub Makes : A → B → L → Result (Pair A B L) (Unpaired A B L) → Type 0
  Makes a b l (Ok p) = (fit (mine a).disk (peers b).disk ≡ true) × (world mine peers cable p ≡ new_pair (mine a).disk (peers b).disk (cable l).channel)
  Makes a b l (Err u) = (fit (mine a).disk (peers b).disk ≡ false) × (u ≡ record { zero = a; one = b; link = l })
