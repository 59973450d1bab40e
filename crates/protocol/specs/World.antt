-- What the pair is, as data: two nodes, each with its memory and its disk, and the link between them.
use Rattle.std.specs.Prelude.{ℕ, ◌-◌, min, Bool, false, List, [], length, replicate}
use Rattle.device.specs.Disk.{Disk}
use Rattle.link.specs.Channel.{Channel, emptied}
use Rattle.link.specs.declared.Way.{Way}
use Rattle.link.specs.declared.Way.TheVariants.{ZeroToOne, OneToZero}
use Rattle.bitmap.specs.Bits.{empty}
use Rattle.card.specs.declared.generation.Generation.{Generation}
use Rattle.card.specs.Generations.{fresh_of}
use Rattle.compare.specs.declared.Node.{Node}
use Rattle.compare.specs.declared.Node.TheVariants.{Zero, One}
use Rattle.compare.specs.declared.side.Role.{Role}
use Rattle.compare.specs.declared.side.Role.TheVariants.{Secondary}
use Rattle.std.specs.List.{range_with_len}
use Rattle.protocol.specs.declared.State.{State}
use Rattle.protocol.specs.declared.State.TheVariants.{Down}
use Rattle.protocol.specs.declared.WriteRecord.{WriteRecord}

-- what a node keeps while it is up
pub record Memory : Type 0 where
  pub state : State
  pub role : Role
  -- the card's generation record
  pub generation : Generation
  -- the bytes of the quick-sync bitmap
  pub bits : List ℕ
  -- the card's activity record, and its slots from the least recently used to the most
  pub slots : List ℕ
  pub order : List ℕ
  -- the writes that were accepted and not collected, the oldest first
  pub records : List WriteRecord
  -- the number of the next write
  pub number : ℕ
  -- the next block to copy, and whether all blocks are to be copied
  pub copied : ℕ
  pub full : Bool

pub record Site : Type 0 where
  pub memory : Memory
  pub disk : Disk

-- the pair as one of its nodes sees it
pub record World : Type 0 where
  pub me : Site
  pub peer : Site
  pub link : Channel

-- the same pair from the other node's side
abbrev pub turned : World → World
turned w = record { me = w.peer; peer = w.me; link = w.link }

-- ---- the two nodes

-- the way on which a node sends
abbrev pub way_from : Node → Way
way_from Zero = ZeroToOne
way_from One = OneToZero

-- the number of data blocks: a disk's first three hold none, and no disk has more than 4,096
abbrev pub data_blocks : Disk → ℕ
data_blocks d = min (length d.blocks - 3) 4096

-- ---- a node that is down keeps nothing

unfoldable pub in_turn : List ℕ
in_turn = range_with_len 0 16

unfoldable pub no_slots : List ℕ
no_slots = replicate 16 0

abbrev pub nothing : Memory
nothing =
    record {
      state = Down;
      role = Secondary;
      generation = fresh_of 0 0;
      bits = empty;
      slots = no_slots;
      order = in_turn;
      records = [];
      number = 1;
      copied = 0;
      full = false;
    }

-- a new pair: both nodes are down, and the link is cut
abbrev pub new_pair : Disk → Disk → Channel → World
new_pair mine peers link =
    record { me = record { memory = nothing; disk = mine }; peer = record { memory = nothing; disk = peers }; link = emptied link false }
