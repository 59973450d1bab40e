-- One part of the world changed, and all else as it was.
use Rattle.std.specs.Prelude.{ℕ, ◌+◌, ◌*◌, Bool, true, false, cond, ◌==◌, nat_lt}
use Rattle.device.specs.Disk.{Disk}
use Rattle.card.specs.declared.generation.Generation.{Generation}
use Rattle.compare.specs.declared.Node.{Node}
use Rattle.compare.specs.declared.side.Role.{Role}
use Rattle.compare.specs.Nodes.{number_of}
use Rattle.link.specs.Channel.{Channel}
use Rattle.protocol.specs.World.{Memory, World}

-- ---- the acting node

abbrev pub with_memory : Memory → World → World
with_memory m w = record { me = record { memory = m; disk = w.me.disk }; peer = w.peer; link = w.link }

abbrev pub with_disk : Disk → World → World
with_disk d w = record { me = record { memory = w.me.memory; disk = d }; peer = w.peer; link = w.link }

abbrev pub with_link : Channel → World → World
with_link c w = record { me = w.me; peer = w.peer; link = c }

abbrev pub holding : Generation → Memory → Memory
holding g m =
    record {
      state = m.state;
      role = m.role;
      generation = g;
      bits = m.bits;
      slots = m.slots;
      order = m.order;
      records = m.records;
      number = m.number;
      copied = m.copied;
      full = m.full;
    }

abbrev pub acting : Role → Memory → Memory
acting role m =
    record {
      state = m.state;
      role = role;
      generation = m.generation;
      bits = m.bits;
      slots = m.slots;
      order = m.order;
      records = m.records;
      number = m.number;
      copied = m.copied;
      full = m.full;
    }

abbrev pub with_generation : Generation → World → World
with_generation g w = with_memory (holding g w.me.memory) w

abbrev pub with_role : Role → World → World
with_role role w = with_memory (acting role w.me.memory) w

-- ---- generation records

-- serials are given out up to 999,999,999
abbrev pub spent : Generation → Bool
spent g = cond (nat_lt g.serial 999999999) false true

-- a generation of the node's own, under a new identifier; its bitmap generation is given
abbrev pub renewed : Node → Generation → ℕ → Generation
renewed node g since =
    record {
      current = 2 * (g.serial + 1) + number_of node;
      bitmap = since;
      history_1 = g.history_1;
      history_2 = g.history_2;
      serial = g.serial + 1;
      consistent = g.consistent;
      primary = g.primary;
      slots = g.slots;
      blocks = g.blocks;
    }

abbrev pub flagged : Bool → Bool → Generation → Generation
flagged consistent primary g =
    record {
      current = g.current;
      bitmap = g.bitmap;
      history_1 = g.history_1;
      history_2 = g.history_2;
      serial = g.serial;
      consistent = consistent;
      primary = primary;
      slots = g.slots;
      blocks = g.blocks;
    }

-- the next generation, from which on the bitmap counts what the node writes alone; none where the serials are spent
abbrev pub advanced : Node → Generation → Generation
advanced node g = cond (spent g) g (renewed node g g.current)

-- the first generation
abbrev pub founded : Node → Generation → Generation
founded node g = flagged true g.primary (cond (spent g) g (renewed node g g.bitmap))

-- a Primary's, which counts in its bitmap what it writes alone
abbrev pub promoted : Node → Generation → Generation
promoted node g = flagged g.consistent true (cond (g.bitmap == 0) (advanced node g) g)

abbrev pub demoted : Generation → Generation
demoted g = flagged g.consistent false g
