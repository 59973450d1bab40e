-- What a node's memory means: its parts as lists and numbers.
use Rattle.std.specs.Prelude.{ℕ, Bool, ◌&&◌, nat_lt}
use Rattle.card.specs.Activities.{extent_in}
use Rattle.protocol.specs.World as world
use Rattle.protocol.specs.Activation.{count_of, idle}
use Rattle.records.specs.Kept.{kept}
use Rattle.memory.specs.declared.Memory.{Memory}

abbrev pub meaning : Memory → world.Memory
meaning m =
    record {
      state = m.state;
      role = m.role;
      generation = m.generation;
      bits = m.bitmap.bytes;
      slots = m.activity.slots;
      order = m.recency.order;
      records = kept m.records;
      number = m.number;
      copied = m.copied;
      full = m.full;
    }

-- how many slots of the activity record are in use
abbrev pub slots_used : Memory → ℕ
slots_used m = count_of (meaning m)

-- no write waits in the slot's extent
abbrev pub is_idle : Memory → ℕ → Bool
is_idle m slot = idle (kept m.records) (extent_in m.activity.slots slot)

-- another extent may have the slot
abbrev pub can_give_up : Memory → ℕ → Bool
can_give_up m slot = nat_lt slot (slots_used m) && is_idle m slot
