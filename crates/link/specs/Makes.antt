-- What the makes of link mean, by what they hold.
use Rattle.std.specs.Prelude.{◌≡◌, ℕ, ◌+◌, ◌<◌, Bool, true, cond, List, ◌++◌, map, length, take, Some, None, Option, Ok, Err, Result, nat_le, nat_lt}
use Rattle.queue.specs.declared.Ring.{Ring}
use Rattle.queue.specs.Queue.{contents}
use Rattle.link.specs.declared.LinkFault.{LinkFault}
use Rattle.link.specs.declared.LinkFault.TheVariants.{Full}
use Rattle.link.specs.declared.Way.{Way}
use Rattle.link.specs.declared.frame.Frame.{Frame}
use Rattle.link.specs.declared.lanes.Lane.{Lane}
use Rattle.link.specs.declared.lanes.Lanes.{Lanes}
use Rattle.link.specs.Channel.{Channel, Ways, queued, waiting}

abbrev pub bytes_of : Frame → List ℕ
bytes_of f = take f.len f.bytes

-- the bytes of an answer that may be a frame
abbrev pub framed : Option Frame → Option (List ℕ)
framed None = None
framed (Some f) = Some (bytes_of f)

abbrev pub frames_of : List Frame → Ring → List (List ℕ)
frames_of slots ring = map bytes_of (contents slots ring)

-- what waits in one lane, and in both
abbrev pub lane_frames : {n : ℕ} → Lane n → List (List ℕ)
lane_frames l = frames_of l.frames l.ring

abbrev pub ways_of : {n : ℕ} → Lanes n → Ways
ways_of l = record { ahead = lane_frames l.ahead; back = lane_frames l.back }

-- whether there is room for one more among so many places
abbrev pub room_answer : ℕ → ℕ → Result (Unit {0}) LinkFault
room_answer count places = cond (nat_lt count places) (Ok tt) (Err Full)

-- the slot link: eight places each way
abbrev pub slot_channel : Bool → Lanes 8 → Channel
slot_channel is_open lanes = record { is_open = is_open; waits = ways_of lanes; capacity = 8 }

-- more frames behind those of a channel, and four more places
abbrev pub behind : Ways → Ways → Ways
behind q own = record { ahead = q.ahead ++ own.ahead; back = q.back ++ own.back }

abbrev pub extended : Channel → Ways → Channel
extended c own = record { is_open = c.is_open; waits = behind c.waits own; capacity = c.capacity + 4 }

-- A shift over an open lower link c: what waits is the same, and where the lower link still has room, there is room among the hop's own.
pub record Shifted (c : Channel) (own : Ways) (y : Way) (after : Channel) (left : Ways) : Type 0 where
  pub same : c.is_open ≡ true → extended after left ≡ extended c own
  pub room : c.is_open ≡ true → length (waiting after y) < after.capacity → length (queued left y) < 4

-- A hop, by what its lower link means and its own frames.
-- No hop is made over a capacity above 999,996; one that stood there would mean its lower link alone.
unfoldable pub hop_channel : Channel → Ways → Channel
hop_channel c own = cond (nat_le c.capacity 999996) (extended c own) c
