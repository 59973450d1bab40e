-- What a link means: open or closed, the frames that wait each way, the oldest first, and a capacity.
use Rattle.std.specs.Prelude.{ℕ, ◌≤◌, Bool, cond, ◌&&◌, List, [], ◌∷◌, ◌++◌, length, is_ok, Ok, Err, Result, nat_le, nat_lt}
use Rattle.std.specs.List.{AllByRecursion}
use Rattle.queue.specs.Queue.{younger}
use Rattle.link.specs.declared.LinkFault.{LinkFault}
use Rattle.link.specs.declared.LinkFault.TheVariants.{Size, Closed, Full}
use Rattle.link.specs.declared.Way.{Way}
use Rattle.link.specs.declared.Way.TheVariants.{ZeroToOne, OneToZero}

-- ahead from node 0 to node 1, back from node 1 to node 0
pub record Ways : Type 0 where
  pub ahead : List (List ℕ)
  pub back : List (List ℕ)

pub record Channel : Type 0 where
  pub is_open : Bool
  pub waits : Ways
  pub capacity : ℕ

abbrev pub queued : Ways → Way → List (List ℕ)
queued q ZeroToOne = q.ahead
queued q OneToZero = q.back

-- the same but for one way
abbrev pub changed : Ways → Way → List (List ℕ) → Ways
changed q ZeroToOne fs = record { ahead = fs; back = q.back }
changed q OneToZero fs = record { ahead = q.ahead; back = fs }

-- one frame more at a way's end, and one less at its front
abbrev pub one_more : Ways → Way → List ℕ → Ways
one_more q y f = changed q y (queued q y ++ f ∷ [])

abbrev pub one_less : Ways → Way → Ways
one_less q y = changed q y (younger (queued q y))

abbrev pub nothing : Ways
nothing = record { ahead = []; back = [] }

abbrev pub waiting : Channel → Way → List (List ℕ)
waiting c y = queued c.waits y

-- the same but for what waits
abbrev pub holding : Channel → Ways → Channel
holding c q = record { is_open = c.is_open; waits = q; capacity = c.capacity }

-- a frame has 1 to 537 bytes
abbrev pub is_frame : List ℕ → Bool
is_frame f = nat_le 1 (length f) && nat_le (length f) 537

abbrev pub IsFrame : List ℕ → Type 0
IsFrame f = (1 ≤ length f) × (length f ≤ 537)

-- what holds of every link
pub record Sound (c : Channel) : Type 0 where
  pub least : 4 ≤ c.capacity
  pub most : c.capacity ≤ 1000000
  pub within : (y : Way) → length (waiting c y) ≤ c.capacity
  pub frames : (y : Way) → AllByRecursion IsFrame (waiting c y)

pub record SoundChannel : Type 0 where
  pub channel : Channel
  pub sound : Sound channel

-- a send: the length is looked at first, then whether the link is open, then whether there is room
unfoldable pub send_answer : Channel → Way → List ℕ → Result (Unit {0}) LinkFault
send_answer c y f = cond (is_frame f) (cond c.is_open (cond (nat_lt (length (waiting c y)) c.capacity) (Ok tt) (Err Full)) (Err Closed)) (Err Size)

-- a frame that is not refused waits behind the others of its way
unfoldable pub sent : Channel → Way → List ℕ → Channel
sent c y f = cond (is_ok (send_answer c y f)) (holding c (one_more c.waits y f)) c

-- a take: the oldest of a way leaves
abbrev pub taken : Channel → Way → Channel
taken c y = holding c (one_less c.waits y)

-- opened or cut: nothing waits
abbrev pub emptied : Channel → Bool → Channel
emptied c b = record { is_open = b; waits = nothing; capacity = c.capacity }
