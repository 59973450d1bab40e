-- The states of a node and the standings of a write, by number and name.
use Rattle.std.specs.Prelude.{ℕ, Bool, true, false, List, codes}
use Rattle.protocol.specs.declared.State.{State}
use Rattle.protocol.specs.declared.State.TheVariants.{Down, Apart, Comparing, AwaitBits, AwaitStart, Starting, Source, Ending, Target, Joined}
use Rattle.protocol.specs.declared.Standing.{Standing}
use Rattle.protocol.specs.declared.Standing.TheVariants.{Waiting, Alone, Both}

abbrev pub state_number : State → ℕ
state_number Down = 0
state_number Apart = 1
state_number Comparing = 2
state_number AwaitBits = 3
state_number AwaitStart = 4
state_number Starting = 5
state_number Source = 6
state_number Ending = 7
state_number Target = 8
state_number Joined = 9

abbrev pub state_name : State → List ℕ
state_name Down = codes "Down"
state_name Apart = codes "Apart"
state_name Comparing = codes "Comparing"
state_name AwaitBits = codes "AwaitBits"
state_name AwaitStart = codes "AwaitStart"
state_name Starting = codes "Starting"
state_name Source = codes "Source"
state_name Ending = codes "Ending"
state_name Target = codes "Target"
state_name Joined = codes "Joined"

-- ---- groups of states

abbrev pub is_down : State → Bool
is_down Down = true
is_down Apart = false
is_down Comparing = false
is_down AwaitBits = false
is_down AwaitStart = false
is_down Starting = false
is_down Source = false
is_down Ending = false
is_down Target = false
is_down Joined = false

abbrev pub is_apart : State → Bool
is_apart Down = false
is_apart Apart = true
is_apart Comparing = false
is_apart AwaitBits = false
is_apart AwaitStart = false
is_apart Starting = false
is_apart Source = false
is_apart Ending = false
is_apart Target = false
is_apart Joined = false

-- there is a peer at the other end of the link
abbrev pub connected : State → Bool
connected Down = false
connected Apart = false
connected Comparing = true
connected AwaitBits = true
connected AwaitStart = true
connected Starting = true
connected Source = true
connected Ending = true
connected Target = true
connected Joined = true

-- who copies to whom is being found out
abbrev pub compares : State → Bool
compares Down = false
compares Apart = false
compares Comparing = true
compares AwaitBits = true
compares AwaitStart = true
compares Starting = false
compares Source = false
compares Ending = false
compares Target = false
compares Joined = false

-- a write goes to the peer as well
abbrev pub mirrors : State → Bool
mirrors Down = false
mirrors Apart = false
mirrors Comparing = false
mirrors AwaitBits = false
mirrors AwaitStart = false
mirrors Starting = true
mirrors Source = true
mirrors Ending = true
mirrors Target = false
mirrors Joined = true

-- ---- standings

abbrev pub standing_name : Standing → List ℕ
standing_name Waiting = codes "waiting"
standing_name Alone = codes "alone"
standing_name Both = codes "both"

abbrev pub waits : Standing → Bool
waits Waiting = true
waits Alone = false
waits Both = false
