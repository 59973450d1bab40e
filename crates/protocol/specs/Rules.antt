-- The rules of the calls: what each answers and leaves in every world, as the acting node sees it. A call's refusals are
-- tested in the order in which they stand, and a refusal changes nothing but what a failing block write changes.
use Rattle.std.specs.Prelude.{ℕ, ◌+◌, ◌-◌, min, Bool, false, cond, not, ◌&&◌, ◌||◌, List, [], ◌∷◌, map, length, Some, None, Ok, Err, Option, Result, ◌==◌, nat_le, nat_lt}
use Rattle.refusal.specs.declared.Refusal.{Refusal}
use Rattle.refusal.specs.declared.Refusal.TheVariants as refused
use Rattle.queue.specs.Queue.{oldest, younger}
use Rattle.device.specs.declared.DeviceFault.{DeviceFault}
use Rattle.device.specs.Disk.{Disk, write_answer, written, supplied, read_into}
use Rattle.link.specs.Channel.{Channel, emptied, sent, waiting as waiting_on}
use Rattle.bitmap.specs.Bits.{with}
use Rattle.card.specs.declared.generation.Generation.{Generation}
use Rattle.card.specs.Rows.{row_of}
use Rattle.card.specs.Generations.{bytes_of}
use Rattle.card.specs.Activities.{marked, entered}
use Rattle.card.specs.Reading.{Contents, card_answer}
use Rattle.message.specs.Frames.{shape_of, allowed, frame_of, Said}
use Rattle.message.specs.Messages.{says}
use Rattle.compare.specs.declared.Node.{Node}
use Rattle.compare.specs.declared.Node.TheVariants.{Zero, One}
use Rattle.compare.specs.declared.side.Role.TheVariants.{Primary, Secondary}
use Rattle.compare.specs.Nodes.{number_of}
use Rattle.compare.specs.Laws.{other}
use Rattle.compare.specs.Sides.{is_primary}
use Rattle.protocol.specs.declared.State.TheVariants.{Apart}
use Rattle.protocol.specs.declared.Standing.TheVariants as standing
use Rattle.protocol.specs.declared.WriteRecord.{WriteRecord}
use Rattle.protocol.specs.declared.Collected.{Collected}
use Rattle.protocol.specs.declared.Status.{Status}
use Rattle.protocol.specs.declared.Placement.{Placement}
use Rattle.protocol.specs.declared.Placement.TheVariants.{Active, Vacant, GivenUp}
use Rattle.protocol.specs.Words.{is_down, is_apart, connected, compares, mirrors, waits}
use Rattle.protocol.specs.World.{Memory, Site, World, way_from, data_blocks, in_turn, nothing, turned}
use Rattle.protocol.specs.Changes.{with_memory, with_disk, with_link, holding, with_generation, with_role, spent, advanced, founded, promoted, demoted}
use Rattle.protocol.specs.Activation.{extent_of, any_of, waiting, ended, marking, eight, with_record, placement_of, activated}

-- ---- answers

abbrev pub Done : Type 0
Done = Result (Unit {0}) Refusal

abbrev pub Outcome : Type 0 → Type 0
Outcome A = Result A Refusal × World

abbrev pub done : World → Outcome (Unit {0})
done w = (Ok tt, w)

-- of a call that concerns one node alone
abbrev pub Alone : Type 0 → Type 0
Alone A = Result A Refusal × Site

abbrev pub by_itself : {A : Type 0} → (Site → Alone A) → World → Outcome A
by_itself rule w = let o = rule w.me in (o.0, record { me = o.1; peer = w.peer; link = w.link })

-- the first refusal whose test holds
abbrev pub granted : List (Bool × Refusal) → Done
granted [] = Ok tt
granted (test ∷ tests) = cond test.0 (Err test.1) (granted tests)

-- what follows, unless it was refused
abbrev pub onward : {A : Type 0} → Done → World → (World → Outcome A) → Outcome A
onward (Ok _) w next = next w
onward (Err refusal) w next = (Err refusal, w)

abbrev pub unless : {A : Type 0} → List (Bool × Refusal) → World → (World → Outcome A) → Outcome A
unless tests w next = onward (granted tests) w next

-- ---- told of a cut

-- the waiting writes are finished alone, and the bitmap marks their blocks
abbrev pub parted : Memory → Memory
parted m =
    record {
      state = Apart;
      role = m.role;
      generation = m.generation;
      bits = marking m.records m.bits;
      slots = m.slots;
      order = m.order;
      records = map ended m.records;
      number = m.number;
      copied = m.copied;
      full = m.full;
    }

-- A Primary that has no bitmap generation goes on under a new generation, which is written first; dying at it, the node was never apart.
abbrev pub goes_on : Memory → Bool
goes_on m = is_primary m.role && m.generation.bitmap == 0

abbrev pub survives : {A : Type 0} → Result (Unit {0}) DeviceFault → A → A → A
survives (Ok _) alive dead = alive
survives (Err _) alive dead = dead

abbrev pub gone_on : Node → Site → Site
gone_on node s =
    let g = advanced node s.memory.generation in
    record {
      memory = survives (write_answer s.disk 0 (bytes_of g)) (parted (holding g s.memory)) nothing;
      disk = written s.disk 0 (bytes_of g);
    }

-- a node that is down, or apart already, has nothing to be told
abbrev pub told : Node → Site → Site
told node s =
    cond (connected s.memory.state) (cond (goes_on s.memory) (gone_on node s) (record { memory = parted s.memory; disk = s.disk })) s

-- ---- death, and block writes

-- the node keeps nothing but its card, the link is cut, and the peer is told
abbrev pub fallen : Node → World → World
fallen node w =
    record { me = record { memory = nothing; disk = w.me.disk }; peer = told (other node) w.peer; link = emptied w.link false }

-- A block write that the disk refuses is the death of its node. The disk is as the write left it: refused, as it was before.
unfoldable pub store_answer : ℕ → List ℕ → World → Done
store_answer i bytes w = survives (write_answer w.me.disk i bytes) (Ok tt) (Err refused.Died)

unfoldable pub stored : Node → ℕ → List ℕ → World → World
stored node i bytes w =
    let after = with_disk (written w.me.disk i bytes) w in
    survives (write_answer w.me.disk i bytes) after (fallen node after)

abbrev pub storing : {A : Type 0} → Node → ℕ → List ℕ → World → (World → Outcome A) → Outcome A
storing node i bytes w next = onward (store_answer i bytes w) (stored node i bytes w) next

-- a new generation record, on the card and then in memory
unfoldable pub recorded : Node → Generation → World → Outcome (Unit {0})
recorded node g w = storing node 0 (bytes_of g) w (λ after. done (with_generation g after))

abbrev pub recording : {A : Type 0} → Node → Generation → World → (World → Outcome A) → Outcome A
recording node g w next = onward (recorded node g w).0 (recorded node g w).1 next

-- ---- start, found, promote, demote

abbrev pub start_tests : Memory → List (Bool × Refusal)
start_tests m = (not (is_down m.state), refused.Up) ∷ []

-- after a crash of a Primary, each extent that was active may differ
abbrev pub bits_at_start : ℕ → Contents → List ℕ
bits_at_start blocks c = cond c.generation.primary (marked blocks c.slots c.bitmap) c.bitmap

abbrev pub started : ℕ → Contents → Memory
started blocks c =
    record {
      state = Apart;
      role = Secondary;
      generation = c.generation;
      bits = bits_at_start blocks c;
      slots = c.slots;
      order = in_turn;
      records = [];
      number = 1;
      copied = 0;
      full = false;
    }

abbrev pub starting : Node → Result Contents Refusal → World → Outcome (Unit {0})
starting node (Err refusal) w = (Err refusal, w)
starting node (Ok c) w =
    let m = started (data_blocks w.me.disk) c in
    cond c.generation.primary (storing node 2 m.bits w (λ after. done (with_memory m after))) (done (with_memory m w))

abbrev pub start : Node → World → Outcome (Unit {0})
start node w = unless (start_tests w.me.memory) w (starting node (card_answer w.me.disk (number_of node)))

abbrev pub found_tests : Memory → List (Bool × Refusal)
found_tests m =
    (is_down m.state, refused.Down)
    ∷ (not (is_apart m.state), refused.Held)
    ∷ (not (m.generation.current == 0), refused.Founded)
    ∷ (spent m.generation, refused.Spent)
    ∷ []

abbrev pub found : Node → World → Outcome (Unit {0})
found node w = unless (found_tests w.me.memory) w (λ w. recorded node (founded node w.me.memory.generation) w)

abbrev pub promote_tests : Memory → List (Bool × Refusal)
promote_tests m =
    (is_down m.state, refused.Down)
    ∷ (is_primary m.role, refused.Role)
    ∷ (not (is_apart m.state), refused.Held)
    ∷ (not m.generation.consistent, refused.Inconsistent)
    ∷ (spent m.generation, refused.Spent)
    ∷ []

abbrev pub promote : Node → World → Outcome (Unit {0})
promote node w =
    unless (promote_tests w.me.memory) w
    (λ w. recording node (promoted node w.me.memory.generation) w (λ after. done (with_role Primary after)))

abbrev pub demote_tests : Memory → List (Bool × Refusal)
demote_tests m =
    (is_down m.state, refused.Down)
    ∷ (not (is_primary m.role), refused.Role)
    ∷ (compares m.state || any_of waiting m.records, refused.Busy)
    ∷ []

abbrev pub demote : Node → World → Outcome (Unit {0})
demote node w =
    unless (demote_tests w.me.memory) w
    (λ w. storing node 2 w.me.memory.bits w
    (λ w. recording node (demoted w.me.memory.generation) w (λ after. done (with_role Secondary after))))

-- ---- power, kill, cut

abbrev pub power : ℕ → Site → Alone (Unit {0})
power supply s =
    cond (nat_le supply 1000001) (Ok tt, record { memory = s.memory; disk = supplied s.disk supply }) (Err refused.Measure, s)

abbrev pub up_tests : Memory → List (Bool × Refusal)
up_tests m = (is_down m.state, refused.Down) ∷ []

abbrev pub kill : Node → World → Outcome (Unit {0})
kill node w = unless (up_tests w.me.memory) w (λ w. done (fallen node w))

abbrev pub cut_tests : Channel → List (Bool × Refusal)
cut_tests link = (not link.is_open, refused.Nothing) ∷ []

-- both are told, whoever is up
abbrev pub severed : Node → World → World
severed node w = record { me = told node w.me; peer = told (other node) w.peer; link = emptied w.link false }

abbrev pub cut : Node → World → Outcome (Unit {0})
cut node w = unless (cut_tests w.link) w (λ w. done (severed node w))

-- ---- write

-- Data needs two free places on the way to the peer.
abbrev pub crowded : Node → Channel → Bool
crowded node link = nat_lt (link.capacity - length (waiting_on link (way_from node))) 2

abbrev pub write_tests : Node → ℕ → ℕ → Site → Channel → List (Bool × Refusal)
write_tests node block size s link =
    (not (size == 512), refused.Measure)
    ∷ (not (nat_lt block (data_blocks s.disk)), refused.Block)
    ∷ (is_down s.memory.state, refused.Down)
    ∷ (not (is_primary s.memory.role), refused.Role)
    ∷ (compares s.memory.state, refused.Busy)
    ∷ (eight s.memory.records, refused.Records)
    ∷ (nat_le 1000000000 s.memory.number, refused.Spent)
    ∷ (mirrors s.memory.state && crowded node link, refused.Way)
    ∷ []

-- the extent's slot, unless each has a waiting write
abbrev pub slotting : Option Placement → Result Placement Refusal
slotting (Some placement) = Ok placement
slotting None = Err refused.Slots

abbrev pub if_granted : {A : Type 0} → Done → Result A Refusal → Result A Refusal
if_granted (Ok _) next = next
if_granted (Err refusal) next = Err refusal

abbrev pub write_placement : Node → ℕ → ℕ → Site → Channel → Result Placement Refusal
write_placement node block size s link =
    if_granted (granted (write_tests node block size s link)) (slotting (placement_of s.memory (extent_of block)))

-- the activity record with the extent in the slot, on the card and then in memory
unfoldable pub slotted : Node → ℕ → ℕ → World → Outcome (Unit {0})
slotted node slot extent w =
    let slots = entered w.me.memory.slots slot extent in
    storing node 1 (row_of 512 slots) w (λ after. done (with_memory (activated slots slot after.me.memory) after))

-- An extent that gives up its slot has its bits written first.
unfoldable pub active : Node → ℕ → Placement → World → Outcome (Unit {0})
active node extent (Active slot) w = done (with_memory (activated w.me.memory.slots slot w.me.memory) w)
active node extent (Vacant slot) w = slotted node slot extent w
active node extent (GivenUp slot) w = storing node 2 w.me.memory.bits w (slotted node slot extent)

abbrev pub activating : {A : Type 0} → Node → ℕ → Placement → World → (World → Outcome A) → Outcome A
activating node extent placement w next = onward (active node extent placement w).0 (active node extent placement w).1 next

-- a message to the peer; what no frame can say, or the link does not take, is not sent
unfoldable pub posted : Node → ℕ → Said → Channel → Channel
posted node blocks said link =
    cond (allowed (shape_of blocks said.letter) said && nat_le (length (frame_of said)) 537) (sent link (way_from node) (frame_of said)) link

-- a write's record, and the bit of its block where it is finished alone; no number comes after 999,999,999
abbrev pub noting : ℕ → Memory → Memory
noting block m =
    record {
      state = m.state;
      role = m.role;
      generation = m.generation;
      bits = cond (mirrors m.state) m.bits (with m.bits block);
      slots = m.slots;
      order = m.order;
      records = with_record (record { number = m.number; block = block; standing = cond (mirrors m.state) standing.Waiting standing.Alone }) m.records;
      number = min (m.number + 1) 1000000000;
      copied = m.copied;
      full = m.full;
    }

-- while mirroring, the data goes to the peer too
abbrev pub mirroring : Node → ℕ → List ℕ → Site → Channel → Channel
mirroring node block bytes s link =
    cond (mirrors s.memory.state) (posted node (data_blocks s.disk) (says 68 (s.memory.number ∷ block ∷ []) bytes) link) link

-- the data is on the card
abbrev pub accepted : Node → ℕ → List ℕ → World → Outcome ℕ
accepted node block bytes w =
    (Ok w.me.memory.number, with_link (mirroring node block bytes w.me w.link) (with_memory (noting block w.me.memory) w))

abbrev pub writing : Node → ℕ → List ℕ → Result Placement Refusal → World → Outcome ℕ
writing node block bytes (Err refusal) w = (Err refusal, w)
writing node block bytes (Ok placement) w =
    activating node (extent_of block) placement w (λ w. storing node (block + 3) bytes w (accepted node block bytes))

abbrev pub write : Node → ℕ → List ℕ → World → Outcome ℕ
write node block bytes w = writing node block bytes (write_placement node block (length bytes) w.me w.link) w

-- ---- read, collect, status

abbrev pub read_tests : ℕ → ℕ → Site → List (Bool × Refusal)
read_tests block size s =
    (not (size == 512), refused.Measure)
    ∷ (not (nat_lt block (data_blocks s.disk)), refused.Block)
    ∷ (is_down s.memory.state, refused.Down)
    ∷ (not (is_primary s.memory.role), refused.Role)
    ∷ []

-- an answer, and what the caller's buffer then holds
abbrev pub Reading : Type 0
Reading = Done × List ℕ

abbrev pub copying : Done → ℕ → List ℕ → Disk → Reading
copying (Ok _) block buffer d = (Ok tt, read_into d (block + 3) buffer)
copying (Err refusal) block buffer d = (Err refusal, buffer)

abbrev pub read : ℕ → List ℕ → Site → Reading
read block buffer s = copying (granted (read_tests block (length buffer) s)) block buffer s.disk

abbrev pub handed : WriteRecord → Collected
handed r = record { number = r.number; standing = r.standing }

abbrev pub without_oldest : Memory → Memory
without_oldest m =
    record {
      state = m.state;
      role = m.role;
      generation = m.generation;
      bits = m.bits;
      slots = m.slots;
      order = m.order;
      records = younger m.records;
      number = m.number;
      copied = m.copied;
      full = m.full;
    }

abbrev pub collecting : Option WriteRecord → Site → Alone Collected
collecting None s = (Err refused.Nothing, s)
collecting (Some r) s =
    cond (waits r.standing) (Err refused.Waiting, s) (Ok (handed r), record { memory = without_oldest s.memory; disk = s.disk })

abbrev pub collect : Site → Alone Collected
collect s = cond (is_down s.memory.state) (Err refused.Down, s) (collecting (oldest s.memory.records) s)

abbrev pub status : Memory → Status
status m = record { state = m.state; role = m.role }

-- ---- which node

-- the pair, given as node 0 sees it, as a node sees it, and back
abbrev pub seen_by : Node → World → World
seen_by Zero w = w
seen_by One w = turned w

abbrev pub called : {A : Type 0} → Result Node Refusal → (Node → World → Outcome A) → World → Outcome A
called (Err refusal) call w = (Err refusal, w)
called (Ok node) call w = let o = call node (seen_by node w) in (o.0, seen_by node o.1)
