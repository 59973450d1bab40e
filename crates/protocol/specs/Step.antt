-- The calls as one list, and what each answers and leaves. The world is given as node 0 sees it.
use Rattle.std.specs.Prelude.{ℕ, List, Ok, Err, Result}
use Rattle.refusal.specs.declared.Refusal.{Refusal}
use Rattle.compare.specs.declared.Node.{Node}
use Rattle.compare.specs.declared.Node.TheVariants.{Zero}
use Rattle.compare.specs.Nodes.{node_numbered}
use Rattle.protocol.specs.declared.Collected.{Collected}
use Rattle.protocol.specs.declared.Status.{Status}
use Rattle.protocol.specs.World.{World}
use Rattle.protocol.specs.Rules as rule
use Rattle.protocol.specs.Rules.{Outcome, by_itself, seen_by, called}

pub data Call : Type 0 where
  power : ℕ → ℕ → Call
  kill : ℕ → Call
  start : ℕ → Call
  found : ℕ → Call
  promote : ℕ → Call
  demote : ℕ → Call
  cut : Call
  write : ℕ → ℕ → List ℕ → Call
  read : ℕ → ℕ → List ℕ → Call
  collect : ℕ → Call
  status : ℕ → Call

-- a read's answer has the bytes of the buffer
pub data Answer : Type 0 where
  done : Answer
  numbered : ℕ → Answer
  filled : List ℕ → Answer
  collected : Collected → Answer
  standing : Status → Answer
  refused : Refusal → Answer

abbrev pub said : {A : Type 0} → (A → Answer) → Result A Refusal → Answer
said told (Ok a) = told a
said told (Err refusal) = refused refusal

abbrev pub said_done : Result (Unit {0}) Refusal → Answer
said_done r = said (λ _. done) r

abbrev pub answering : {A : Type 0} → (A → Answer) → Outcome A → Answer × World
answering told o = (said told o.0, o.1)

-- what a read answers and what the buffer then holds; it changes nothing else
abbrev pub read_by : Result Node Refusal → ℕ → List ℕ → World → rule.Reading
read_by (Err refusal) block buffer w = (Err refusal, buffer)
read_by (Ok node) block buffer w = rule.read block buffer (seen_by node w).me

abbrev pub status_of : Result Node Refusal → World → Result Status Refusal
status_of (Err refusal) w = Err refusal
status_of (Ok node) w = Ok (rule.status (seen_by node w).me.memory)

abbrev pub step : Call → World → Answer × World
step (power node supply) w = answering (λ _. done) (called (node_numbered node) (λ _. by_itself (rule.power supply)) w)
step (kill node) w = answering (λ _. done) (called (node_numbered node) rule.kill w)
step (start node) w = answering (λ _. done) (called (node_numbered node) rule.start w)
step (found node) w = answering (λ _. done) (called (node_numbered node) rule.found w)
step (promote node) w = answering (λ _. done) (called (node_numbered node) rule.promote w)
step (demote node) w = answering (λ _. done) (called (node_numbered node) rule.demote w)
step cut w = answering (λ _. done) (rule.cut Zero w)
step (write node block bytes) w = answering numbered (called (node_numbered node) (λ n. rule.write n block bytes) w)
step (read node block buffer) w =
    let reading = read_by (node_numbered node) block buffer w in (said (λ _. filled reading.1) reading.0, w)
step (collect node) w = answering collected (called (node_numbered node) (λ _. by_itself rule.collect) w)
step (status node) w = (said standing (status_of (node_numbered node) w), w)
