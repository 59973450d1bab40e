-- Reading a card: its three metadata blocks are checked in turn.
use Rattle.std.specs.Prelude.{ℕ, List, [], length, Ok, Err, Result, slice_index_or}
use Rattle.refusal.specs.declared.Refusal.{Refusal}
use Rattle.device.specs.Disk as device
use Rattle.device.specs.Faults as device-faults
use Rattle.bitmap.specs.Bytes as bitmap
use Rattle.card.specs.declared.generation.Generation.{Generation}
use Rattle.card.specs.declared.fault.MetaFault.{MetaFault}
use Rattle.card.specs.declared.fault.NodeFault.{NodeFault}
use Rattle.card.specs.declared.reading.Card.{Card}
use Rattle.card.specs.Faults.{of_generation, of_activity, of_bitmap, at_node, refusal_of}
use Rattle.card.specs.Generations as generation
use Rattle.card.specs.Activities as activity
use Rattle.card.specs.Creation.{data_blocks}

-- what a card holds: its generation record, the numbers in its slots and the bytes of its bitmap
pub record Contents : Type 0 where
  pub generation : Generation
  pub slots : List ℕ
  pub bitmap : List ℕ

abbrev pub contents : Card → Contents
contents card = record { generation = card.generation; slots = card.activity.slots; bitmap = card.bitmap.bytes }

-- the next step, unless there is a fault, which is told as another
abbrev pub unless : {A B E F : Type 0} → (E → F) → Result A E → (A → Result B F) → Result B F
unless told (Ok a) next = next a
unless told (Err fault) next = Err (told fault)

abbrev pub mapped : {A B E : Type 0} → (A → B) → Result A E → Result B E
mapped f (Ok a) = Ok (f a)
mapped f (Err e) = Err e

abbrev pub contents_of : Result Card MetaFault → Result Contents MetaFault
contents_of r = mapped contents r

abbrev pub told_of : Result Card Refusal → Result Contents Refusal
told_of r = mapped contents r

-- ---- the three blocks, each read by what those before it say

abbrev pub with_bitmap : List ℕ → ℕ → Generation → List ℕ → Result Contents MetaFault
with_bitmap two blocks g slots = unless of_bitmap (bitmap.read_answer two blocks) (λ bits. Ok (record { generation = g; slots = slots; bitmap = bits }))

abbrev pub with_activity : List ℕ → List ℕ → ℕ → Generation → Result Contents MetaFault
with_activity one two blocks g = unless of_activity (activity.read_answer one g.slots blocks) (with_bitmap two blocks g)

unfoldable pub decode_answer : List ℕ → List ℕ → List ℕ → ℕ → Result Contents MetaFault
decode_answer zero one two blocks = unless of_generation (generation.read_answer zero blocks) (with_activity one two blocks)

abbrev pub at_node_of : {A : Type 0} → ℕ → Result A MetaFault → Result A NodeFault
at_node_of node (Ok a) = Ok a
at_node_of node (Err fault) = Err (at_node node fault)

abbrev pub decoded : ℕ → ℕ → List ℕ → List ℕ → List ℕ → Result Contents Refusal
decoded node blocks zero one two = unless refusal_of (at_node_of node (decode_answer zero one two blocks)) Ok

-- ---- from a disk

unfoldable pub block_answer : device.Disk → ℕ → Result (List ℕ) Refusal
block_answer d i = unless device-faults.refusal_of (device.read_answer d i 512) (λ _. Ok (slice_index_or d.blocks i []))

-- a refusal is passed on as it is
abbrev pub same : Refusal → Refusal
same refusal = refusal

abbrev pub from_two : device.Disk → ℕ → ℕ → List ℕ → List ℕ → Result Contents Refusal
from_two d node blocks zero one = unless same (block_answer d 2) (decoded node blocks zero one)

abbrev pub from_one : device.Disk → ℕ → ℕ → List ℕ → Result Contents Refusal
from_one d node blocks zero = unless same (block_answer d 1) (from_two d node blocks zero)

abbrev pub from_zero : device.Disk → ℕ → ℕ → Result Contents Refusal
from_zero d node blocks = unless same (block_answer d 0) (from_one d node blocks)

unfoldable pub card_answer : device.Disk → ℕ → Result Contents Refusal
card_answer d node = unless same (data_blocks (length d.blocks)) (from_zero d node)
