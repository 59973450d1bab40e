-- The activity record, a card's block 1: sixteen slots, each 0 while it is empty, and else 1 plus its extent.
use Rattle.std.specs.Prelude.{◌≡◌, ℕ, ◌+◌, ◌-◌, ◌/◌, min, true, cond, List, [], ◌∷◌, ◌++◌, replicate, Some, None, Ok, Err, Option, Result, ◌==◌, nat_lt, slice_index, slice_set}
use Rattle.bitmap.specs.Bits.{with_extent}
use Rattle.field.specs.declared.FieldFault.{FieldFault}
use Rattle.row.specs.declared.Limit.{Limit}
use Rattle.row.specs.Rows.{within}
use Rattle.row.specs.Records.{row_of, record_answer}
use Rattle.card.specs.declared.activity.Activity.{Activity}
use Rattle.card.specs.declared.fault.RecordFault.{RecordFault}
use Rattle.card.specs.Faults.{in_activity}

-- an extent is 64 data blocks, and the last may have fewer
abbrev pub extents_of : ℕ → ℕ
extents_of blocks = (blocks + 63) / 64

-- the extent in a slot, where it holds one
abbrev pub extent_in : List ℕ → ℕ → Option ℕ
extent_in slots k = cond (slice_index slots k == 0) None (Some (slice_index slots k - 1))

-- an extent, of the 64 that there are, in a slot
unfoldable pub entered : List ℕ → ℕ → ℕ → List ℕ
entered slots k extent = cond (nat_lt extent 64) (slice_set slots k (extent + 1)) slots

abbrev pub up_to : ℕ → Limit
up_to most = record { least = 0; most = most }

-- every slot in use is 0 or 1 plus an extent that has data blocks, and all others are 0
abbrev pub limits_at : ℕ → ℕ → List Limit
limits_at slots blocks = replicate (min slots 16) (up_to (extents_of blocks)) ++ replicate (16 - min slots 16) (up_to 0)

abbrev pub told : Result (List ℕ) FieldFault → Result (List ℕ) (RecordFault 1)
told (Ok numbers) = Ok numbers
told (Err fault) = Err (in_activity fault)

-- No extent stands in two slots.
abbrev pub read_answer : List ℕ → ℕ → ℕ → Result (List ℕ) (RecordFault 1)
read_answer block slots blocks = told (record_answer block (limits_at slots blocks) true)

-- the slots of the record that was read
abbrev pub numbers_of : Result Activity (RecordFault 1) → Result (List ℕ) (RecordFault 1)
numbers_of (Ok activity) = Ok activity.slots
numbers_of (Err fault) = Err fault

-- every record written reads back as itself, and no other bytes read as it
pub record RoundTrip (block : List ℕ) (slots blocks : ℕ) (answer : Result (List ℕ) (RecordFault 1)) : Type 0 where
  pub sound : (numbers : List ℕ) → answer ≡ Ok numbers → (within true [] (limits_at slots blocks) numbers ≡ true) × (block ≡ row_of 512 numbers)
  pub complete : (numbers : List ℕ) → within true [] (limits_at slots blocks) numbers ≡ true → block ≡ row_of 512 numbers → answer ≡ Ok numbers

-- a bitmap with the extents of these slots marked
unfoldable pub marked : ℕ → List ℕ → List ℕ → List ℕ
marked blocks [] bytes = bytes
marked blocks (number ∷ numbers) bytes = marked blocks numbers (cond (number == 0) bytes (with_extent bytes (number - 1) blocks))
