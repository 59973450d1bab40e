-- Making a card: its three metadata blocks are written in turn.
use Rattle.std.specs.Prelude.{ℕ, ◌+◌, ◌-◌, cond, ◌&&◌, List, [], ◌∷◌, length, replicate, Ok, Err, Result, ◌==◌, nat_le}
use Rattle.refusal.specs.declared.Refusal.{Refusal}
use Rattle.refusal.specs.declared.Refusal.TheVariants.{Measure}
use Rattle.device.specs.declared.DeviceFault.{DeviceFault}
use Rattle.device.specs.Disk.{Disk, write_answer, written}
use Rattle.device.specs.Faults.{refusal_of}
use Rattle.bitmap.specs.Bits.{empty}
use Rattle.card.specs.Rows.{row_of}
use Rattle.card.specs.Generations.{bytes_of, fresh_of}

-- a card has 4 to 4,099 blocks, and the first three hold no data
abbrev pub data_blocks : ℕ → Result ℕ Refusal
data_blocks count = cond (nat_le 4 count && nat_le count 4099) (Ok (count - 3)) (Err Measure)

-- 4 to 16 slots, and 0 asks for 7
abbrev pub slots_in_use : ℕ → Result ℕ Refusal
slots_in_use slots = cond (slots == 0) (Ok 7) (cond (nat_le 4 slots && nat_le slots 16) (Ok slots) (Err Measure))

-- ---- blocks written in turn, from block i on; a refused write ends them, and the disk is as those before it left it

abbrev pub onward : {A : Type 0} → Result (Unit {0}) DeviceFault → A → A → A
onward (Ok _) done stopped = done
onward (Err _) done stopped = stopped

abbrev pub refused_as : Result (Unit {0}) DeviceFault → Result (Unit {0}) Refusal → Result (Unit {0}) Refusal
refused_as (Ok _) next = next
refused_as (Err fault) next = Err (refusal_of fault)

unfoldable pub writes_answer : Disk → ℕ → List (List ℕ) → Result (Unit {0}) Refusal
writes_answer d i [] = Ok tt
writes_answer d i (b ∷ bs) = refused_as (write_answer d i b) (writes_answer (written d i b) (i + 1) bs)

unfoldable pub writes_after : Disk → ℕ → List (List ℕ) → Disk
writes_after d i [] = d
writes_after d i (b ∷ bs) = onward (write_answer d i b) (writes_after (written d i b) (i + 1) bs) d

-- ---- a new card

-- what its metadata blocks hold: fields that are 0 but for the slots and the blocks, empty slots, and no bit set
abbrev pub blocks_of : ℕ → ℕ → List (List ℕ)
blocks_of used blocks = bytes_of (fresh_of used blocks) ∷ row_of 512 (replicate 16 0) ∷ empty ∷ []

-- where both measures are right, f of them; else otherwise
abbrev pub measured : {A : Type 0} → Result ℕ Refusal → Result ℕ Refusal → (ℕ → ℕ → A) → A → A
measured (Ok used) (Ok blocks) f otherwise = f used blocks
measured (Ok used) (Err _) f otherwise = otherwise
measured (Err _) (Ok blocks) f otherwise = otherwise
measured (Err _) (Err _) f otherwise = otherwise

unfoldable pub create_answer : Disk → ℕ → Result (Unit {0}) Refusal
unfolding writes_answer
create_answer d slots = measured (slots_in_use slots) (data_blocks (length d.blocks)) (λ used blocks. writes_answer d 0 (blocks_of used blocks)) (Err Measure)

unfoldable pub created : Disk → ℕ → Disk
unfolding writes_after
created d slots = measured (slots_in_use slots) (data_blocks (length d.blocks)) (λ used blocks. writes_after d 0 (blocks_of used blocks)) d
