-- What a device means: its blocks, each a list of 512 bytes, and its supply, the block writes that its power still carries.
use Rattle.std.specs.Prelude.{◌≡◌, ℕ, ◌-◌, ◌≤◌, cond, List, [], length, is_ok, Ok, Err, Result, ◌==◌, nat_le, nat_lt, slice_index_or, slice_set}
use Rattle.std.specs.List.{AllByRecursion}
use Rattle.device.specs.declared.DeviceFault.{DeviceFault}
use Rattle.device.specs.declared.DeviceFault.TheVariants.{Range, Died, Measure}

pub record Disk : Type 0 where
  pub blocks : List (List ℕ)
  pub supply : ℕ

abbrev pub Block : List ℕ → Type 0
Block b = length b ≡ 512

-- a supply is 0 to 1,000,000 block writes, or 1,000,001: mains, which never falls
pub record Sound (d : Disk) : Type 0 where
  pub whole : AllByRecursion Block d.blocks
  pub power : d.supply ≤ 1000001

-- a disk, with what holds of every disk
pub record Meaning : Type 0 where
  pub disk : Disk
  pub sound : Sound disk

-- the supply after one more block write
abbrev pub spent : ℕ → ℕ
spent s = cond (s == 1000001) s (s - 1)

-- of `count` blocks, whether block i can be read into, or written from, a buffer of n bytes
abbrev pub readable : ℕ → ℕ → ℕ → Result (Unit {0}) DeviceFault
readable count i n = cond (nat_lt i count) (cond (n == 512) (Ok tt) (Err Measure)) (Err Range)

abbrev pub writable : ℕ → ℕ → ℕ → ℕ → Result (Unit {0}) DeviceFault
writable count supply i n = cond (nat_lt i count) (cond (supply == 0) (Err Died) (cond (n == 512) (Ok tt) (Err Measure))) (Err Range)

-- what a read of block i into a buffer of n bytes answers, and what a buffer that held `old` then holds
unfoldable pub read_answer : Disk → ℕ → ℕ → Result (Unit {0}) DeviceFault
read_answer d i n = readable (length d.blocks) i n

unfoldable pub read_into : Disk → ℕ → List ℕ → List ℕ
read_into d i old = cond (is_ok (read_answer d i (length old))) (slice_index_or d.blocks i []) old

-- what a write of the bytes b to block i answers, and the disk after it
unfoldable pub write_answer : Disk → ℕ → List ℕ → Result (Unit {0}) DeviceFault
write_answer d i b = writable (length d.blocks) d.supply i (length b)

unfoldable pub written : Disk → ℕ → List ℕ → Disk
written d i b = cond (is_ok (write_answer d i b)) (record { blocks = slice_set d.blocks i b; supply = spent d.supply }) d

-- what setting the supply to s answers, and the disk after it
abbrev pub supply_answer : ℕ → Result (Unit {0}) DeviceFault
supply_answer s = cond (nat_le s 1000001) (Ok tt) (Err Measure)

abbrev pub supplied : Disk → ℕ → Disk
supplied d s = cond (nat_le s 1000001) (record { blocks = d.blocks; supply = s }) d
