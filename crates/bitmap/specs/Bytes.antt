-- Reading a bitmap from bytes.
use Rattle.std.specs.Prelude.{ℕ, ◌-◌, ◌/◌, min, cond, List, length, Some, None, Ok, Err, Option, Result, ◌==◌}
use Rattle.bitmap.specs.declared.Bitmap.{Bitmap}
use Rattle.bitmap.specs.declared.BitmapFault.{BitmapFault}
use Rattle.bitmap.specs.Bits.{bit, next}

-- the bytes of the bitmap that was read
abbrev pub bytes_of : Result Bitmap BitmapFault → Result (List ℕ) BitmapFault
bytes_of (Ok map) = Ok map.bytes
bytes_of (Err fault) = Err fault

-- a bit from the number of blocks up makes its byte wrong
abbrev pub unless_stray : List ℕ → Option ℕ → Result (List ℕ) BitmapFault
unless_stray bytes None = Ok bytes
unless_stray bytes (Some i) = Err (record { byte = i / 8 })

-- Bytes of another length are wrong at the end of the shorter of the two lengths.
abbrev pub read_answer : List ℕ → ℕ → Result (List ℕ) BitmapFault
read_answer bytes blocks = cond (length bytes == 512) (unless_stray bytes (next (bit bytes) blocks (4096 - blocks))) (Err (record { byte = min (length bytes) 512 }))
