-- A frame: a letter, its fields and its bytes, with nothing after them.
use Rattle.std.specs.Prelude.{ℕ, ◌+◌, ◌-◌, ◌/◌, Bool, true, false, cond, ◌&&◌, List, [], ◌∷◌, ◌++◌, length, drop, Some, None, Ok, Err, Option, Result, ◌==◌, nat_le, slice_index}
use Rattle.bitmap.specs.Bits.{bit, next}
use Rattle.message.specs.declared.FrameFault.{FrameFault}
use Rattle.row.specs.declared.Limit.{Limit}
use Rattle.row.specs.Rows.{fields_of}
use Rattle.message.specs.Rows.{within, bytes_from, read_fields}

-- ---- what a letter asks of its frame

abbrev pub up_to : ℕ → Limit
up_to most = record { least = 0; most = most }

abbrev pub identifier : Limit
identifier = up_to 1999999999

abbrev pub write_number : Limit
write_number = record { least = 1; most = 999999999 }

-- below the number of blocks: no number at all where that is 0
abbrev pub block_number : ℕ → Limit
block_number blocks = record { least = 1 - blocks; most = blocks - 1 }

abbrev pub report_limits : ℕ → List Limit
report_limits blocks = identifier ∷ identifier ∷ identifier ∷ identifier ∷ up_to 1 ∷ up_to 1 ∷ up_to 1 ∷ up_to blocks ∷ up_to 3 ∷ []

abbrev pub start_limits : List Limit
start_limits = identifier ∷ identifier ∷ identifier ∷ []

abbrev pub data_limits : ℕ → List Limit
data_limits blocks = write_number ∷ block_number blocks ∷ []

abbrev pub written_limits : List Limit
written_limits = write_number ∷ []

abbrev pub block_limits : ℕ → List Limit
block_limits blocks = block_number blocks ∷ []

-- The fields' limits, how many bytes stand after them, and how many of their bits may be set: from there up all are 0.
pub record Shape : Type 0 where
  pub limits : List Limit
  pub size : ℕ
  pub free : ℕ

abbrev pub plain : List Limit → ℕ → Shape
plain limits size = record { limits = limits; size = size; free = 4096 }

abbrev pub fields_only : List Limit → Shape
fields_only limits = plain limits 0

abbrev pub with_block : List Limit → Shape
with_block limits = plain limits 512

abbrev pub bits_shape : ℕ → Shape
bits_shape blocks = record { limits = []; size = 512; free = blocks }

-- The letters R, S, B, D, C, K, L, A, F and W.
unfoldable pub shape_of : ℕ → ℕ → Option Shape
shape_of blocks letter =
    cond (letter == 82) (Some (fields_only (report_limits blocks)))
    (cond (letter == 83) (Some (fields_only start_limits))
    (cond (letter == 66) (Some (bits_shape blocks))
    (cond (letter == 68) (Some (with_block (data_limits blocks)))
    (cond (letter == 67) (Some (with_block (block_limits blocks)))
    (cond (letter == 75) (Some (fields_only written_limits))
    (cond (letter == 76) (Some (fields_only (block_limits blocks)))
    (cond (letter == 65) (Some (fields_only []))
    (cond (letter == 70) (Some (fields_only []))
    (cond (letter == 87) (Some (fields_only [])) None)))))))))

-- ---- what a frame says

pub record Said : Type 0 where
  pub letter : ℕ
  pub numbers : List ℕ
  pub bytes : List ℕ

abbrev pub frame_of : Said → List ℕ
frame_of said = said.letter ∷ (fields_of said.numbers ++ said.bytes)

abbrev pub unless_stray : ℕ → Said → Option ℕ → Result Said FrameFault
unless_stray from said None = Ok said
unless_stray from said (Some i) = Err (record { byte = from + i / 8 })

abbrev pub bytes_answer : Shape → Said → Result Said FrameFault
bytes_answer shape said = unless_stray (bytes_from shape.limits) said (next (bit said.bytes) shape.free (4096 - shape.free))

abbrev pub fields_answer : ℕ → Shape → List ℕ → Result (List ℕ) FrameFault → Result Said FrameFault
fields_answer letter shape frame (Ok numbers) = bytes_answer shape (record { letter = letter; numbers = numbers; bytes = drop (bytes_from shape.limits) frame })
fields_answer letter shape frame (Err fault) = Err fault

unfoldable pub shaped_answer : ℕ → Shape → List ℕ → Result Said FrameFault
shaped_answer letter shape frame = fields_answer letter shape frame (read_fields shape.limits shape.size frame)

abbrev pub letter_answer : ℕ → List ℕ → Option Shape → Result Said FrameFault
letter_answer letter frame None = Err (record { byte = 0 })
letter_answer letter frame (Some shape) = shaped_answer letter shape frame

-- What every list of bytes is read as; an empty one has no letter.
unfoldable pub decode_answer : ℕ → List ℕ → Result Said FrameFault
decode_answer blocks frame = letter_answer (slice_index frame 0) frame (shape_of blocks (slice_index frame 0))

-- ---- writing a frame

abbrev pub is_none : Option ℕ → Bool
is_none None = true
is_none (Some i) = false

-- no bit of the bytes is set from `free` up
abbrev pub clear : ℕ → List ℕ → Bool
clear free bytes = is_none (next (bit bytes) free (4096 - free))

-- what a frame of this shape can say
unfoldable pub sayable : Shape → Said → Bool
sayable shape said = within shape.limits said.numbers && (length said.bytes == shape.size && clear shape.free said.bytes)

abbrev pub allowed : Option Shape → Said → Bool
allowed None said = false
allowed (Some shape) said = sayable shape said

-- It is written where the buffer has room for it; else nothing is.
unfoldable pub goes : Option Shape → Said → List ℕ → Bool
unfolding sayable
goes shape said out = allowed shape said && nat_le (length (frame_of said)) (length out)

unfoldable pub write_answer : Option Shape → Said → List ℕ → Option ℕ
unfolding goes
write_answer shape said out = cond (goes shape said out) (Some (length (frame_of said))) None

unfoldable pub write_into : Option Shape → Said → List ℕ → List ℕ
unfolding goes
write_into shape said out = cond (goes shape said out) (frame_of said ++ drop (length (frame_of said)) out) out

-- The length of the frame that stands at the front of the buffer, or none; and all of the buffer after.
abbrev pub encode_answer : ℕ → Said → List ℕ → Option ℕ
encode_answer blocks said out = write_answer (shape_of blocks said.letter) said out

abbrev pub encode_into : ℕ → Said → List ℕ → List ℕ
encode_into blocks said out = write_into (shape_of blocks said.letter) said out
