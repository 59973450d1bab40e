-- The row of fields after a frame's letter.
use Rattle.std.specs.Prelude.{ℕ, ◌+◌, ◌*◌, min, Bool, false, cond, List, [], length, Ok, Err, Result, ◌==◌}
use Rattle.field.specs.declared.FieldFault.{FieldFault}
use Rattle.row.specs.declared.Limit.{Limit}
use Rattle.row.specs.Rows.{row_from}
use Rattle.row.specs.Rows as row
use Rattle.message.specs.declared.FrameFault.{FrameFault}

abbrev pub fault_of : FieldFault → FrameFault
fault_of field = record { byte = field.at }

-- a number for each limit, and within it; one may stand in several fields
abbrev pub within : List Limit → List ℕ → Bool
within limits numbers = row.within false [] limits numbers

-- the numbers of a row, or the first byte of the first field that is wrong
abbrev pub in_frame : Result (List ℕ) FieldFault → Result (List ℕ) FrameFault
in_frame (Ok numbers) = Ok numbers
in_frame (Err field) = Err (fault_of field)

abbrev pub read_row : List Limit → List ℕ → ℕ → Result (List ℕ) FrameFault
read_row limits bytes at = in_frame (row_from bytes false at [] limits)

-- ---- the fields of a whole frame, which start after its letter

-- where the bytes start that stand after the fields
abbrev pub bytes_from : List Limit → ℕ
bytes_from limits = 1 + 12 * length limits

-- whether a frame is as long as is asked; else it is wrong at the end of the shorter of the two lengths
abbrev pub length_answer : ℕ → ℕ → Result (Unit {0}) FrameFault
length_answer held asked = cond (held == asked) (Ok tt) (Err (record { byte = min held asked }))

abbrev pub unless_fault : Result (Unit {0}) FrameFault → Result (List ℕ) FrameFault → Result (List ℕ) FrameFault
unless_fault (Ok _) next = next
unless_fault (Err fault) next = Err fault

-- A wrong length comes before a wrong field.
unfoldable pub read_fields : List Limit → ℕ → List ℕ → Result (List ℕ) FrameFault
read_fields limits size frame = unless_fault (length_answer (length frame) (bytes_from limits + size)) (read_row limits frame 1)
