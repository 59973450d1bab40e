-- What a message says, whose bytes lie in the frame that it was read from.
use Rattle.std.specs.Prelude.{ℕ, Bool, true, false, List, [], ◌∷◌, Ok, Err, Result, ◌==◌}
use Rattle.std.specs.Borrow.{Bor}
use Rattle.refusal.specs.declared.Refusal.{Refusal}
use Rattle.refusal.specs.declared.Refusal.TheVariants.{Frame}
use Rattle.compare.specs.declared.side.Role.{Role}
use Rattle.compare.specs.declared.side.Role.TheVariants.{Secondary, Primary}
use Rattle.compare.specs.declared.side.Side.{Side}
use Rattle.compare.specs.Sides.{role_where}
use Rattle.message.specs.declared.FrameFault.{FrameFault}
use Rattle.message.specs.declared.Message.{Message}
use Rattle.message.specs.declared.Message.TheVariants.{Report, Start, Bits, Data, Copy, Written, Landed, Adopted, Finish, Whole}
use Rattle.message.specs.Frames.{Said}

abbrev pub role_number : Role → ℕ
role_number Secondary = 0
role_number Primary = 1

abbrev pub role_of : ℕ → Role
role_of number = role_where (number == 1)

abbrev pub flag : Bool → ℕ
flag false = 0
flag true = 1

abbrev pub says : ℕ → List ℕ → List ℕ → Said
says letter numbers bytes = record { letter = letter; numbers = numbers; bytes = bytes }

abbrev pub report_numbers : Side → ℕ → List ℕ
report_numbers side word =
    side.current ∷ side.bitmap ∷ side.recent ∷ side.older ∷ flag side.consistent ∷ flag side.primary ∷ role_number side.role ∷ side.bits ∷ word ∷ []

abbrev pub said_by : Message → Said
said_by (Report side word) = says 82 (report_numbers side word) []
said_by (Start current recent older) = says 83 (current ∷ recent ∷ older ∷ []) []
said_by (Bits bytes) = says 66 [] bytes.now
said_by (Data write block bytes) = says 68 (write ∷ block ∷ []) bytes.now
said_by (Copy block bytes) = says 67 (block ∷ []) bytes.now
said_by (Written write) = says 75 (write ∷ []) []
said_by (Landed block) = says 76 (block ∷ []) []
said_by Adopted = says 65 [] []
said_by Finish = says 70 [] []
said_by Whole = says 87 [] []

abbrev pub answered : Result Message FrameFault → Result Said FrameFault
answered (Ok message) = Ok (said_by message)
answered (Err fault) = Err fault

-- what a frame of this letter says whose fields were read, and whose bytes
abbrev pub row_said : ℕ → Result (List ℕ) FrameFault → Result Said FrameFault
row_said letter (Ok numbers) = Ok (says letter numbers [])
row_said letter (Err fault) = Err fault

abbrev pub block_said : ℕ → Result (List ℕ × Bor (List ℕ)) FrameFault → Result Said FrameFault
block_said letter (Ok read) = Ok (says letter read.0 read.1.now)
block_said letter (Err fault) = Err fault

abbrev pub refusal_of : FrameFault → Refusal
refusal_of fault = Frame fault.byte
