-- A record: a row that has a block of 512 bytes to itself, with spaces after it.
use Rattle.std.specs.Prelude.{◌≡◌, ℕ, ◌+◌, ◌-◌, ◌*◌, ◌≤◌, min, Bool, true, cond, List, [], ◌∷◌, ◌++◌, length, drop, replicate, Ok, Err, Result, ◌==◌}
use Rattle.field.specs.declared.FieldFault.{FieldFault}
use Rattle.row.specs.declared.Limit.{Limit}
use Rattle.row.specs.Rows.{fields_of, fits_row, within, unless_fault, row_from}

unfoldable pub row_of : ℕ → List ℕ → List ℕ
unfolding fields_of
row_of size numbers = fields_of numbers ++ replicate (size - 12 * length numbers) 32

unfoldable pub written_as : List ℕ → List ℕ
unfolding row_of fits_row
written_as numbers = cond (fits_row (replicate 512 32) 0 numbers) (row_of 512 numbers) (replicate 512 32)

-- whether the bytes, the first of which stands at the byte `at`, are spaces, or else the first that is not
unfoldable pub spaces_from : ℕ → List ℕ → Result (Unit {0}) FieldFault
spaces_from at [] = Ok tt
spaces_from at (byte ∷ bytes) = cond (byte == 32) (spaces_from (at + 1) bytes) (Err (record { at = at }))

-- A block of another length than 512 is wrong at the end of the shorter of the two lengths.
unfoldable pub record_answer : List ℕ → List Limit → Bool → Result (List ℕ) FieldFault
unfolding row_from spaces_from
record_answer block limits once =
    cond (length block == 512)
    (unless_fault (row_from block once 0 [] limits) (λ numbers. unless_fault (spaces_from (12 * length limits) (drop (12 * length limits) block)) (λ _. Ok numbers)))
    (Err (record { at = min (length block) 512 }))

-- ---- the law of both: every record written reads back as its numbers, and no other bytes read as them

pub record RoundTrip (block : List ℕ) (limits : List Limit) (once : Bool) (answer : Result (List ℕ) FieldFault) : Type 0 where
  pub sound : (numbers : List ℕ) → answer ≡ Ok numbers → (within once [] limits numbers ≡ true) × (block ≡ row_of 512 numbers)
  pub complete : (numbers : List ℕ) → within once [] limits numbers ≡ true → block ≡ row_of 512 numbers → 12 * length numbers ≤ 512 → answer ≡ Ok numbers
