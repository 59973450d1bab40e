-- A field: a decimal number in a fixed number of columns, right-justified, with spaces before it and no leading zeros; nought is one 0.
use Rattle.std.specs.Prelude.{◌≡◌, ℕ, zero, suc, ◌+◌, ◌-◌, ◌*◌, ◌/◌, ◌%◌, ◌^◌, ◌<◌, ◌≤◌, Bool, true, false, cond, ◌&&◌, List, [], ◌∷◌, ◌++◌, length, take, drop, replicate, Ok, Err, fold, Result, ◌==◌, nat_le, nat_lt}
use Rattle.field.specs.declared.FieldFault.{FieldFault}

-- The last digit stands in the rightmost column. The digits before it go by the same rule into the columns left of it, and where
-- there are none these are spaces. (A number that has no field in so many columns is never written: `put_into` below.)
unfoldable pub written : ℕ → ℕ → List ℕ
written zero number = []
written (suc columns) number = cond (nat_lt number 10) (replicate columns 32) (written columns (number / 10)) ++ (48 + number % 10) ∷ []

-- how many numbers, from 0 on, have a field of so many columns
unfoldable pub room : ℕ → ℕ
room zero = 0
room (suc columns) = 10 ^ suc columns

abbrev pub fits : ℕ → ℕ → Bool
fits columns number = nat_lt number (room columns)

-- ---- writing

-- A number that does not fit is refused, and the field stays as it was. A fault names the byte at which the field starts.
abbrev pub put_answer : Bool → ℕ → Result (Unit {0}) FieldFault
put_answer done at = cond done (Ok tt) (Err (record { at = at }))

abbrev pub put_into : List ℕ → ℕ → List ℕ
put_into before number = cond (fits (length before) number) (written (length before) number) before

-- the same for the columns from the byte `at` on of a block, which has to have them
unfoldable pub fits_at : List ℕ → ℕ → ℕ → ℕ → Bool
fits_at block at columns number = nat_le (at + columns) (length block) && fits columns number

unfoldable pub put_at : List ℕ → ℕ → ℕ → ℕ → List ℕ
unfolding fits_at
put_at block at columns number = cond (fits_at block at columns number) (take at block ++ (written columns number ++ drop (at + columns) block)) block

-- ---- reading

-- what a digit counts, and what a row of columns does; anything but a digit counts 0
unfoldable pub worth : ℕ → ℕ
worth byte = cond (nat_lt byte 48) 0 (cond (nat_lt 57 byte) 0 (byte - 48))

unfoldable pub value : List ℕ → ℕ
unfolding worth
value bytes = fold (λ before byte. before * 10 + worth byte) 0 bytes

unfoldable pub same : List ℕ → List ℕ → Bool
same [] [] = true
same [] (y ∷ ys) = false
same (x ∷ xs) [] = false
same (x ∷ xs) (y ∷ ys) = x == y && same xs ys

-- The only number that bytes can be read as is what their digits count. They are read as it where it is at most `most` and they are
-- what is written for it; all else is refused.
unfoldable pub reads : ℕ → List ℕ → Bool
unfolding value
reads most bytes = nat_le (value bytes) most && (fits (length bytes) (value bytes) && same bytes (written (length bytes) (value bytes)))

unfoldable pub read_answer : ℕ → List ℕ → ℕ → Result ℕ FieldFault
unfolding reads value
read_answer most bytes at = cond (reads most bytes) (Ok (value bytes)) (Err (record { at = at }))

abbrev pub columns_at : List ℕ → ℕ → ℕ → List ℕ
columns_at block at columns = take columns (drop at block)

unfoldable pub read_at : List ℕ → ℕ → ℕ → ℕ → Result ℕ FieldFault
unfolding read_answer
read_at block at columns most = cond (nat_le (at + columns) (length block)) (read_answer most (columns_at block at columns) at) (Err (record { at = at }))

-- ---- the law of both: what is read is what was written, and nothing else is read

-- the bytes are the field of this number, which is at most `most`
pub record IsField (most : ℕ) (bytes : List ℕ) (number : ℕ) : Type 0 where
  pub small : number ≤ most
  pub fitting : number < room (length bytes)
  pub exact : bytes ≡ written (length bytes) number

pub record RoundTrip (most : ℕ) (bytes : List ℕ) (answer : Result ℕ FieldFault) : Type 0 where
  pub sound : (number : ℕ) → answer ≡ Ok number → IsField most bytes number
  pub complete : (number : ℕ) → IsField most bytes number → answer ≡ Ok number
