-- A row of fields: numbers of twelve columns each, side by side, each with limits of its own.
use Rattle.std.specs.Prelude.{ℕ, ◌+◌, ◌*◌, Bool, true, false, cond, not, ◌&&◌, ◌||◌, List, [], ◌∷◌, ◌++◌, length, take, drop, Ok, Err, Result, ◌==◌, nat_le, nat_lt}
use Rattle.std.specs.List.{list_all, list_any}
use Rattle.field.specs.declared.FieldFault.{FieldFault}
use Rattle.field.specs.Fields.{written, fits, read_at}
use Rattle.row.specs.declared.Limit.{Limit}

-- ---- writing

unfoldable pub fields_of : List ℕ → List ℕ
fields_of [] = []
fields_of (number ∷ numbers) = written 12 number ++ fields_of numbers

unfoldable pub all_fit : List ℕ → Bool
all_fit numbers = list_all (fits 12) numbers

-- There is room for the row from the byte `at` on, and each number has a field. Else nothing is written.
unfoldable pub fits_row : List ℕ → ℕ → List ℕ → Bool
unfolding all_fit
fits_row bytes at numbers = nat_le (at + 12 * length numbers) (length bytes) && all_fit numbers

unfoldable pub put_row : List ℕ → ℕ → List ℕ → List ℕ
unfolding fits_row fields_of
put_row bytes at numbers = cond (fits_row bytes at numbers) ((take at bytes ++ fields_of numbers) ++ drop (at + 12 * length numbers) bytes) bytes

-- ---- which numbers may stand in a row

-- a number within its limits that has a field of twelve columns
unfoldable pub takes : Limit → ℕ → Bool
takes limit number = nat_le limit.least number && (nat_le number limit.most && fits 12 number)

unfoldable pub stands : ℕ → List ℕ → Bool
stands number numbers = list_any (λ other. other == number) numbers

-- a number that is not 0 and stands among those before it
unfoldable pub repeated : List ℕ → ℕ → Bool
unfolding stands
repeated before number = not (number == 0) && stands number before

-- One number for each limit, after those before. Where numbers stand but once, none is repeated.
unfoldable pub within : Bool → List ℕ → List Limit → List ℕ → Bool
unfolding takes repeated
within once before [] [] = true
within once before [] (number ∷ numbers) = false
within once before (limit ∷ limits) [] = false
within once before (limit ∷ limits) (number ∷ numbers) =
    takes limit number && (not (once && repeated before number) && within once (before ++ number ∷ []) limits numbers)

-- ---- reading

abbrev pub unless_fault : {A B : Type 0} → Result A FieldFault → (A → Result B FieldFault) → Result B FieldFault
unless_fault (Ok a) next = next a
unless_fault (Err fault) next = Err fault

abbrev pub wrong : Limit → Bool → List ℕ → ℕ → Bool
wrong limit once before number = nat_lt number limit.least || (once && repeated before number)

-- one field, whose number is between its limits
unfoldable pub field_answer : List ℕ → ℕ → Limit → Bool → List ℕ → Result ℕ FieldFault
unfolding repeated
field_answer bytes at limit once before =
    unless_fault (read_at bytes at 12 limit.most) (λ number. cond (wrong limit once before number) (Err (record { at = at })) (Ok number))

-- from the byte `at` on, after the numbers before: a field for each limit
unfoldable pub row_from : List ℕ → Bool → ℕ → List ℕ → List Limit → Result (List ℕ) FieldFault
unfolding field_answer
row_from bytes once at before [] = Ok before
row_from bytes once at before (limit ∷ limits) =
    unless_fault (field_answer bytes at limit once before) (λ number. row_from bytes once (at + 12) (before ++ number ∷ []) limits)
