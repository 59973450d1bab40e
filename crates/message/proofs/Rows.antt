-- The row of fields after a frame's letter, and where the frame ends.
use Rattle.std.proofs.Common.{◌≡◌, ℕ, ◌+◌, ◌*◌, ◌<◌, ◌≤◌, false, true, List, [], length, get_or, take, drop, Ok, Err, Result, sym, inl, inr, arith}
use Rattle.std.proofs.lemmas.Bool.{eq-eqb}
use Rattle.std.proofs.lemmas.Bool.Decides.{eqb_tells}
use Rattle.field.specs.declared.FieldFault.{FieldFault}
use Rattle.row.specs.declared.Limit.{Limit}
use Rattle.row.specs.Rows.{fields_of, row_from}
use Rattle.row.proofs.Reading.{limit_at}
use Rattle.row.proofs.Laws.{row_read, within-length, within_most}
use Rattle.message.specs.declared.FrameFault.{FrameFault}
use Rattle.message.specs.Rows.{within, in_frame, bytes_from, length_answer, read_fields}

-- ---- a frame whose fields were read

pub record Whole (limits : List Limit) (size : ℕ) (frame numbers : List ℕ) : Type 0 where
  pub ends : length frame ≡ bytes_from limits + size
  pub inside : within limits numbers ≡ true
  pub exact : take (12 * length limits) (drop 1 frame) ≡ fields_of numbers

row_of : (r : Result (List ℕ) FieldFault) (numbers : List ℕ) → Ok numbers ≡ in_frame r → r ≡ Ok numbers
row_of (Ok read) numbers h = cc
row_of (Err field) numbers h = cc

pub fields_whole : (limits : List Limit) (size : ℕ) (frame numbers : List ℕ) → Ok numbers ≡ read_fields limits size frame → Whole limits size frame numbers
unfolding read_fields
fields_whole limits size frame numbers h =
    elim (eqb_tells (length frame) (bytes_from limits + size)) [
      | inl t ↦
          let e = t.0 in
          let r = row_read frame false 1 limits numbers (row_of (row_from frame false 1 [] limits) numbers (simp e at h)) in
          record { ends = t.1; inside = r.0; exact = r.1 }
      | inr t ↦ let e = t.0 in let k = simp e at h in let z : ◌≡◌ {A = ℕ} 0 1 = cc in absurd (omega arith)
    ]

pub fields_length : (limits : List Limit) (size : ℕ) (frame numbers : List ℕ) → Ok numbers ≡ read_fields limits size frame → length numbers ≡ length limits
fields_length limits size frame numbers h = within-length false [] limits numbers (fields_whole limits size frame numbers h).inside

pub fields_most : (limits : List Limit) (size : ℕ) (frame numbers : List ℕ) → Ok numbers ≡ read_fields limits size frame → (i : ℕ) → i < length limits
    → get_or numbers i 0 ≤ (limit_at limits i).most
fields_most limits size frame numbers h i l = within_most false [] limits numbers i (fields_whole limits size frame numbers h).inside l

-- ---- from the length and the row to the fields

pub fields_short : (limits : List Limit) (size : ℕ) (frame : List ℕ) (asked : ℕ) (fault : FrameFault) → asked ≡ bytes_from limits + size
    → Err fault ≡ length_answer (length frame) asked → Err fault ≡ read_fields limits size frame
unfolding read_fields
fields_short limits size frame asked fault a h = let k = sym h in simp (← a, k)

pub fields_read : (limits : List Limit) (size : ℕ) (frame : List ℕ) (asked : ℕ) (row : Result (List ℕ) FieldFault) → asked ≡ bytes_from limits + size
    → Ok tt ≡ length_answer (length frame) asked → row ≡ row_from frame false 1 [] limits → in_frame row ≡ read_fields limits size frame
unfolding read_fields
fields_read limits size frame asked row a h e = let k = sym h in simp (← a, k, e)

pub whole_length : (held asked : ℕ) → held ≡ asked → length_answer held asked ≡ Ok tt
whole_length held asked h = let e = eq-eqb held asked h in rw e
