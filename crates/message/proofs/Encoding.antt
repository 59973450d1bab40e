-- When a message is written, and what the buffer holds then.
use Rattle.std.proofs.Common.{◌≡◌, ℕ, ◌+◌, ◌-◌, ◌*◌, ◌<◌, ◌≤◌, true, false, ◌&&◌, eqb, leb, List, [], ◌∷◌, ◌++◌, length, take, drop, set, Some, None, Ok, Err, Option, Result, sym, refl, ap, ◌∙◌, inl, inr, arith, eq-eqb, ne_eqb, le-leb}
use borrow.Rule.Slice.PartMut.{put_mid}
use Rattle.std.proofs.lemmas.List.{length-append, drop-drop, take_at, drop_at, append_assoc}
use Rattle.std.proofs.lemmas.Bool.{lt-leb, cond-true, cond-false, and_left, and_right, and_from}
use Rattle.std.proofs.lemmas.Bool.Decides.{eqb_tells}
use Rattle.bitmap.specs.declared.BitmapFault.{BitmapFault}
use Rattle.bitmap.specs.Bits.{next}
use Rattle.std.specs.Result.{result_ok}
use Rattle.bitmap.specs.declared.Bitmap.{Bitmap}
use Rattle.bitmap.specs.Bytes.{bytes_of, read_answer}
use Rattle.bitmap.specs.Bytes.{unless_stray as bitmap-unless}
use Rattle.bitmap.proofs.Laws.{within_read}
use Rattle.row.specs.declared.Limit.{Limit}
use Rattle.row.specs.Rows.{fields_of, fits_row, put_row}
use Rattle.row.proofs.Writing.{length_fields, put_fitting}
use Rattle.row.proofs.Laws.{within-fit}
use Rattle.message.specs.Rows.{within}
use Rattle.message.specs.Frames.{Shape, Said, plain, bits_shape, frame_of, shape_of, is_none, clear, sayable, goes, write_answer, write_into}
use Rattle.message.specs.declared.Message.{Message}
use Rattle.message.specs.Messages.{says, said_by}
use Rattle.message.proofs.Decoding.{bits_read}

pub length_frame : (said : Said) → length (frame_of said) ≡ 1 + 12 * length said.numbers + length said.bytes
length_frame said = let l = length_fields said.numbers in let a = length-append (fields_of said.numbers) said.bytes in omega arith

-- what a function that writes answers and leaves
pub record Writes (shape : Option Shape) (said : Said) (before : List ℕ) (answer : Option ℕ) (after : List ℕ) : Type 0 where
  pub answer_is : answer ≡ write_answer shape said before
  pub after_is : after ≡ write_into shape said before

pub refused : (shape : Option Shape) (said : Said) (out : List ℕ) → goes shape said out ≡ false → Writes shape said out None out
unfolding write_answer write_into
refused shape said out h = record { answer_is = sym (cond-false (goes shape said out) _ _ h); after_is = sym (cond-false (goes shape said out) _ _ h) }

done : (shape : Option Shape) (said : Said) (out after : List ℕ) (size : ℕ) → goes shape said out ≡ true → size ≡ length (frame_of said) → after ≡ frame_of said ++ drop (length (frame_of said)) out
    → Writes shape said out (Some size) after
unfolding write_answer write_into
done shape said out after size h l e =
    record { answer_is = ap (λ (n : ℕ). Some n) l ∙ sym (cond-true (goes shape said out) _ _ h); after_is = e ∙ sym (cond-true (goes shape said out) _ _ h) }

-- ---- the three refusals

pub refused_bytes : (limits : List Limit) (size : ℕ) (said : Said) (out : List ℕ) → (length said.bytes ≡ size → ⊥) → Writes (Some (plain limits size)) said out None out
unfolding goes sayable
refused_bytes limits size said out h =
    let k = ne_eqb (length said.bytes) size h in
    refused (Some (plain limits size)) said out (and_left _ _ (and_right (within limits said.numbers) _ (and_left _ _ k)))

pub refused_room : (limits : List Limit) (size : ℕ) (said : Said) (out : List ℕ) (count : ℕ) → length said.numbers ≡ count → length said.bytes ≡ size
    → length out < 1 + 12 * count + size → Writes (Some (plain limits size)) said out None out
unfolding goes
refused_room limits size said out count n b h =
    let l = length_frame said in
    let k : leb (length (frame_of said)) (length out) ≡ false = lt-leb (length (frame_of said)) (length out) (omega arith) in
    refused (Some (plain limits size)) said out (and_right (sayable (plain limits size) said) _ k)

pub refused_limits : (limits : List Limit) (size : ℕ) (said : Said) (out : List ℕ) → within limits said.numbers ≡ false → Writes (Some (plain limits size)) said out None out
unfolding goes sayable
refused_limits limits size said out h = refused (Some (plain limits size)) said out (and_left _ _ (and_left _ _ h))

pub written_frame : (limits : List Limit) (size : ℕ) (said : Said) (out after : List ℕ) (count : ℕ) → length said.numbers ≡ count → length said.bytes ≡ size
    → 1 + 12 * count + size ≤ length out → within limits said.numbers ≡ true → after ≡ frame_of said ++ drop (1 + 12 * count + size) out
    → Writes (Some (plain limits size)) said out (Some (1 + 12 * count + size)) after
unfolding goes sayable next
written_frame limits size said out after count n b h w e =
    let l = length_frame said in
    let s : 1 + 12 * count + size ≡ length (frame_of said) = omega arith in
    done (Some (plain limits size)) said out after (1 + 12 * count + size)
    (and_from _ _ (and_from _ _ w (and_from _ _ (eq-eqb (length said.bytes) size b) refl)) (le-leb (length (frame_of said)) (length out) (omega arith))) s
    (e ∙ ap (λ (k : ℕ). frame_of said ++ drop k out) s)

-- the row of a frame that is written
pub record Placed (out numbers : List ℕ) : Type 0 where
  pub fits : fits_row out 1 numbers ≡ true
  pub stands : put_row out 1 numbers ≡ (take 1 out ++ fields_of numbers) ++ drop (1 + 12 * length numbers) out

pub placed : (limits : List Limit) (numbers out : List ℕ) → within limits numbers ≡ true → 1 + 12 * length numbers ≤ length out → Placed out numbers
placed limits numbers out w h =
    let p = put_fitting out 1 numbers (record { roomy = le-leb (1 + 12 * length numbers) (length out) h; small = within-fit false [] limits numbers w }) in
    record { fits = p.0; stands = p.1 }

pub lettered : (out row : List ℕ) (letter : ℕ) (numbers : List ℕ) → 1 ≤ length out → Placed out numbers → row ≡ put_row out 1 numbers
    → set row 0 letter ≡ (letter ∷ fields_of numbers) ++ drop (1 + 12 * length numbers) out
lettered [] row letter numbers h p e = absurd (omega arith)
lettered (x ∷ xs) row letter numbers h p e = ap (λ (bytes : List ℕ). set bytes 0 letter) (e ∙ p.stands)

-- the bytes after the fields
pub bytes_placed : (said : Said) (out mid last : List ℕ) (count size : ℕ) → mid ≡ (said.letter ∷ fields_of said.numbers) ++ drop (1 + 12 * count) out
    → length said.numbers ≡ count → last ≡ said.bytes
    → put_mid (1 + 12 * count) (1 + 12 * count + size - (1 + 12 * count)) mid last ≡ frame_of said ++ drop (1 + 12 * count + size) out
bytes_placed said out mid last count size e n b =
    let front = said.letter ∷ fields_of said.numbers in
    let k = length_fields said.numbers in
    let l : length (said.letter ∷ fields_of said.numbers) ≡ 1 + 12 * count = omega arith in
    let t : take (1 + 12 * count) mid ≡ said.letter ∷ fields_of said.numbers = ap (take (1 + 12 * count)) e ∙ take_at front (drop (1 + 12 * count) out) (1 + 12 * count) l in
    let d : drop (1 + 12 * count) mid ≡ drop (1 + 12 * count) out = ap (drop (1 + 12 * count)) e ∙ drop_at front (drop (1 + 12 * count) out) (1 + 12 * count) l in
    let z : 1 + 12 * count + (1 + 12 * count + size - (1 + 12 * count)) ≡ 1 + 12 * count + size = omega arith in
    let r : drop (1 + 12 * count + size - (1 + 12 * count)) (drop (1 + 12 * count) mid) ≡ drop (1 + 12 * count + size) out
    = ap (drop (1 + 12 * count + size - (1 + 12 * count))) d ∙ drop-drop (1 + 12 * count + size - (1 + 12 * count)) (1 + 12 * count) out ∙ ap (λ (j : ℕ). drop j out) z in
    (rw (t, r, b)) ∙ ap (λ (x : List ℕ). said.letter ∷ x) (sym (append_assoc (fields_of said.numbers) said.bytes (drop (1 + 12 * count + size) out)))

-- ---- the bits

bits_clear : (bytes read : List ℕ) (blocks : ℕ) (stray : Option ℕ) → Ok read ≡ bitmap-unless bytes stray → is_none stray ≡ true
bits_clear bytes read blocks None h = refl
bits_clear bytes read blocks (Some i) h = cc

bits_stray : (bytes : List ℕ) (fault : BitmapFault) (stray : Option ℕ) → Err fault ≡ bitmap-unless bytes stray → is_none stray ≡ false
bits_stray bytes fault None h = cc
bits_stray bytes fault (Some i) h = refl

clear_read : (bytes read : List ℕ) (blocks : ℕ) → Ok read ≡ read_answer bytes blocks → clear blocks bytes ≡ true
clear_read bytes read blocks h =
    let l = (within_read blocks bytes read (sym h)).0 in bits_clear bytes read blocks _ (h ∙ bits_read bytes blocks l)

refused_bits : (bytes out : List ℕ) (blocks : ℕ) (fault : BitmapFault) → Err fault ≡ read_answer bytes blocks → Writes (Some (bits_shape blocks)) (says 66 [] bytes) out None out
unfolding goes sayable
refused_bits bytes out blocks fault h =
    let f : (eqb (length bytes) 512 && clear blocks bytes) ≡ false = elim (eqb_tells (length bytes) 512) [
      | inl t ↦ and_right (eqb (length bytes) 512) _ (bits_stray bytes fault _ (h ∙ bits_read bytes blocks t.1))
      | inr t ↦ and_left _ _ t.0
    ] in
    refused (Some (bits_shape blocks)) (says 66 [] bytes) out (and_left _ _ (and_right (within [] []) _ f))

pub unread : (bytes out : List ℕ) (blocks : ℕ) (read : Result Bitmap BitmapFault) → bytes_of read ≡ read_answer bytes blocks → result_ok read ≡ None
    → Writes (Some (bits_shape blocks)) (says 66 [] bytes) out None out
unread bytes out blocks (Ok map) h n = cc
unread bytes out blocks (Err fault) h n = refused_bits bytes out blocks fault h

pub clear_bits : (bytes : List ℕ) (blocks : ℕ) (map : Bitmap) (read : Result Bitmap BitmapFault) → bytes_of read ≡ read_answer bytes blocks → result_ok read ≡ Some map
    → clear blocks bytes ≡ true
clear_bits bytes blocks map (Ok read) h s = clear_read bytes _ blocks h
clear_bits bytes blocks map (Err fault) h s = cc

pub written_bits : (said : Said) (out after : List ℕ) (blocks : ℕ) (answer : Option ℕ) → clear blocks said.bytes ≡ true → answer ≡ write_answer (Some (plain [] 512)) said out
    → after ≡ write_into (Some (plain [] 512)) said out → Writes (Some (bits_shape blocks)) said out answer after
unfolding write_answer write_into goes sayable next
written_bits said out after blocks answer h a b = record { answer_is = a ∙ simp h; after_is = b ∙ simp h }

-- ---- by the message

pub encoded : (blocks : ℕ) (message : Message) (said : Said) (shape : Shape) (given : Option Shape) (out after : List ℕ) (answer : Option ℕ) → said_by message ≡ said
    → shape_of blocks said.letter ≡ Some shape → given ≡ Some shape → answer ≡ write_answer given said out → after ≡ write_into given said out
    → Writes (shape_of blocks (said_by message).letter) (said_by message) out answer after
encoded blocks message said shape given out after answer m s g a b =
    let e : shape_of blocks (said_by message).letter ≡ given = ap (λ (x : Said). shape_of blocks x.letter) m ∙ s ∙ sym g in
    record { answer_is = a ∙ rw (e, m); after_is = b ∙ rw (e, m) }
