-- Bytes are read as what they say exactly if they are its frame.
use Rattle.std.proofs.Common.{◌≡◌, ℕ, ◌+◌, ◌*◌, true, eqb, List, [], ◌∷◌, ◌++◌, length, get_or, drop, Some, None, Ok, Option, sym, refl, ap, ◌∙◌, arith, eq-eqb, eqb-true, false}
use Rattle.std.proofs.lemmas.List.{length-drop, drop-drop, drop_at, take-append-drop}
use Rattle.std.proofs.lemmas.Bool.{and_from, and_parts}
use Rattle.row.specs.declared.Limit.{Limit}
use Rattle.row.specs.Rows.{fields_of}
use Rattle.row.proofs.Writing.{length_fields}
use Rattle.row.proofs.Laws.{row_is_read, within-length}
use Rattle.message.specs.Rows.{within, bytes_from, read_fields}
use Rattle.message.specs.Frames.{Shape, Said, shape_of, frame_of, unless_stray, shaped_answer, letter_answer, decode_answer, is_none, clear, sayable, allowed}
use Rattle.message.specs.Laws.{IsFrame, RoundTrip}
use Rattle.message.proofs.Rows.{fields_whole, fields_read, whole_length}
use Rattle.message.proofs.Decoding.{parts}
use Rattle.message.proofs.Encoding.{length_frame}

-- ---- a frame

-- the letter, the fields and the bytes of a frame that was read are all of it
whole_frame : (limits : List Limit) (size : ℕ) (frame numbers : List ℕ) → Ok numbers ≡ read_fields limits size frame
    → frame ≡ get_or frame 0 0 ∷ (fields_of numbers ++ drop (bytes_from limits) frame)
whole_frame limits size [] numbers h = let w = (fields_whole limits size [] numbers h).ends in absurd (omega arith)
whole_frame limits size (letter ∷ rest) numbers h =
    let r = (fields_whole limits size (letter ∷ rest) numbers h).exact in
    let d : drop (12 * length limits) rest ≡ drop (bytes_from limits) (letter ∷ rest) = drop-drop (12 * length limits) 1 (letter ∷ rest) in
    ap (λ (z : List ℕ). letter ∷ z) (sym (take-append-drop (12 * length limits) rest) ∙ (rw (r, d)))

record Shaped (letter : ℕ) (shape : Shape) (frame : List ℕ) (said : Said) : Type 0 where
  sized : length said.bytes ≡ shape.size
  clean : clear shape.free said.bytes ≡ true
  inside : within shape.limits said.numbers ≡ true
  letter-is : said.letter ≡ letter
  all : get_or frame 0 0 ≡ letter → frame ≡ frame_of said

shaped_sound : (letter : ℕ) (shape : Shape) (frame : List ℕ) (said : Said) → Ok said ≡ shaped_answer letter shape frame → Shaped letter shape frame said
shaped_sound letter shape frame said h =
    let p = parts letter shape frame said h in
    let e = p.is in
    let b = p.after in
    let w = fields_whole shape.limits shape.size frame p.numbers p.fields in
    let l : length (drop (bytes_from shape.limits) frame) ≡ shape.size = length-drop (bytes_from shape.limits) frame ∙ (let k = w.ends in omega arith) in
    let a = whole_frame shape.limits shape.size frame p.numbers p.fields in
    record {
      sized = rw (e, b) l;
      clean = rw e p.clean;
      inside = rw e w.inside;
      letter-is = ap (λ (x : Said). x.letter) e;
      all = λ g. a ∙ ap (λ (k : ℕ). k ∷ (fields_of p.numbers ++ drop (bytes_from shape.limits) frame)) g ∙ ap (λ (k : List ℕ). letter ∷ (fields_of p.numbers ++ k)) (sym b) ∙ ap frame_of (sym e);
    }

sound_by : (blocks : ℕ) (frame : List ℕ) (said : Said) (shape : Option Shape) → shape_of blocks (get_or frame 0 0) ≡ shape → letter_answer (get_or frame 0 0) frame shape ≡ Ok said
    → IsFrame blocks frame said
unfolding shaped_answer sayable
sound_by blocks frame said None s h = let z : ◌≡◌ {A = ℕ} 0 1 = cc in absurd (omega arith)
sound_by blocks frame said (Some shape) s h =
    let p = shaped_sound (get_or frame 0 0) shape frame said (sym h) in
    let m : shape_of blocks said.letter ≡ Some shape = ap (shape_of blocks) p.letter-is ∙ s in
    record {
      may = ap (λ (o : Option Shape). allowed o said) m ∙ and_from _ _ p.inside (and_from _ _ (eq-eqb (length said.bytes) shape.size p.sized) p.clean);
      exact = p.all refl;
    }

none_stray : (from : ℕ) (said : Said) (stray : Option ℕ) → is_none stray ≡ true → unless_stray from said stray ≡ Ok said
none_stray from said None h = refl
none_stray from said (Some i) h = cc

complete_by : (said : Said) (shape : Option Shape) → allowed shape said ≡ true → letter_answer said.letter (frame_of said) shape ≡ Ok said
unfolding shaped_answer sayable
complete_by said None h = cc
complete_by said (Some shape) h =
    let p = and_parts (within shape.limits said.numbers) _ h in
    let q = and_parts (eqb (length said.bytes) shape.size) (clear shape.free said.bytes) p.1 in
    let n = within-length false [] shape.limits said.numbers p.0 in
    let b = eqb-true (length said.bytes) shape.size q.0 in
    let l = length_frame said in
    let e : length (frame_of said) ≡ 1 + 12 * length shape.limits + shape.size = omega arith in
    let r : read_fields shape.limits shape.size (frame_of said) ≡ Ok said.numbers
    = sym (fields_read shape.limits shape.size (frame_of said) _ (Ok said.numbers) refl (sym (whole_length _ _ e)) (sym (row_is_read (frame_of said) false 1 shape.limits said.numbers said.bytes p.0 refl))) in
    let f = length_fields said.numbers in
    let k : length (said.letter ∷ fields_of said.numbers) ≡ bytes_from shape.limits = omega arith in
    let d : drop (bytes_from shape.limits) (frame_of said) ≡ said.bytes = drop_at (said.letter ∷ fields_of said.numbers) said.bytes (bytes_from shape.limits) k in
    rw (r, d) (none_stray (bytes_from shape.limits) said _ q.1)

pub round_trip : (blocks : ℕ) (frame : List ℕ) → RoundTrip blocks frame
unfolding decode_answer
round_trip blocks frame = record {
  sound = λ said h. sound_by blocks frame said _ refl h;
  complete = λ said f. let e = f.exact in rw e (complete_by said (shape_of blocks said.letter) f.may);
}
