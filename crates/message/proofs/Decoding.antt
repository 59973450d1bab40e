-- The message that a frame is read as.
use Rattle.std.proofs.Common.{◌≡◌, ℕ, Bool, zero, suc, ◌+◌, ◌-◌, ◌*◌, ◌/◌, ◌<◌, ◌≤◌, true, false, eqb, List, [], ◌∷◌, length, get_or, take, drop, is_ok, IsErrAnd, MatchResult, Some, None, Ok, Err, Option, Result, sym, refl, ap, ◌∙◌, inl, inr, arith, lit<, drop-cons, eq-eqb}
use Rattle.std.proofs.lemmas.List.{length-drop, take_all, drop_all}
use Rattle.std.proofs.lemmas.Bool.{cond-true}
use Rattle.std.proofs.lemmas.Bool.Decides.{eqb_tells}
use Rattle.bitmap.specs.declared.Bitmap.{Bitmap}
use Rattle.bitmap.specs.declared.BitmapFault.{BitmapFault}
use Rattle.bitmap.specs.Bits.{bit, next}
use Rattle.bitmap.specs.Bytes.{bytes_of, read_answer}
use Rattle.bitmap.specs.Bytes.{unless_stray as bitmap-unless}
use Rattle.bitmap.proofs.Seeking.{first_next}
use Rattle.message.specs.declared.FrameFault.{FrameFault}
use Rattle.row.specs.declared.Limit.{Limit}
use Rattle.row.specs.Rows.{row_from}
use Rattle.row.proofs.Reading.{limit_at}
use Rattle.field.specs.declared.FieldFault.{FieldFault}
use Rattle.message.specs.Rows.{fault_of, bytes_from, length_answer, read_fields}
use Rattle.message.specs.Frames.{Shape, Said, report_limits, plain, fields_only, with_block, bits_shape, shape_of, unless_stray, fields_answer, shaped_answer, decode_answer, is_none, clear}
use Rattle.compare.specs.Sides.{role_where}
use Rattle.message.specs.Messages.{says, row_said, flag, role_number, role_of}
use Rattle.message.proofs.Rows.{fields_short, fields_read, fields_whole, fields_length, fields_most}

-- ---- from the fields to what the frame says

pub fault_said : (letter : ℕ) (shape : Shape) (frame : List ℕ) (fault : FrameFault) → Err fault ≡ read_fields shape.limits shape.size frame
    → Err fault ≡ shaped_answer letter shape frame
unfolding shaped_answer
fault_said letter shape frame fault h = rw (← h)

-- bytes all of whose bits are free
pub block_answered : (letter : ℕ) (limits : List Limit) (size : ℕ) (frame numbers bytes : List ℕ) → Ok numbers ≡ read_fields limits size frame → bytes ≡ drop (bytes_from limits) frame
    → Ok (says letter numbers bytes) ≡ shaped_answer letter (plain limits size) frame
unfolding shaped_answer next
block_answered letter limits size frame numbers bytes h b = rw (← h, b)

pub row_answered : (letter : ℕ) (limits : List Limit) (frame : List ℕ) (row : Result (List ℕ) FrameFault) → row ≡ read_fields limits 0 frame
    → row_said letter row ≡ shaped_answer letter (fields_only limits) frame
row_answered letter limits frame (Err fault) h = fault_said letter (fields_only limits) frame fault h
row_answered letter limits frame (Ok numbers) h =
    let w = fields_whole limits 0 frame numbers h in
    block_answered letter limits 0 frame numbers [] h (sym (drop_all (bytes_from limits) frame (omega arith)))

-- what the code answers once the length was looked at

pub length_fault : (letter : ℕ) (limits : List Limit) (size : ℕ) (frame : List ℕ) (asked : ℕ) (fault : FrameFault) → Err fault ≡ length_answer (length frame) asked
    → asked ≡ 1 + 12 * length limits + size → Err fault ≡ shaped_answer letter (plain limits size) frame
length_fault letter limits size frame asked fault h a = fault_said letter (plain limits size) frame fault (fields_short limits size frame asked fault a h)

pub field_fault : (letter : ℕ) (limits : List Limit) (size : ℕ) (frame : List ℕ) (asked : ℕ) (field : FieldFault) → Err field ≡ row_from frame false 1 [] limits
    → Ok tt ≡ length_answer (length frame) asked → asked ≡ 1 + 12 * length limits + size → Err (fault_of field) ≡ shaped_answer letter (plain limits size) frame
field_fault letter limits size frame asked field h l a = fault_said letter (plain limits size) frame _ (fields_read limits size frame asked _ a l h)

pub row_fields : (letter : ℕ) (limits : List Limit) (frame numbers : List ℕ) (asked : ℕ) → Ok numbers ≡ row_from frame false 1 [] limits
    → Ok tt ≡ length_answer (length frame) asked → asked ≡ 1 + 12 * length limits → Ok (says letter numbers []) ≡ shaped_answer letter (fields_only limits) frame
row_fields letter limits frame numbers asked h l a = row_answered letter limits frame (Ok numbers) (fields_read limits 0 frame asked _ (omega arith) l h)

pub block_fields : (letter : ℕ) (limits : List Limit) (frame numbers : List ℕ) (from asked : ℕ) → Ok numbers ≡ row_from frame false 1 [] limits
    → Ok tt ≡ length_answer (length frame) asked → from ≡ 1 + 12 * length limits → asked ≡ from + 512
    → Ok (says letter numbers (take (length frame - from) (drop from frame))) ≡ shaped_answer letter (with_block limits) frame
block_fields letter limits frame numbers from asked h l f a =
    block_answered letter limits 512 frame numbers _ (fields_read limits 512 frame asked _ (omega arith) l h) (take_all _ _ (simp length-drop (omega arith)) ∙ rw f refl)

-- what a frame that was read has
pub record Parts (letter : ℕ) (shape : Shape) (frame : List ℕ) (said : Said) : Type 0 where
  pub numbers : List ℕ
  pub fields : Ok numbers ≡ read_fields shape.limits shape.size frame
  pub bytes : List ℕ
  pub after : bytes ≡ drop (bytes_from shape.limits) frame
  pub clean : clear shape.free bytes ≡ true
  pub is : said ≡ says letter numbers bytes

unstrayed : (from : ℕ) (said told : Said) (stray : Option ℕ) → unless_stray from said stray ≡ Ok told → (is_none stray ≡ true) × (told ≡ said)
unstrayed from said told None h = (refl, cc)
unstrayed from said told (Some i) h = (cc, cc)

parts_by : (letter : ℕ) (shape : Shape) (frame : List ℕ) (said : Said) (fields : Result (List ℕ) FrameFault) → fields ≡ read_fields shape.limits shape.size frame
    → fields_answer letter shape frame fields ≡ Ok said → Parts letter shape frame said
parts_by letter shape frame said (Err fault) f h = let z : ◌≡◌ {A = ℕ} 0 1 = cc in absurd (omega arith)
parts_by letter shape frame said (Ok numbers) f h =
    let u = unstrayed (bytes_from shape.limits) _ said _ h in
    record { numbers = numbers; fields = f; bytes = drop (bytes_from shape.limits) frame; after = refl; clean = u.0; is = u.1 }

pub parts : (letter : ℕ) (shape : Shape) (frame : List ℕ) (said : Said) → Ok said ≡ shaped_answer letter shape frame → Parts letter shape frame said
unfolding shaped_answer
parts letter shape frame said h = parts_by letter shape frame said _ refl (sym h)

-- ---- a report

flag-set : (n : ℕ) → n ≤ 1 → flag (eqb n 1) ≡ n
flag-set n h = elim (eqb_tells n 1) [ inl t ↦ ap flag t.0 ∙ sym t.1 | inr t ↦ ap flag t.0 ∙ (let k = t.1 in omega arith) ]

role_set : (n : ℕ) → n ≤ 1 → role_number (role_of n) ≡ n
role_set n h = elim (eqb_tells n 1) [
  | inl t ↦ ap (λ (one : Bool). role_number (role_where one)) t.0 ∙ sym t.1
  | inr t ↦ ap (λ (one : Bool). role_number (role_where one)) t.0 ∙ (let k = t.1 in omega arith)
]

-- the elements of a list one by one, as a pattern takes them
listed : ℕ → ℕ → List ℕ → List ℕ
listed from zero xs = []
listed from (suc count) xs = get_or xs from 0 ∷ listed (suc from) count xs

listed_drop : (from count : ℕ) (xs : List ℕ) → length xs ≡ from + count → listed from count xs ≡ drop from xs
unfolding listed
listed_drop from zero xs h = sym (drop_all from xs (omega arith))
listed_drop from (suc count) xs h = ap (λ (z : List ℕ). get_or xs from 0 ∷ z) (listed_drop (suc from) count xs (omega arith)) ∙ sym (drop-cons xs from 0 (omega arith))

pub report_read : (frame x : List ℕ) (blocks : ℕ) → Ok (says 82 x []) ≡ shaped_answer 82 (fields_only (report_limits blocks)) frame
    → Ok (says 82 (get_or x 0 0 ∷ get_or x 1 0 ∷ get_or x 2 0 ∷ get_or x 3 0 ∷ flag (eqb (get_or x 4 0) 1) ∷ flag (eqb (get_or x 5 0) 1) ∷ role_number (role_of (get_or x 6 0)) ∷ get_or x 7 0 ∷ get_or x 8 0 ∷ []) [])
    ≡ shaped_answer 82 (fields_only (report_limits blocks)) frame
unfolding listed
report_read frame x blocks h =
    let p = parts 82 (fields_only (report_limits blocks)) frame _ h in
    let n : x ≡ p.numbers = ap (λ (said : Said). said.numbers) p.is in
    let f : Ok x ≡ read_fields (report_limits blocks) 0 frame = ap (λ (numbers : List ℕ). Ok numbers) n ∙ p.fields in
    let most : (i : ℕ) → i < 9 → get_or x i 0 ≤ (limit_at (report_limits blocks) i).most = fields_most (report_limits blocks) 0 frame x f in
    let a = flag-set (get_or x 4 0) (most 4 (lit< tt)) in
    let b = flag-set (get_or x 5 0) (most 5 (lit< tt)) in
    let c = role_set (get_or x 6 0) (most 6 (lit< tt)) in
    let e : listed 0 9 x ≡ x = listed_drop 0 9 x (fields_length (report_limits blocks) 0 frame x f) in
    rw (a, b, c) (ap (λ (numbers : List ℕ). Ok (says 82 numbers [])) e ∙ h)

-- ---- the bits

pub bits_read : (bytes : List ℕ) (blocks : ℕ) → length bytes ≡ 512 → read_answer bytes blocks ≡ bitmap-unless bytes (next (bit bytes) blocks (4096 - blocks))
bits_read bytes blocks l = cond-true (eqb (length bytes) 512) _ _ (eq-eqb (length bytes) 512 l)

no_stray : (from : ℕ) (said : Said) (bytes read : List ℕ) (stray : Option ℕ) → Ok read ≡ bitmap-unless bytes stray → Ok said ≡ unless_stray from said stray
no_stray from said bytes read None h = refl
no_stray from said bytes read (Some i) h = cc

a_stray : (from : ℕ) (said : Said) (bytes : List ℕ) (fault : BitmapFault) (stray : Option ℕ) → Err fault ≡ bitmap-unless bytes stray
    → Err (record { byte = from + fault.byte }) ≡ unless_stray from said stray
a_stray from said bytes fault None h = cc
a_stray from said bytes fault (Some i) h = let e : fault ≡ record { byte = i / 8 } = cc in rw e

-- the bytes after the letter of a frame that was read as if they were a block
record Bits (blocks : ℕ) (frame bytes : List ℕ) : Type 0 where
  sized : length bytes ≡ 512
  answer : unless_stray 1 (says 66 [] bytes) (next (bit bytes) blocks (4096 - blocks)) ≡ shaped_answer 66 (bits_shape blocks) frame

bits_of : (blocks : ℕ) (frame numbers bytes : List ℕ) → Ok (says 66 numbers bytes) ≡ shaped_answer 66 (with_block []) frame → Bits blocks frame bytes
unfolding shaped_answer
bits_of blocks frame numbers bytes h =
    let p = parts 66 (with_block []) frame _ h in
    let b : bytes ≡ drop 1 frame = ap (λ (said : Said). said.bytes) p.is ∙ p.after in
    let w = fields_whole [] 512 frame p.numbers p.fields in
    let n : p.numbers ≡ [] = nothing p.numbers (fields_length [] 512 frame p.numbers p.fields) in
    let f = p.fields in
    record { sized = rw b (length-drop 1 frame ∙ (let e = w.ends in omega arith)); answer = rw (← f, n, b) }
  where
    nothing : (xs : List ℕ) → length xs ≡ 0 → xs ≡ []
    nothing [] h = refl
    nothing (x ∷ xs) h = absurd (omega arith)

fault_by : (blocks : ℕ) (frame : List ℕ) (fault : FrameFault) (fields : Result (List ℕ) FrameFault) → Err fault ≡ fields_answer 66 (with_block []) frame fields
    → Err fault ≡ fields_answer 66 (bits_shape blocks) frame fields
unfolding next
fault_by blocks frame fault (Ok numbers) h = cc
fault_by blocks frame fault (Err e) h = h

pub fault_bits : (blocks : ℕ) (frame : List ℕ) (fault : FrameFault) → Err fault ≡ shaped_answer 66 (with_block []) frame → Err fault ≡ shaped_answer 66 (bits_shape blocks) frame
unfolding shaped_answer
fault_bits blocks frame fault h = fault_by blocks frame fault _ h

pub bits_said : (blocks : ℕ) (frame numbers bytes read : List ℕ) → Ok (says 66 numbers bytes) ≡ shaped_answer 66 (with_block []) frame → Ok read ≡ read_answer bytes blocks
    → Ok (says 66 [] bytes) ≡ shaped_answer 66 (bits_shape blocks) frame
bits_said blocks frame numbers bytes read h r =
    let b = bits_of blocks frame numbers bytes h in no_stray 1 _ bytes read _ (r ∙ bits_read bytes blocks b.sized) ∙ b.answer

pub stray_said : (blocks : ℕ) (frame numbers bytes : List ℕ) (fault : BitmapFault) → Ok (says 66 numbers bytes) ≡ shaped_answer 66 (with_block []) frame → Err fault ≡ read_answer bytes blocks
    → Err (record { byte = 1 + fault.byte }) ≡ shaped_answer 66 (bits_shape blocks) frame
stray_said blocks frame numbers bytes fault h r =
    let b = bits_of blocks frame numbers bytes h in a_stray 1 _ bytes fault _ (r ∙ bits_read bytes blocks b.sized) ∙ b.answer

-- the fault of the bits, told as one of the frame
pub stray_told : {Q : BitmapFault → FrameFault → Type 0} (read : Result Bitmap BitmapFault) (told : Result Bitmap FrameFault) (fault : FrameFault)
    → ((e : BitmapFault) (f : FrameFault) → Q e f → f ≡ record { byte = 1 + e.byte }) → MatchResult read (λ map. told ≡ Ok map) (λ e. IsErrAnd told (Q e)) → told ≡ Err fault
    → (e : BitmapFault) × (Err e ≡ bytes_of read) × (fault ≡ record { byte = 1 + e.byte })
stray_told (Ok map) told fault q m h = cc
stray_told (Err e) (Ok map) fault q m h = cc
stray_told (Err e) (Err f) fault q m h = let k = q e f m in (e, refl, cc)

pub map_read : (read : Result Bitmap BitmapFault) → is_ok read ≡ true → (map : Bitmap) × (Ok map.bytes ≡ bytes_of read)
map_read (Ok map) h = (map, refl)
map_read (Err e) h = cc

stray_below : (bytes : List ℕ) (fault : BitmapFault) (blocks : ℕ) (stray : Option ℕ) → Err fault ≡ bitmap-unless bytes stray → next (bit bytes) blocks (4096 - blocks) ≡ stray → fault.byte < 512
stray_below bytes fault blocks None h e = let z : ◌≡◌ {A = ℕ} 0 1 = cc in absurd (omega arith)
stray_below bytes fault blocks (Some i) h e =
    let f = first_next (bit bytes) blocks (4096 - blocks) i e in
    let l = f.0 in
    let r = f.1.reached in
    let k : fault.byte ≡ i / 8 = cc in omega arith

pub fault_below : (blocks : ℕ) (frame numbers bytes : List ℕ) (fault : BitmapFault) → Ok (says 66 numbers bytes) ≡ shaped_answer 66 (with_block []) frame → Err fault ≡ read_answer bytes blocks → fault.byte < 512
fault_below blocks frame numbers bytes fault h r =
    let b = bits_of blocks frame numbers bytes h in stray_below bytes fault blocks _ (r ∙ bits_read bytes blocks b.sized) refl

-- ---- by the letter

pub no_letter : (blocks : ℕ) (frame : List ℕ) → length frame ≤ 0 → Err (record { byte = 0 }) ≡ decode_answer blocks frame
unfolding decode_answer shape_of
no_letter blocks [] h = refl
no_letter blocks (x ∷ xs) h = absurd (omega arith)

pub by_shape : (blocks letter : ℕ) (shape : Shape) (frame : List ℕ) → shape_of blocks letter ≡ Some shape → get_or frame 0 0 ≡ letter
    → shaped_answer letter shape frame ≡ decode_answer blocks frame
unfolding decode_answer
by_shape blocks letter shape frame s h = simp (h, s)
