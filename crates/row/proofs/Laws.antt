-- A row reads as its numbers, if it is the row that is written for them and they are within their limits, and otherwise as none.
use Rattle.std.proofs.Common.{◌≡◌, ℕ, zero, suc, ◌+◌, ◌-◌, ◌*◌, ◌<◌, ◌≤◌, Bool, true, false, not, ◌&&◌, ◌||◌, eqb, leb, ltb, List, [], ◌∷◌, ◌++◌, length, get_or, take, drop, replicate, Ok, Result, sym, refl, ap, ◌∙◌, arith, take-add, take-suc, ltb-true, ltb-false, lt-ltb, le-ltb}
use Rattle.std.proofs.lemmas.List.{length-append, length-replicate, length-drop, append_assoc, append-nil, take_at, drop_at, drop-drop, take-append-drop, take_all}
use Rattle.std.proofs.lemmas.Bool.{cond-true, cond_both, le-leb, leb-true, eq-eqb, eqb-true, and_from, and_parts, not_from_false}
use Rattle.field.specs.declared.FieldFault.{FieldFault}
use Rattle.field.specs.Fields.{written, room, fits, read_answer, read_at}
use Rattle.field.proofs.Columns.{length-written}
use Rattle.field.proofs.Reading.{reads-written}
use Rattle.field.proofs.Places.{read_at_number}
use Rattle.row.specs.declared.Limit.{Limit}
use Rattle.row.specs.Rows.{fields_of, all_fit, takes, repeated, within, wrong, unless_fault, field_answer, row_from}
use Rattle.row.specs.Records.{row_of, spaces_from, record_answer, RoundTrip}
use Rattle.row.proofs.Writing.{length_fields}
use Rattle.row.proofs.Reading.{limit_at, passed, field_is, field_right}
use Rattle.row.proofs.Spaces.{spaces_pass, spaces_are}

-- ---- a number in a row

-- what a limit takes, which is not wrong there
pub record Stands (limit : Limit) (once : Bool) (before : List ℕ) (n : ℕ) : Type 0 where
  pub small : n ≤ limit.most
  pub fitting : n < room 12
  pub right : wrong limit once before n ≡ false

or_neither : (a b : Bool) → (a || b) ≡ false → (a ≡ false) × (b ≡ false)
or_neither true b h = absurd (let y : ◌≡◌ {A = ℕ} 0 1 = cc in omega arith)
or_neither false b h = (refl, h)

not_so : (b : Bool) → not b ≡ true → b ≡ false
not_so true h = absurd (let y : ◌≡◌ {A = ℕ} 0 1 = cc in omega arith)
not_so false h = refl

stands_is : (limit : Limit) (once : Bool) (before : List ℕ) (n : ℕ) → takes limit n ≡ true → not (once && repeated before n) ≡ true → Stands limit once before n
unfolding takes
stands_is limit once before n t f =
    let p = and_parts (leb limit.least n) _ t in
    let q = and_parts (leb n limit.most) _ p.1 in
    let a = le-ltb n limit.least (leb-true limit.least n p.0) in
    let b = not_so (once && repeated before n) f in
    record { small = leb-true n limit.most q.0; fitting = ltb-true n (room 12) q.1; right = rw (a, b) }

stands_so : (limit : Limit) (once : Bool) (before : List ℕ) (n : ℕ) → n ≤ limit.most → n < room 12 → wrong limit once before n ≡ false
    → (takes limit n ≡ true) × (not (once && repeated before n) ≡ true)
unfolding takes
stands_so limit once before n s f w =
    let p = or_neither (ltb n limit.least) _ w in
    (and_from _ _ (le-leb limit.least n (ltb-false n limit.least p.0)) (and_from _ _ (le-leb n limit.most s) (lt-ltb n (room 12) f)), not_from_false _ p.1)

-- ---- what is read is what was written

-- from the byte `at` on, the bytes are the fields of these numbers
pub record Rest (bytes : List ℕ) (once : Bool) (at : ℕ) (before : List ℕ) (limits : List Limit) (all : List ℕ) : Type 0 where
  pub numbers : List ℕ
  pub joined : all ≡ before ++ numbers
  pub inside : within once before limits numbers ≡ true
  pub exact : take (12 * length limits) (drop at bytes) ≡ fields_of numbers
  pub reached : at ≤ length bytes → at + 12 * length limits ≤ length bytes

pub row_sound : (bytes : List ℕ) (once : Bool) (at : ℕ) (before : List ℕ) (limits : List Limit) (all : List ℕ) → row_from bytes once at before limits ≡ Ok all
    → Rest bytes once at before limits all
unfolding row_from within fields_of
row_sound bytes once at before [] all h =
    let e : before ≡ all = cc in
    record { numbers = []; joined = sym e ∙ sym (append-nil before); inside = refl; exact = refl; reached = λ l. omega arith }
row_sound bytes once at before (l ∷ ls) all h =
    let p = passed (field_answer bytes at l once before) (λ n. row_from bytes once (at + 12) (before ++ n ∷ []) ls) all h in
    let n = p.0 in
    let f = field_is bytes at l once before n p.1 in
    let r = read_at_number bytes at 12 l.most n f.0 in
    let s = stands_so l once before n r.small r.fitting f.1 in
    let t = row_sound bytes once (at + 12) (before ++ n ∷ []) ls all p.2 in
    let k : 12 * length (l ∷ ls) ≡ 12 + 12 * length ls = omega arith in
    let far = t.reached r.reached in
    record {
      numbers = n ∷ t.numbers;
      joined = t.joined ∙ append_assoc before (n ∷ []) t.numbers;
      inside = and_from _ _ s.0 (and_from _ _ s.1 t.inside);
      exact =
          ap (λ (j : ℕ). take j (drop at bytes)) k ∙ take-add 12 (12 * length ls) (drop at bytes)
          ∙ ap (λ (z : List ℕ). take 12 (drop at bytes) ++ take (12 * length ls) z) (drop-drop 12 at bytes)
          ∙ ap (λ (z : List ℕ). take 12 (drop at bytes) ++ z) t.exact ∙ ap (λ (z : List ℕ). z ++ fields_of t.numbers) r.exact;
      reached = λ h. omega arith;
    }

-- ---- what was written is read

reads_here : (bytes : List ℕ) (at most n : ℕ) (rest : List ℕ) → drop at bytes ≡ written 12 n ++ rest → n ≤ most → n < room 12 → read_at bytes at 12 most ≡ Ok n
unfolding read_at
reads_here bytes at most n rest e s f =
    let w = length-written 12 n in
    let k = length-append (written 12 n) rest in
    let l : length bytes - at ≡ length (written 12 n ++ rest) = sym (length-drop at bytes) ∙ ap length e in
    let h : at + 12 ≤ length bytes = omega arith in
    cond-true _ _ _ (le-leb (at + 12) (length bytes) h)
    ∙ ap (λ (z : List ℕ). read_answer most z at) (ap (take 12) e ∙ take_at (written 12 n) rest 12 w)
    ∙ reads-written most 12 at n s f

pub row_complete : (bytes : List ℕ) (once : Bool) (at : ℕ) (before : List ℕ) (limits : List Limit) (numbers rest : List ℕ)
    → within once before limits numbers ≡ true → drop at bytes ≡ fields_of numbers ++ rest → row_from bytes once at before limits ≡ Ok (before ++ numbers)
unfolding row_from within fields_of
row_complete bytes once at before [] [] rest w e = ap Ok (sym (append-nil before))
row_complete bytes once at before [] (n ∷ ns) rest w e = let z : ◌≡◌ {A = Bool} false true = w in absurd (let y : ◌≡◌ {A = ℕ} 0 1 = cc in omega arith)
row_complete bytes once at before (l ∷ ls) [] rest w e = let z : ◌≡◌ {A = Bool} false true = w in absurd (let y : ◌≡◌ {A = ℕ} 0 1 = cc in omega arith)
row_complete bytes once at before (l ∷ ls) (n ∷ ns) rest w e =
    let p = and_parts (takes l n) _ w in
    let q = and_parts (not (once && repeated before n)) _ p.1 in
    let t = stands_is l once before n p.0 q.0 in
    let f : drop at bytes ≡ written 12 n ++ (fields_of ns ++ rest) = e ∙ append_assoc (written 12 n) (fields_of ns) rest in
    let r = reads_here bytes at l.most n (fields_of ns ++ rest) f t.small t.fitting in
    let d : drop (at + 12) bytes ≡ fields_of ns ++ rest =
    sym (drop-drop 12 at bytes) ∙ ap (drop 12) f ∙ drop_at (written 12 n) (fields_of ns ++ rest) 12 (length-written 12 n) in
    ap (λ (r : Result ℕ FieldFault). unless_fault r (λ m. row_from bytes once (at + 12) (before ++ m ∷ []) ls)) (field_right bytes at l once before n r t.right)
    ∙ row_complete bytes once (at + 12) (before ++ n ∷ []) ls ns rest q.1 d ∙ ap Ok (append_assoc before (n ∷ []) ns)

-- ---- the numbers one by one

within_tail : (once : Bool) (before : List ℕ) (l : Limit) (ls : List Limit) (n : ℕ) (ns : List ℕ) → within once before (l ∷ ls) (n ∷ ns) ≡ true
    → (takes l n ≡ true) × (within once (before ++ n ∷ []) ls ns ≡ true)
unfolding within
within_tail once before l ls n ns w = let p = and_parts (takes l n) _ w in (p.0, (and_parts (not (once && repeated before n)) _ p.1).1)

pub within-length : (once : Bool) (before : List ℕ) (limits : List Limit) (numbers : List ℕ) → within once before limits numbers ≡ true → length numbers ≡ length limits
unfolding within
within-length once before [] [] w = refl
within-length once before [] (n ∷ ns) w = absurd (let y : ◌≡◌ {A = ℕ} 0 1 = cc in omega arith)
within-length once before (l ∷ ls) [] w = absurd (let y : ◌≡◌ {A = ℕ} 0 1 = cc in omega arith)
within-length once before (l ∷ ls) (n ∷ ns) w = ap suc (within-length once (before ++ n ∷ []) ls ns (within_tail once before l ls n ns w).1)

takes-fits : (l : Limit) (n : ℕ) → takes l n ≡ true → (n ≤ l.most) × (fits 12 n ≡ true)
unfolding takes
takes-fits l n t =
    let p = and_parts (leb l.least n) _ t in
    let q = and_parts (leb n l.most) _ p.1 in (leb-true n l.most q.0, q.1)

pub within-fit : (once : Bool) (before : List ℕ) (limits : List Limit) (numbers : List ℕ) → within once before limits numbers ≡ true → all_fit numbers ≡ true
unfolding all_fit
within-fit once before limits [] w = refl
within-fit once before [] (n ∷ ns) w = let e = within-length once before [] (n ∷ ns) w in absurd (omega arith)
within-fit once before (l ∷ ls) (n ∷ ns) w =
    let p = within_tail once before l ls n ns w in
    and_from _ _ (takes-fits l n p.0).1 (within-fit once (before ++ n ∷ []) ls ns p.1)

pub within_most : (once : Bool) (before : List ℕ) (limits : List Limit) (numbers : List ℕ) (k : ℕ) → within once before limits numbers ≡ true → k < length limits
    → get_or numbers k 0 ≤ (limit_at limits k).most
within_most once before [] ns k w h = absurd (omega arith)
within_most once before (l ∷ ls) [] k w h = let e = within-length once before (l ∷ ls) [] w in absurd (omega arith)
within_most once before (l ∷ ls) (n ∷ ns) zero w h = (takes-fits l n (within_tail once before l ls n ns w).0).0
within_most once before (l ∷ ls) (n ∷ ns) (suc k) w h = within_most once (before ++ n ∷ []) ls ns k (within_tail once before l ls n ns w).1 (omega arith)

-- the first numbers of a list, one by one
abbrev pub spread : ℕ → List ℕ → List ℕ
spread zero ns = []
spread (suc k) ns = spread k ns ++ get_or ns k 0 ∷ []

take_spread : (k : ℕ) (ns : List ℕ) → k ≤ length ns → take k ns ≡ spread k ns
take_spread zero ns h = refl
take_spread (suc k) ns h = take-suc ns k 0 h ∙ ap (λ (z : List ℕ). z ++ get_or ns k 0 ∷ []) (take_spread k ns (omega arith))

pub within_spread : (once : Bool) (limits : List Limit) (numbers : List ℕ) → within once [] limits numbers ≡ true → numbers ≡ spread (length limits) numbers
within_spread once limits numbers w =
    let l = within-length once [] limits numbers w in
    sym (take_all (length limits) numbers (omega arith)) ∙ take_spread (length limits) numbers (omega arith)

-- ---- a record

record_long : (block : List ℕ) (limits : List Limit) (once : Bool) → length block ≡ 512
    → record_answer block limits once
    ≡ unless_fault (row_from block once 0 [] limits) (λ numbers. unless_fault (spaces_from (12 * length limits) (drop (12 * length limits) block)) (λ _. Ok numbers))
unfolding record_answer
record_long block limits once h = cond-true _ _ _ (eq-eqb (length block) 512 h)

answer_sound : (block : List ℕ) (limits : List Limit) (once : Bool) (numbers : List ℕ) → record_answer block limits once ≡ Ok numbers
    → (within once [] limits numbers ≡ true) × (block ≡ row_of 512 numbers)
unfolding record_answer row_of
answer_sound block limits once numbers =
    let P : Result (List ℕ) FieldFault → Type 0 = λ r. r ≡ Ok numbers → (within once [] limits numbers ≡ true) × (block ≡ row_of 512 numbers) in
    let from : ℕ = 12 * length limits in
    cond_both (eqb (length block) 512) (unless_fault (row_from block once 0 [] limits) (λ ns. unless_fault (spaces_from (12 * length limits) (drop (12 * length limits) block)) (λ _. Ok ns))) _ P
    (λ e k.
    let l = eqb-true (length block) 512 e in
    let p = passed (row_from block once 0 [] limits) _ numbers k in
    let q = passed (spaces_from (12 * length limits) (drop (12 * length limits) block)) _ numbers p.2 in
    let i : p.0 ≡ numbers = cc in
    let r = row_sound block once 0 [] limits numbers (p.1 ∙ ap Ok i) in
    let s = spaces_are (12 * length limits) (drop (12 * length limits) block) q.0 q.1 in
    let j : numbers ≡ r.numbers = r.joined in
    let w : within once [] limits numbers ≡ true = ap (within once [] limits) j ∙ r.inside in
    let n = within-length once [] limits numbers w in
    let d : length (drop (12 * length limits) block) ≡ 512 - 12 * length numbers = length-drop (12 * length limits) block ∙ (omega arith) in (
      w,
      sym (take-append-drop (12 * length limits) block) ∙ ap (λ (z : List ℕ). z ++ drop (12 * length limits) block) (r.exact ∙ ap fields_of (sym j))
          ∙ ap (λ (z : List ℕ). fields_of numbers ++ z) (s ∙ ap (λ (z : ℕ). replicate z 32) d),
    ))
    (λ e k. let z : ◌≡◌ {A = ℕ} 0 1 = cc in absurd (omega arith))

answer_complete : (block : List ℕ) (limits : List Limit) (once : Bool) (numbers : List ℕ) → within once [] limits numbers ≡ true → block ≡ row_of 512 numbers
    → 12 * length numbers ≤ 512 → record_answer block limits once ≡ Ok numbers
unfolding row_of
answer_complete block limits once numbers w e s =
    let r : length (replicate {A = ℕ} (512 - 12 * length numbers) 32) ≡ 512 - 12 * length numbers = length-replicate {A = ℕ} (512 - 12 * length numbers) 32 in
    let f = length_fields numbers in
    let a = length-append (fields_of numbers) (replicate (512 - 12 * length numbers) 32) in
    let n = within-length once [] limits numbers w in
    let l : length block ≡ 512 = ap length e ∙ (omega arith) in
    let c : row_from block once 0 [] limits ≡ Ok numbers = row_complete block once 0 [] limits numbers (replicate (512 - 12 * length numbers) 32) w e in
    let d : drop (12 * length limits) block ≡ replicate (512 - 12 * length numbers) 32 =
    ap (drop (12 * length limits)) e ∙ drop_at (fields_of numbers) (replicate (512 - 12 * length numbers) 32) (12 * length limits) (omega arith) in
    record_long block limits once l
    ∙ ap (λ (z : Result (List ℕ) FieldFault). unless_fault z (λ ns. unless_fault (spaces_from (12 * length limits) (drop (12 * length limits) block)) (λ _. Ok ns))) c
    ∙ ap (λ (z : Result (Unit {0}) FieldFault). unless_fault z (λ _. Ok numbers)) (ap (spaces_from (12 * length limits)) d ∙ spaces_pass (12 * length limits) (512 - 12 * length numbers))

-- what a reader answers, with its law
pub answered : (block : List ℕ) (limits : List Limit) (once : Bool) (r : Result (List ℕ) FieldFault) → r ≡ record_answer block limits once → RoundTrip block limits once r
answered block limits once r e =
    record { sound = λ numbers h. answer_sound block limits once numbers (sym e ∙ h); complete = λ numbers w b s. e ∙ answer_complete block limits once numbers w b s }

-- ---- a row anywhere

pub row_read : (bytes : List ℕ) (once : Bool) (at : ℕ) (limits : List Limit) (numbers : List ℕ) → row_from bytes once at [] limits ≡ Ok numbers
    → (within once [] limits numbers ≡ true) × (take (12 * length limits) (drop at bytes) ≡ fields_of numbers)
row_read bytes once at limits numbers h =
    let s = row_sound bytes once at [] limits numbers h in
    let j = s.joined in (ap (within once [] limits) j ∙ s.inside, s.exact ∙ ap fields_of (sym j))

pub row_is_read : (bytes : List ℕ) (once : Bool) (at : ℕ) (limits : List Limit) (numbers rest : List ℕ) → within once [] limits numbers ≡ true
    → drop at bytes ≡ fields_of numbers ++ rest → row_from bytes once at [] limits ≡ Ok numbers
row_is_read bytes once at limits numbers rest w e = row_complete bytes once at [] limits numbers rest w e
