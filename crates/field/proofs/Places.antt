-- Fields at places of a block: a write changes its own columns and no others, and reads back.
use Rattle.std.proofs.Common.{◌≡◌, ℕ, ◌+◌, ◌-◌, ◌<◌, ◌≤◌, true, false, leb, ◌⊎◌, List, ◌++◌, length, take, drop, Ok, Err, Result, sym, refl, ap, ◌∙◌, inl, inr, arith, lt-ltb, le-leb, leb-true}
use borrow.Rule.Slice.PartMut.{put_mid}
use Rattle.std.proofs.lemmas.List.{length-take-le, length-take, length-drop, length-append, drop-drop, take-append-drop, take_at, drop_at, take-append-le, take-take, drop-take, append_assoc}
use Rattle.std.proofs.lemmas.Bool.{cond_both, cond-true, cond-false, and_left, and_right, and_from, and_parts}
use Rattle.std.specs.Result.{MatchResult, IsErrAnd}
use Rattle.std.proofs.lemmas.Result.{MatchResult-weaker, err_from_is_err_and}
use Rattle.field.specs.declared.FieldFault.{FieldFault}
use Rattle.field.specs.Fields.{written, room, fits, put_answer, fits_at, put_at, read_answer, columns_at, read_at}
use Rattle.field.proofs.Columns.{length-written}
use Rattle.field.proofs.Writing.{Puts, answer_ok, answer_err}
use Rattle.field.proofs.Reading.{answer_is, answer_fault, answer_moves, fault_moves, reads-written}

-- the columns as the code lends them
abbrev pub lent : List ℕ → ℕ → ℕ → List ℕ
lent block at columns = take (at + columns - at) (drop at block)

pub lent_is : (xs : List ℕ) (at w : ℕ) → lent xs at w ≡ columns_at xs at w
lent_is xs at w = let k : at + w - at ≡ w = omega arith in ap (λ (z : ℕ). take z (drop at xs)) k

length_columns : (xs : List ℕ) (at w : ℕ) → at + w ≤ length xs → length (columns_at xs at w) ≡ w
length_columns xs at w h = length-take-le w (drop at xs) (simp length-drop (omega arith))

length_lent : (xs : List ℕ) (at w : ℕ) → at + w ≤ length xs → length (lent xs at w) ≡ w
length_lent xs at w h = ap length (lent_is xs at w) ∙ length_columns xs at w h

-- ---- what the two functions answer and leave

abbrev pub PutsAt : List ℕ → ℕ → ℕ → ℕ → Result (Unit {0}) FieldFault → List ℕ → Type 0
PutsAt xs at w n r ys = (r ≡ put_answer (fits_at xs at w n) at) × (ys ≡ put_at xs at w n)

puts_nothing : (xs ys : List ℕ) (at w n : ℕ) → fits_at xs at w n ≡ false → ys ≡ xs → PutsAt xs at w n (Err (record { at = at })) ys
unfolding put_at
puts_nothing xs ys at w n f e = ((simp f), e ∙ sym (cond-false (fits_at xs at w n) _ _ f))

pub puts_short : (xs : List ℕ) (at w n : ℕ) → leb (at + w) (length xs) ≡ false → PutsAt xs at w n (Err (record { at = at })) xs
unfolding fits_at
puts_short xs at w n h = puts_nothing xs xs at w n (and_left (leb (at + w) (length xs)) (fits w n) h) refl

puts_columns : (xs ys : List ℕ) (at w n : ℕ) (u : Unit {0}) → leb (at + w) (length xs) ≡ true → Puts (lent xs at w) n (Ok u) ys
    → PutsAt xs at w n (Ok tt) (put_mid at (at + w - at) xs ys)
unfolding fits_at put_at
puts_columns xs ys at w n u h p =
    let l = length_lent xs at w (leb-true (at + w) (length xs) h) in
    let f : fits (length (lent xs at w)) n ≡ true = answer_ok _ 0 u p.0 in
    let t : fits_at xs at w n ≡ true = and_from (leb (at + w) (length xs)) (fits w n) h (ap (λ (k : ℕ). fits k n) (sym l) ∙ f) in
    let y : ys ≡ written w n = p.1 ∙ cond-true _ _ _ f ∙ ap (λ (k : ℕ). written k n) l in
    let d : drop (at + w - at) (drop at xs) ≡ drop (at + w) xs = let k : at + (at + w - at) ≡ at + w = omega arith in drop-drop (at + w - at) at xs ∙ ap (λ (z : ℕ). drop z xs) k in
    ((simp t), (cc (y, d)) ∙ sym (cond-true (fits_at xs at w n) _ _ t))

puts_refused : (xs ys : List ℕ) (at w n : ℕ) (e : FieldFault) → leb (at + w) (length xs) ≡ true → Puts (lent xs at w) n (Err e) ys
    → PutsAt xs at w n (Err (record { at = at })) (put_mid at (at + w - at) xs ys)
unfolding fits_at
puts_refused xs ys at w n e h p =
    let l = length_lent xs at w (leb-true (at + w) (length xs) h) in
    let f = (answer_err _ 0 e p.0).0 in
    let t : fits_at xs at w n ≡ false = and_right (leb (at + w) (length xs)) (fits w n) (ap (λ (k : ℕ). fits k n) (sym l) ∙ f) in
    let y : ys ≡ lent xs at w = p.1 ∙ cond-false _ _ _ f in
    let a = take-append-drop (at + w - at) (drop at xs) in
    let b = take-append-drop at xs in
    puts_nothing xs (put_mid at (at + w - at) xs ys) at w n t (cc (y, a, b))

-- q is the answer r with its fault moved to `at`
abbrev pub Moved : {T : Type 0} → ℕ → Result T FieldFault → Result T FieldFault → Type 0
Moved at r q = MatchResult r (λ x. q ≡ Ok x) (λ _. q ≡ Err (record { at = at }))

-- as `map_err` leaves it
pub moved : {T : Type 0} (at : ℕ) (r q : Result T FieldFault) (Q : FieldFault → FieldFault → Type 0) → ((e f : FieldFault) → Q e f → f ≡ record { at = at })
    → MatchResult r (λ x. q ≡ Ok x) (λ e. IsErrAnd q (Q e)) → Moved at r q
moved at r q Q h m =
    MatchResult-weaker r m (λ x e. e) (λ e i. let p = err_from_is_err_and q i in p.1 ∙ ap (λ (f : FieldFault). Err f) (h e p.0 p.2))

pub puts_moved : (xs ys : List ℕ) (at w n : ℕ) (r q : Result (Unit {0}) FieldFault) → leb (at + w) (length xs) ≡ true → Puts (lent xs at w) n r ys → Moved at r q
    → PutsAt xs at w n q (put_mid at (at + w - at) xs ys)
puts_moved xs ys at w n (Ok u) q h p m = let b = puts_columns xs ys at w n u h p in (m ∙ b.0, b.1)
puts_moved xs ys at w n (Err e) q h p m = let b = puts_refused xs ys at w n e h p in (m ∙ b.0, b.1)

pub reads_short : (xs : List ℕ) (at w most : ℕ) → leb (at + w) (length xs) ≡ false → Err (record { at = at }) ≡ read_at xs at w most
unfolding read_at
reads_short xs at w most h = sym (cond-false (leb (at + w) (length xs)) _ _ h)

reads_columns : (xs : List ℕ) (at w most n : ℕ) → leb (at + w) (length xs) ≡ true → Ok n ≡ read_answer most (lent xs at w) 0 → Ok n ≡ read_at xs at w most
unfolding read_at
reads_columns xs at w most n h e =
    sym (cond-true (leb (at + w) (length xs)) _ _ h ∙ ap (λ (z : List ℕ). read_answer most z at) (sym (lent_is xs at w)) ∙ answer_moves most (lent xs at w) 0 at n (sym e))

reads_fault : (xs : List ℕ) (at w most : ℕ) (f : FieldFault) → leb (at + w) (length xs) ≡ true → Err f ≡ read_answer most (lent xs at w) 0
    → Err (record { at = at }) ≡ read_at xs at w most
unfolding read_at
reads_fault xs at w most f h e =
    sym (cond-true (leb (at + w) (length xs)) _ _ h ∙ ap (λ (z : List ℕ). read_answer most z at) (sym (lent_is xs at w)) ∙ fault_moves most (lent xs at w) 0 at f (sym e))

pub reads_moved : (xs : List ℕ) (at w most : ℕ) (r q : Result ℕ FieldFault) → leb (at + w) (length xs) ≡ true → r ≡ read_answer most (lent xs at w) 0 → Moved at r q
    → q ≡ read_at xs at w most
reads_moved xs at w most (Ok n) q h e m = m ∙ reads_columns xs at w most n h e
reads_moved xs at w most (Err f) q h e m = m ∙ reads_fault xs at w most f h e

-- ---- what an answer says

pub read_at_fault : (xs : List ℕ) (at w most : ℕ) (e : FieldFault) → read_at xs at w most ≡ Err e → e ≡ record { at = at }
unfolding read_at
read_at_fault xs at w most e =
    let P : Result ℕ FieldFault → Type 0 = λ r. r ≡ Err e → e ≡ record { at = at } in
    cond_both (leb (at + w) (length xs)) (read_answer most (columns_at xs at w) at) (Err (record { at = at })) P
    (λ t. answer_fault most (columns_at xs at w) at e) (λ f h. cc)

pub record Holds (most : ℕ) (block : List ℕ) (at columns number : ℕ) : Type 0 where
  pub reached : at + columns ≤ length block
  pub small : number ≤ most
  pub fitting : number < room columns
  pub exact : columns_at block at columns ≡ written columns number

pub read_at_number : (xs : List ℕ) (at w most n : ℕ) → read_at xs at w most ≡ Ok n → Holds most xs at w n
unfolding read_at
read_at_number xs at w most n =
    let P : Result ℕ FieldFault → Type 0 = λ r. r ≡ Ok n → Holds most xs at w n in
    cond_both (leb (at + w) (length xs)) (read_answer most (columns_at xs at w) at) (Err (record { at = at })) P
    (λ t h.
    let r = leb-true (at + w) (length xs) t in
    let f = answer_is most (columns_at xs at w) at n h in
    let l = length_columns xs at w r in
    record { reached = r; small = f.small; fitting = rw l at f.fitting; exact = f.exact ∙ ap (λ (k : ℕ). written k n) l })
    (λ t h. let z : ◌≡◌ {A = ℕ} 0 1 = cc in absurd (omega arith))

-- ---- the laws of a block of fields

pub put_at_fitting : (xs : List ℕ) (at w n : ℕ) → at + w ≤ length xs → n < room w → put_at xs at w n ≡ take at xs ++ (written w n ++ drop (at + w) xs)
unfolding put_at fits_at
put_at_fitting xs at w n h f =
    cond-true (fits_at xs at w n) _ _ (and_from (leb (at + w) (length xs)) (fits w n) (le-leb (at + w) (length xs) h) (lt-ltb n (room w) f))

length_placed : (xs : List ℕ) (at w n : ℕ) → at + w ≤ length xs → length (take at xs ++ (written w n ++ drop (at + w) xs)) ≡ length xs
length_placed xs at w n h = let l = length-written w n in simp (length-append, length-take, length-drop, l) (omega arith)

pub length-put_at : (xs : List ℕ) (at w n : ℕ) → length (put_at xs at w n) ≡ length xs
unfolding put_at fits_at
length-put_at xs at w n =
    let P : List ℕ → Type 0 = λ ys. length ys ≡ length xs in
    cond_both (fits_at xs at w n) (take at xs ++ (written w n ++ drop (at + w) xs)) xs P
    (λ e. length_placed xs at w n (leb-true (at + w) (length xs) (and_parts (leb (at + w) (length xs)) (fits w n) e).0)) (λ e. refl)

-- a field written is there
pub columns_put : (xs : List ℕ) (at w n : ℕ) → at + w ≤ length xs → n < room w → columns_at (put_at xs at w n) at w ≡ written w n
columns_put xs at w n h f =
    let t : length (take at xs) ≡ at = length-take-le at xs (omega arith) in
    ap (λ (z : List ℕ). take w (drop at z)) (put_at_fitting xs at w n h f)
    ∙ ap (take w) (drop_at (take at xs) (written w n ++ drop (at + w) xs) at t) ∙ take_at (written w n) (drop (at + w) xs) w (length-written w n)

pub reads_put : (xs : List ℕ) (at w n most : ℕ) → at + w ≤ length xs → n < room w → n ≤ most → read_at (put_at xs at w n) at w most ≡ Ok n
unfolding read_at
reads_put xs at w n most h f s =
    cond-true (leb (at + w) (length (put_at xs at w n))) _ _ (le-leb (at + w) (length (put_at xs at w n)) (rw length-put_at h))
    ∙ ap (λ (z : List ℕ). read_answer most z at) (columns_put xs at w n h f) ∙ reads-written most w at n s f

-- every field beside it is as it was
columns_before : (xs ys : List ℕ) (at to v : ℕ) → to + v ≤ at → at ≤ length xs → columns_at (take at xs ++ ys) to v ≡ columns_at xs to v
columns_before xs ys at to v h l =
    let t : length (take at xs) ≡ at = length-take-le at xs l in
    let k : to + v ≤ length (take at xs) = omega arith in
    sym (drop-take to v (take at xs ++ ys)) ∙ ap (drop to) (take-append-le (to + v) (take at xs) ys k ∙ take-take (to + v) at xs h) ∙ drop-take to v xs

columns_after : (xs ys zs : List ℕ) (end to v : ℕ) → end ≤ to → length (ys ++ zs) ≡ end → columns_at (ys ++ (zs ++ drop end xs)) to v ≡ columns_at xs to v
columns_after xs ys zs end to v h l =
    let k : end + (to - end) ≡ to = omega arith in
    let from : (l : List ℕ) → drop to l ≡ drop (to - end) (drop end l) = λ l. ap (λ (z : ℕ). drop z l) (sym k) ∙ sym (drop-drop (to - end) end l) in
    let d : drop end (ys ++ (zs ++ drop end xs)) ≡ drop end xs = ap (drop end) (sym (append_assoc ys zs (drop end xs))) ∙ drop_at (ys ++ zs) (drop end xs) end l in
    ap (take v) (from (ys ++ (zs ++ drop end xs)) ∙ ap (drop (to - end)) d ∙ sym (from xs))

pub columns_beside : (xs : List ℕ) (at w n to v : ℕ) → (to + v ≤ at) ⊎ (at + w ≤ to) → columns_at (put_at xs at w n) to v ≡ columns_at xs to v
unfolding put_at fits_at
columns_beside xs at w n to v h =
    let P : List ℕ → Type 0 = λ ys. columns_at ys to v ≡ columns_at xs to v in
    cond_both (fits_at xs at w n) (take at xs ++ (written w n ++ drop (at + w) xs)) xs P
    (λ e.
    let r : at + w ≤ length xs = leb-true (at + w) (length xs) (and_parts (leb (at + w) (length xs)) (fits w n) e).0 in
    let t : length (take at xs) ≡ at = length-take-le at xs (omega arith) in
    let l : length (take at xs ++ written w n) ≡ at + w = length-append (take at xs) (written w n) ∙ (rw (t, length-written w n)) in
    elim h [
      | inl before ↦ columns_before xs (written w n ++ drop (at + w) xs) at to v before (omega arith)
      | inr after ↦ columns_after xs (take at xs) (written w n) (at + w) to v after l
    ])
    (λ e. refl)
