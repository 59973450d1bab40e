-- A row is written field by field.
use Rattle.std.proofs.Common.{◌≡◌, ℕ, zero, suc, ◌+◌, ◌-◌, ◌*◌, ◌<◌, ◌≤◌, true, false, leb, nat_lt, List, [], ◌∷◌, ◌++◌, length, get_or, take, drop, replicate, Ok, Err, Result, sym, refl, ap, ◌∙◌, arith, ltb-true, lt-ltb, le-leb, leb-true}
use Rattle.std.specs.List.{list_all}
use Rattle.std.proofs.lemmas.List.{take_all, take_more, length-append, length-take-le, length-drop, length-replicate, drop-drop, take_at, drop_at, drop-replicate, append_assoc, append-nil, take-append-drop}
use Rattle.std.proofs.lemmas.Bool.{cond-true, cond-false, and_left, and_right, and_from, and_parts}
use Rattle.field.specs.declared.FieldFault.{FieldFault}
use Rattle.field.specs.Fields.{written, room, fits, fits_at, put_answer, put_at}
use Rattle.field.proofs.Columns.{length-written}
use Rattle.field.proofs.Places.{put_at_fitting}
use Rattle.row.specs.Rows.{fields_of, all_fit, fits_row, put_row}
use Rattle.row.specs.Records.{row_of, written_as}

-- ---- the bytes of a row

pub length_fields : (ns : List ℕ) → length (fields_of ns) ≡ 12 * length ns
unfolding fields_of
length_fields [] = refl
length_fields (n ∷ ns) = let l = length-written 12 n in let k = length_fields ns in length-append (written 12 n) (fields_of ns) ∙ omega arith

pub fields_push : (ns : List ℕ) (n : ℕ) → fields_of (ns ++ n ∷ []) ≡ fields_of ns ++ written 12 n
unfolding fields_of
fields_push [] n = append-nil (written 12 n)
fields_push (m ∷ ns) n = ap (λ (z : List ℕ). written 12 m ++ z) (fields_push ns n) ∙ sym (append_assoc (written 12 m) (fields_of ns) (written 12 n))

-- ---- every number has a field

pub all_fit-below : (ns : List ℕ) → list_all (λ n. nat_lt n 1000000000000) ns ≡ all_fit ns
unfolding all_fit room
all_fit-below ns = refl

pub fits_small : (n : ℕ) → n < 1000000000000 → fits 12 n ≡ true
unfolding room
fits_small n h = lt-ltb n (room 12) h

fit_at : (ns : List ℕ) (i : ℕ) → all_fit ns ≡ true → i < length ns → get_or ns i 0 < room 12
unfolding all_fit
fit_at [] i f h = absurd (omega arith)
fit_at (n ∷ ns) zero f h = ltb-true n (room 12) (and_parts (fits 12 n) (all_fit ns) f).0
fit_at (n ∷ ns) (suc i) f h = fit_at ns i (and_parts (fits 12 n) (all_fit ns) f).1 (omega arith)

-- ---- the row while it is written, i numbers so far

abbrev pub partly : List ℕ → ℕ → List ℕ → ℕ → List ℕ
partly before at ns i = (take at before ++ fields_of (take i ns)) ++ drop (at + 12 * i) before

put_after : (front out before : List ℕ) (at n : ℕ) → out ≡ front ++ drop at before → length front ≡ at → at + 12 ≤ length before → n < room 12
    → put_at out at 12 n ≡ (front ++ written 12 n) ++ drop (at + 12) before
put_after front out before at n e l h f =
    let k : length out ≡ length before = ap length e ∙ simp (length-append, length-drop) (omega arith) in
    let t : take at out ≡ front = ap (take at) e ∙ take_at front (drop at before) at l in
    let d : drop at out ≡ drop at before = ap (drop at) e ∙ drop_at front (drop at before) at l in
    let r : drop (at + 12) out ≡ drop (at + 12) before = sym (drop-drop 12 at out) ∙ ap (drop 12) d ∙ drop-drop 12 at before in
    put_at_fitting out at 12 n (omega arith) f ∙ (rw (t, r)) ∙ sym (append_assoc front (written 12 n) (drop (at + 12) before))

pub partly_none : (before : List ℕ) (at : ℕ) (ns : List ℕ) → before ≡ partly before at ns 0
unfolding fields_of
partly_none before at ns =
    let k : at + 12 * 0 ≡ at = omega arith in
    sym (take-append-drop at before) ∙ ap (λ (z : List ℕ). z ++ drop at before) (sym (append-nil (take at before)))
    ∙ ap (λ (z : ℕ). (take at before ++ []) ++ drop z before) (sym k)

-- there is room for the row, and each of its numbers has a field
pub record Fitting (bytes : List ℕ) (at : ℕ) (ns : List ℕ) : Type 0 where
  pub roomy : leb (at + 12 * length ns) (length bytes) ≡ true
  pub small : all_fit ns ≡ true

-- the next field stands in its columns
pub partly_fits : (before out : List ℕ) (at : ℕ) (ns : List ℕ) (i : ℕ) → out ≡ partly before at ns i → i < length ns → Fitting before at ns
    → fits_at out (at + 12 * i) 12 (get_or ns i 0) ≡ true
unfolding fits_at
partly_fits before out at ns i e h f =
    let b = leb-true (at + 12 * length ns) (length before) f.roomy in
    let ta = length-take-le at before (omega arith) in
    let ti = length-take-le i ns (omega arith) in
    let lf = length_fields (take i ns) in
    let la = length-append (take at before) (fields_of (take i ns)) in
    let lp = length-append (take at before ++ fields_of (take i ns)) (drop (at + 12 * i) before) in
    let ld = length-drop (at + 12 * i) before in
    let l : length out ≡ length before = ap length e ∙ (omega arith) in
    and_from _ _ (le-leb (at + 12 * i + 12) (length out) (omega arith)) (lt-ltb (get_or ns i 0) (room 12) (fit_at ns i f.small h))

-- and so is never refused
pub never_refused : {A : Type 0} (before out : List ℕ) (at : ℕ) (ns : List ℕ) (i n : ℕ) (fault : FieldFault) → out ≡ partly before at ns i → i < length ns → Fitting before at ns
    → n ≡ get_or ns i 0 → Err fault ≡ put_answer (fits_at out (at + 12 * i) 12 n) (at + 12 * i) → A
never_refused before out at ns i n fault e h f m r =
    let t = partly_fits before out at ns i e h f in
    let u : fits_at out (at + 12 * i) 12 n ≡ true = ap (fits_at out (at + 12 * i) 12) m ∙ t in
    let q : ◌≡◌ {A = Result (Unit {0}) FieldFault} (Err fault) (Ok tt) = r ∙ (simp u) in
    absurd (let y : ◌≡◌ {A = ℕ} 0 1 = cc in omega arith)

pub partly_more : (before out : List ℕ) (at : ℕ) (ns : List ℕ) (i : ℕ) → out ≡ partly before at ns i → i < length ns → Fitting before at ns
    → put_at out (at + 12 * i) 12 (get_or ns i 0) ≡ partly before at ns (i + 1)
partly_more before out at ns i e h f =
    let b = leb-true (at + 12 * length ns) (length before) f.roomy in
    let front : List ℕ = take at before ++ fields_of (take i ns) in
    let ta = length-take-le at before (omega arith) in
    let ti = length-take-le i ns (omega arith) in
    let lf = length_fields (take i ns) in
    let l : length (take at before ++ fields_of (take i ns)) ≡ at + 12 * i = length-append (take at before) (fields_of (take i ns)) ∙ (omega arith) in
    let m : fields_of (take (i + 1) ns) ≡ fields_of (take i ns) ++ written 12 (get_or ns i 0) = ap fields_of (take_more ns i 0 h) ∙ fields_push (take i ns) (get_or ns i 0) in
    let k : at + 12 * i + 12 ≡ at + 12 * (i + 1) = omega arith in
    put_after front out before (at + 12 * i) (get_or ns i 0) e l (omega arith) (fit_at ns i f.small h)
    ∙ ap (λ (z : List ℕ). z ++ drop (at + 12 * i + 12) before)
    (append_assoc (take at before) (fields_of (take i ns)) (written 12 (get_or ns i 0)) ∙ ap (λ (z : List ℕ). take at before ++ z) (sym m))
    ∙ ap (λ (z : ℕ). (take at before ++ fields_of (take (i + 1) ns)) ++ drop z before) k

-- what the writer answers and leaves
abbrev pub Puts : List ℕ → ℕ → List ℕ → Result (Unit {0}) FieldFault → List ℕ → Type 0
Puts bytes at ns r after = (r ≡ put_answer (fits_row bytes at ns) at) × (after ≡ put_row bytes at ns)

refused : (bytes : List ℕ) (at : ℕ) (ns : List ℕ) → fits_row bytes at ns ≡ false → Puts bytes at ns (Err (record { at = at })) bytes
unfolding put_row
refused bytes at ns f = ((simp f), sym (cond-false (fits_row bytes at ns) _ _ f))

pub no_room : (bytes : List ℕ) (at : ℕ) (ns : List ℕ) → leb (at + 12 * length ns) (length bytes) ≡ false → Puts bytes at ns (Err (record { at = at })) bytes
unfolding fits_row
no_room bytes at ns h = refused bytes at ns (and_left _ (all_fit ns) h)

pub too_large : (bytes : List ℕ) (at : ℕ) (ns : List ℕ) → all_fit ns ≡ false → Puts bytes at ns (Err (record { at = at })) bytes
unfolding fits_row
too_large bytes at ns h = refused bytes at ns (and_right (leb (at + 12 * length ns) (length bytes)) _ h)

-- a row that fits stands there
pub put_fitting : (bytes : List ℕ) (at : ℕ) (ns : List ℕ) → Fitting bytes at ns
    → (fits_row bytes at ns ≡ true) × (put_row bytes at ns ≡ (take at bytes ++ fields_of ns) ++ drop (at + 12 * length ns) bytes)
unfolding put_row fits_row
put_fitting bytes at ns f = let t = and_from (leb (at + 12 * length ns) (length bytes)) (all_fit ns) f.roomy f.small in (t, cond-true (fits_row bytes at ns) _ _ t)

pub put_all : (bytes out : List ℕ) (at : ℕ) (ns : List ℕ) (i : ℕ) → out ≡ partly bytes at ns i → i ≡ length ns → Fitting bytes at ns → Puts bytes at ns (Ok tt) out
put_all bytes out at ns i e n f =
    let p = put_fitting bytes at ns f in
    let q = p.0 in
    let t : take i ns ≡ ns = take_all i ns (omega arith) in
    ((simp q), e ∙ (rw (t, n)) ∙ sym p.1)

-- ---- a record

pub block_is : (ns out : List ℕ) → out ≡ put_row (replicate 512 32) 0 ns → out ≡ written_as ns
unfolding put_row written_as row_of
block_is ns out e =
    let k : 0 + 12 * length ns ≡ 12 * length ns = omega arith in
    let d : drop (0 + 12 * length ns) (replicate {A = ℕ} 512 32) ≡ replicate (512 - (0 + 12 * length ns)) 32 = drop-replicate (0 + 12 * length ns) 512 32 in
    e ∙ (rw (d, k))

-- numbers that fit are written as their row
pub block_fitting : (ns : List ℕ) → 12 * length ns ≤ 512 → all_fit ns ≡ true → written_as ns ≡ row_of 512 ns
unfolding written_as
block_fitting ns h f =
    let l : length (replicate {A = ℕ} 512 32) ≡ 512 = length-replicate {A = ℕ} 512 32 in
    cond-true _ _ _ (put_fitting (replicate 512 32) 0 ns (record { roomy = le-leb (0 + 12 * length ns) (length (replicate {A = ℕ} 512 32)) (omega arith); small = f })).0
