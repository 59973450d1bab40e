-- The activity record: its limits, its round trip, and the bits that it marks.
use Rattle.std.proofs.Common.{◌≡◌, ℕ, zero, suc, ◌+◌, ◌-◌, ◌/◌, ◌^◌, ◌<◌, ◌≤◌, min, Bool, true, false, cond, ◌&&◌, ◌||◌, eqb, ltb, List, [], ◌∷◌, ◌++◌, length, get_or, take, drop, replicate, Ok, Err, Result, sym, refl, ap, ◌∙◌, subst, inl, inr, arith}
use Rattle.std.proofs.lemmas.List.{at_drop_more, at_drop_all, length-append, length-replicate, append-nil, drop-replicate, length-take-le, get_or_past}
use Rattle.std.proofs.lemmas.Bool.Decides.{same_from_decides, Decides-eqb, Decides-like}
use Rattle.std.proofs.lemmas.Bool.{eq-eqb, ne_eqb, eqb-true, eqb-false, cond-true, cond-false, cond_both, and_from, cases_lt}
use Rattle.field.specs.declared.FieldFault.{FieldFault}
use Rattle.bitmap.specs.Bits.{bit, with_extent}
use Rattle.bitmap.proofs.Laws.{bit-with_extent}
use Rattle.row.specs.declared.Limit.{Limit}
use Rattle.row.specs.Rows.{stands, all_fit, within}
use Rattle.row.specs.Records.{row_of, written_as, record_answer}
use Rattle.row.proofs.Writing.{fits_small, block_fitting}
use Rattle.row.proofs.Reading.{limit_at}
use Rattle.row.proofs.Laws as row
use Rattle.card.specs.declared.fault.RecordFault.{RecordFault}
use Rattle.card.specs.Activities.{extents_of, up_to, limits_at, told, read_answer, RoundTrip, marked}

-- ---- the limits

pub length_limits : (slots blocks : ℕ) → length (limits_at slots blocks) ≡ 16
length_limits slots blocks =
    let a = length-replicate (min slots 16) (up_to (extents_of blocks)) in
    let b = length-replicate (16 - min slots 16) (up_to 0) in
    length-append (replicate (min slots 16) (up_to (extents_of blocks))) (replicate (16 - min slots 16) (up_to 0)) ∙ omega arith

-- the limits as they are filled in
pub limits_filled : (slots blocks used most : ℕ) (part : List Limit) → used ≡ min slots 16 → most ≡ extents_of blocks
    → part ≡ replicate (length (take used (replicate 16 (up_to 0)))) (up_to most) → part ++ drop used (replicate 16 (up_to 0)) ≡ limits_at slots blocks
limits_filled slots blocks used most part u m p =
    let d : drop used (replicate 16 (up_to 0)) ≡ replicate (16 - used) (up_to 0) = drop-replicate used 16 (up_to 0) in
    let l : length (take used (replicate 16 (up_to 0))) ≡ used = length-take-le used (replicate 16 (up_to 0)) (omega arith) in
    (cc (d, l, u, m, p))

-- none is above the number of extents
most_same : (n most other : ℕ) (rest : List Limit) → ((k : ℕ) → (limit_at rest k).most ≤ other) → most ≤ other
    → (k : ℕ) → (limit_at (replicate n (up_to most) ++ rest) k).most ≤ other
most_same zero most other rest h m k = h k
most_same (suc n) most other rest h m zero = m
most_same (suc n) most other rest h m (suc k) = most_same n most other rest h m k

limits_most : (slots blocks k : ℕ) → (limit_at (limits_at slots blocks) k).most ≤ extents_of blocks
limits_most slots blocks k =
    let none : (k : ℕ) → (limit_at (replicate (16 - min slots 16) (up_to 0)) k).most ≤ extents_of blocks =
    λ k. rw append-nil at (most_same (16 - min slots 16) 0 (extents_of blocks) [] (λ j. omega arith) (omega arith) k) in
    most_same (min slots 16) (extents_of blocks) (extents_of blocks) (replicate (16 - min slots 16) (up_to 0)) none (omega arith) k

-- ---- writing

all_fit_lem : (ns : List ℕ) → ((k : ℕ) → get_or ns k 0 < 2 ^ 32) → all_fit ns ≡ true
unfolding all_fit
all_fit_lem [] h = refl
all_fit_lem (n ∷ ns) h = let z = h 0 in and_from _ _ (fits_small n (omega arith)) (all_fit_lem ns (λ k. h (suc k)))

pub block_of : (ns block : List ℕ) → length ns ≡ 16 → ((k : ℕ) → get_or ns k 0 < 2 ^ 32) → block ≡ written_as ns → block ≡ row_of 512 ns
block_of ns block l h e = e ∙ block_fitting ns (omega arith) (all_fit_lem ns h)

-- ---- reading

-- the numbers that were read have 32 bits
pub all_small : (block : List ℕ) (slots blocks : ℕ) (limits : List Limit) (ns : List ℕ) → blocks < 2 ^ 32 → limits ≡ limits_at slots blocks
    → Ok ns ≡ record_answer block limits true → (k : ℕ) → get_or ns k 0 < 2 ^ 32
all_small block slots blocks limits ns h e r k =
    let law = row.answered block limits true (record_answer block limits true) refl in
    let w : within true [] (limits_at slots blocks) ns ≡ true = subst (λ (z : List Limit). within true [] z ns ≡ true) e (law.sound ns (sym r)).0 in
    let m = row.within_most true [] (limits_at slots blocks) ns k w in
    let l = limits_most slots blocks k in
    let n = row.within-length true [] (limits_at slots blocks) ns w in
    let j = length_limits slots blocks in
    elim (cases_lt k 16) [ inl g ↦ (let q = m (omega arith) in omega arith) | inr g ↦ (let z = get_or_past ns k 0 (omega arith) in omega arith) ]

round_trip : (block : List ℕ) (slots blocks : ℕ) → RoundTrip block slots blocks (read_answer block slots blocks)
round_trip block slots blocks =
    let law = row.answered block (limits_at slots blocks) true (record_answer block (limits_at slots blocks) true) refl in
    let P : Result (List ℕ) FieldFault → Type 0 =
    λ r. record_answer block (limits_at slots blocks) true ≡ r → (numbers : List ℕ) → told r ≡ Ok numbers → record_answer block (limits_at slots blocks) true ≡ Ok numbers in
    let back : (r : Result (List ℕ) FieldFault) → P r =
    λ r. elim r as P [
      | Ok ns ↦ λ e numbers h. let q : ns ≡ numbers = cc in e ∙ ap Ok q
      | Err f ↦ λ e numbers h. let z : ◌≡◌ {A = ℕ} 0 1 = cc in absurd (omega arith)
    ] in
    record {
      sound = λ numbers h. law.sound numbers (back (record_answer block (limits_at slots blocks) true) refl numbers h);
      complete = λ numbers w e.
          let l = row.within-length true [] (limits_at slots blocks) numbers w in
          let m = length_limits slots blocks in ap told (law.complete numbers w e (omega arith));
    }

pub answered : (block : List ℕ) (slots blocks : ℕ) (r : Result (List ℕ) (RecordFault 1)) → r ≡ read_answer block slots blocks → RoundTrip block slots blocks r
answered block slots blocks r e =
    let P : Result (List ℕ) (RecordFault 1) → Type 0 = RoundTrip block slots blocks in subst P (sym e) (round_trip block slots blocks)

-- ---- marking

or_false : (b : Bool) → (b || false) ≡ b
or_false true = refl
or_false false = refl

pub marked_none : (blocks : ℕ) (ns xs : List ℕ) (i : ℕ) → length ns ≤ i → marked blocks (drop i ns) xs ≡ xs
unfolding marked
marked_none blocks ns xs i h = at_drop_all (λ (z : List ℕ). marked blocks z xs) ns i h

pub marked_empty : (blocks : ℕ) (ns xs : List ℕ) (i : ℕ) → i < length ns → get_or ns i 0 ≡ 0 → marked blocks (drop i ns) xs ≡ marked blocks (drop (i + 1) ns) xs
unfolding marked
marked_empty blocks ns xs i h e =
    at_drop_more (λ (z : List ℕ). marked blocks z xs) ns i 0 h
    ∙ ap (marked blocks (drop (i + 1) ns)) (cond-true _ _ _ (eq-eqb (get_or ns i 0) 0 e))

pub marked_extent : (blocks : ℕ) (ns xs : List ℕ) (i : ℕ) → i < length ns → (get_or ns i 0 ≡ 0 → ⊥)
    → marked blocks (drop i ns) xs ≡ marked blocks (drop (i + 1) ns) (with_extent xs (get_or ns i 0 - 1) blocks)
unfolding marked
marked_extent blocks ns xs i h e =
    at_drop_more (λ (z : List ℕ). marked blocks z xs) ns i 0 h
    ∙ ap (marked blocks (drop (i + 1) ns)) (cond-false _ _ _ (ne_eqb (get_or ns i 0) 0 e))

-- an extent is that of the number 1 above it
number_extent : (n k : ℕ) → (n ≡ 0 → ⊥) → eqb k (n - 1) ≡ eqb n (k + 1)
number_extent n k z =
    same_from_decides (eqb k (n - 1)) (eqb n (k + 1)) (Decides-eqb k (n - 1))
    (Decides-like (eqb n (k + 1)) (λ e. omega arith) (λ e. omega arith) (Decides-eqb n (k + 1)))

joined : (a b c d : Bool) → ((a || (b && d)) || (c && d)) ≡ (a || ((b || c) && d))
joined true b c d = refl
joined false true c true = refl
joined false true true false = refl
joined false true false false = refl
joined false false c d = refl

pub marked_bits : (blocks : ℕ) (ns xs : List ℕ) (j : ℕ) → j < 4096 → bit (marked blocks ns xs) j ≡ (bit xs j || (stands (j / 64 + 1) ns && ltb j blocks))
unfolding marked stands
marked_bits blocks [] xs j h = sym (or_false (bit xs j))
marked_bits blocks (n ∷ ns) xs j h =
    let q = marked_bits blocks ns (cond (eqb n 0) xs (with_extent xs (n - 1) blocks)) j h in
    let P : List ℕ → Type 0 = λ ys. bit ys j ≡ (bit xs j || (eqb n (j / 64 + 1) && ltb j blocks)) in
    let k : bit (cond (eqb n 0) xs (with_extent xs (n - 1) blocks)) j ≡ (bit xs j || (eqb n (j / 64 + 1) && ltb j blocks)) =
    cond_both (eqb n 0) xs (with_extent xs (n - 1) blocks) P
    (λ e. let z = eqb-true n 0 e in let f = ne_eqb n (j / 64 + 1) (λ y. absurd (omega arith)) in sym (ap (λ (b : Bool). bit xs j || (b && ltb j blocks)) f ∙ or_false (bit xs j)))
    (λ e. bit-with_extent xs (n - 1) blocks j h ∙ ap (λ (b : Bool). bit xs j || (b && ltb j blocks)) (number_extent n (j / 64) (eqb-false n 0 e))) in
    q ∙ ap (λ (b : Bool). b || (stands (j / 64 + 1) ns && ltb j blocks)) k ∙ joined (bit xs j) (eqb n (j / 64 + 1)) (stands (j / 64 + 1) ns) (ltb j blocks)
