-- The law of reading: bytes are read as a number exactly if they are what is written for it.
use Rattle.std.proofs.Common.{◌≡◌, ℕ, zero, suc, ◌+◌, ◌*◌, ◌/◌, ◌%◌, ◌<◌, ◌≤◌, true, eqb, ltb, leb, List, [], ◌∷◌, ◌++◌, length, replicate, Ok, Err, Result, sym, refl, ap, ◌∙◌, subst, inl, inr, mod-lt, arith, lit<, ltb-true, lt-ltb, eq-eqb, eqb-true, le-leb, leb-true}
use Rattle.std.proofs.lemmas.Nat.{div-add-mod'}
use Rattle.std.proofs.lemmas.List.Sums.{fold_push}
use Rattle.std.proofs.lemmas.Bool.{cond_both, cond-true, and_parts, cases_lt}
use Rattle.std.proofs.lemmas.Bool.Decides.{nat_tests}
use Rattle.field.specs.declared.FieldFault.{FieldFault}
use Rattle.field.specs.Fields.{written, room, worth, value, same, reads, read_answer, IsField, RoundTrip}
use Rattle.field.proofs.Columns.{room_none, room_less, written_last, written_more, length-written}

-- ---- equal lists

pub same_self : (xs : List ℕ) → same xs xs ≡ true
unfolding same
same_self [] = refl
same_self (x ∷ xs) = let e = eq-eqb x x refl in simp e (same_self xs)

pub same_equal : (xs ys : List ℕ) → same xs ys ≡ true → xs ≡ ys
unfolding same
same_equal [] [] h = refl
same_equal [] (y ∷ ys) h = cc
same_equal (x ∷ xs) [] h = cc
same_equal (x ∷ xs) (y ∷ ys) h =
    let t = and_parts (eqb x y) (same xs ys) h in
    let p = eqb-true x y t.0 in
    let q = same_equal xs ys t.1 in cc

-- ---- what is written counts the number

worth-digit : (d : ℕ) → d < 10 → worth (48 + d) ≡ d
unfolding worth
worth-digit d h = grind (arith, nat_tests)

value_spaces : (w : ℕ) → value (replicate w 32) ≡ 0
unfolding value
value_spaces zero = refl
value_spaces (suc w) = value_spaces w

value-digit : (xs : List ℕ) (n : ℕ) → value xs ≡ n / 10 → value (xs ++ (48 + n % 10) ∷ []) ≡ n
unfolding value
value-digit xs n e =
    fold_push (λ a x. a * 10 + worth x) 0 xs (48 + n % 10) ∙ (rw (e, worth-digit (n % 10) (mod-lt n (lit< tt))) (div-add-mod' n 10))

pub value_written : (w n : ℕ) → n < room w → value (written w n) ≡ n
value_written zero n h = absurd (omega (arith, room_none n))
value_written (suc w) n h =
    elim (cases_lt n 10) [
      | inl l ↦
          let z : value (replicate w 32) ≡ n / 10 = value_spaces w ∙ (omega arith) in ap value (written_last w n l) ∙ value-digit (replicate w 32) n z
      | inr g ↦ ap value (written_more w n g) ∙ value-digit (written w (n / 10)) n (value_written w (n / 10) (room_less w n g h))
    ]

-- two numbers never have the same field
pub written_injective : (w m n : ℕ) → m < room w → n < room w → written w m ≡ written w n → m ≡ n
written_injective w m n p q e = sym (value_written w m p) ∙ ap value e ∙ value_written w n q

-- ---- the answer

pub reads_field : (most : ℕ) (bytes : List ℕ) (at n : ℕ) → IsField most bytes n → read_answer most bytes at ≡ Ok n
unfolding read_answer reads
reads_field most bytes at n f =
    let v : value bytes ≡ n = ap value f.exact ∙ value_written (length bytes) n f.fitting in
    let a : leb (value bytes) most ≡ true = rw v (le-leb n most f.small) in
    let b : ltb (value bytes) (room (length bytes)) ≡ true = rw v (lt-ltb n (room (length bytes)) f.fitting) in
    let s : same bytes (written (length bytes) (value bytes)) ≡ true = rw (v, ← f.exact) (same_self bytes) in
    let r : reads most bytes ≡ true = simp (a, b, s) in
    cond-true (reads most bytes) _ _ r ∙ ap (λ (m : ℕ). Ok m) v

reads_is : (most : ℕ) (bytes : List ℕ) → reads most bytes ≡ true → IsField most bytes (value bytes)
unfolding reads
reads_is most bytes h =
    let a = and_parts _ _ h in
    let b = and_parts _ _ a.1 in
    record {
      small = leb-true (value bytes) most a.0;
      fitting = ltb-true (value bytes) (room (length bytes)) b.0;
      exact = same_equal bytes (written (length bytes) (value bytes)) b.1;
    }

pub answer_is : (most : ℕ) (bytes : List ℕ) (at n : ℕ) → read_answer most bytes at ≡ Ok n → IsField most bytes n
unfolding read_answer
answer_is most bytes at n =
    let P : Result ℕ FieldFault → Type 0 = λ r. r ≡ Ok n → IsField most bytes n in
    let Q : ℕ → Type 0 = IsField most bytes in
    cond_both (reads most bytes) (Ok (value bytes)) (Err (record { at = at })) P
    (λ e h. let v : value bytes ≡ n = cc in subst Q v (reads_is most bytes e)) (λ e h. let z : ◌≡◌ {A = ℕ} 0 1 = cc in absurd (omega arith))

pub answer_fault : (most : ℕ) (bytes : List ℕ) (at : ℕ) (e : FieldFault) → read_answer most bytes at ≡ Err e → e ≡ record { at = at }
unfolding read_answer
answer_fault most bytes at e =
    let P : Result ℕ FieldFault → Type 0 = λ r. r ≡ Err e → e ≡ record { at = at } in
    cond_both (reads most bytes) (Ok (value bytes)) (Err (record { at = at })) P (λ t h. cc) (λ f h. cc)

pub refuses_other : (most : ℕ) (bytes : List ℕ) (at : ℕ) → ((n : ℕ) → IsField most bytes n → ⊥) → read_answer most bytes at ≡ Err (record { at = at })
unfolding read_answer
refuses_other most bytes at none =
    let P : Result ℕ FieldFault → Type 0 = λ r. r ≡ Err (record { at = at }) in
    cond_both (reads most bytes) (Ok (value bytes)) (Err (record { at = at })) P (λ e. absurd (none (value bytes) (reads_is most bytes e))) (λ e. refl)

pub round_trip : (most : ℕ) (bytes : List ℕ) (at : ℕ) → RoundTrip most bytes (read_answer most bytes at)
round_trip most bytes at = record { sound = answer_is most bytes at; complete = reads_field most bytes at }

-- a number written in its columns reads back as itself
pub reads-written : (most w at n : ℕ) → n ≤ most → n < room w → read_answer most (written w n) at ≡ Ok n
reads-written most w at n s f =
    let l = length-written w n in
    reads_field most (written w n) at n (record { small = s; fitting = rw l f; exact = rw l refl })

-- ---- the same at a place of a block: the answer does not depend on the place but for the fault

pub answer_moves : (most : ℕ) (bytes : List ℕ) (at to n : ℕ) → read_answer most bytes at ≡ Ok n → read_answer most bytes to ≡ Ok n
answer_moves most bytes at to n h = reads_field most bytes to n (answer_is most bytes at n h)

pub fault_moves : (most : ℕ) (bytes : List ℕ) (at to : ℕ) (e : FieldFault) → read_answer most bytes at ≡ Err e → read_answer most bytes to ≡ Err (record { at = to })
fault_moves most bytes at to e h =
    refuses_other most bytes to
    (λ n f. let k : ◌≡◌ {A = Result ℕ FieldFault} (Ok n) (Err e) = sym (reads_field most bytes at n f) ∙ h in let i : ◌≡◌ {A = ℕ} 0 1 = cc in omega arith)
