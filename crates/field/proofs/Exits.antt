-- What the reader knows where it returns: whether the bytes are the field of a number, by their last column and the columns before it.
use Rattle.std.proofs.Common.{◌≡◌, ℕ, suc, ◌+◌, ◌-◌, ◌*◌, ◌/◌, ◌%◌, ◌<◌, ◌≤◌, ◌⊎◌, true, false, eqb, List, [], ◌∷◌, ◌++◌, length, replicate, Ok, Err, Result, sym, refl, ap, ◌∙◌, subst, inl, inr, zero, arith, eqb-true}
use Rattle.std.specs.List.{list_all}
use Rattle.std.proofs.lemmas.List.{same_from_push}
use Rattle.std.proofs.lemmas.Bool.{cases_lt, and_parts, false≢true}
use Rattle.field.specs.declared.FieldFault.{FieldFault}
use Rattle.field.specs.Fields.{written, room, read_answer, IsField, RoundTrip}
use Rattle.field.proofs.Columns.{room_none, room_last, room_less, room_more, written_last, written_more, length_columns}
use Rattle.field.proofs.Reading.{reads_field, refuses_other, answer_fault, round_trip}

-- ---- the columns before the last

abbrev pub Blank : List ℕ → Type 0
Blank xs = xs ≡ replicate (length xs) 32

pub blank : (xs : List ℕ) → list_all (λ x. eqb x 32) xs ≡ true → Blank xs
blank [] h = refl
blank (x ∷ xs) h = let t = and_parts _ _ h in let e = eqb-true x 32 t.0 in let b = blank xs t.1 in cc

blank_all : (w : ℕ) → list_all (λ x. eqb x 32) (replicate w 32) ≡ true
blank_all zero = refl
blank_all (suc w) = blank_all w

pub not_blank : (xs : List ℕ) → list_all (λ x. eqb x 32) xs ≡ false → Blank xs → ⊥
not_blank xs h b = false≢true (sym h ∙ ap (list_all (λ x. eqb x 32)) b ∙ blank_all (length xs))

-- ---- the field of a number, taken apart

-- of one digit
one_digit : (most : ℕ) (xs before : List ℕ) (last n : ℕ) → xs ≡ before ++ last ∷ [] → IsField most xs n → n < 10 → Blank before × (last ≡ 48 + n % 10)
one_digit most xs before last n e f h =
    same_from_push before (replicate (length before) 32) last (48 + n % 10)
    (sym e ∙ f.exact ∙ ap (λ (w : ℕ). written w n) (length_columns xs before last e) ∙ written_last (length before) n h)

-- of more
more_digits : (most : ℕ) (xs before : List ℕ) (last n : ℕ) → xs ≡ before ++ last ∷ [] → IsField most xs n → 10 ≤ n
    → IsField ((most - n % 10) / 10) before (n / 10) × (last ≡ 48 + n % 10)
more_digits most xs before last n e f h =
    let l = length_columns xs before last e in
    let t =
    same_from_push before (written (length before) (n / 10)) last (48 + n % 10)
    (sym e ∙ f.exact ∙ ap (λ (w : ℕ). written w n) l ∙ written_more (length before) n h)
    in
    let s = f.small in
    let r : n < room (suc (length before)) = rw l at f.fitting in
    (record { small = omega arith; fitting = room_less (length before) n h r; exact = t.0 }, t.1)

last_digit : (most : ℕ) (xs before : List ℕ) (last n : ℕ) → xs ≡ before ++ last ∷ [] → IsField most xs n → last ≡ 48 + n % 10
last_digit most xs before last n e f =
    elim (cases_lt n 10) [ inl h ↦ (one_digit most xs before last n e f h).1 | inr h ↦ (more_digits most xs before last n e f h).1 ]

-- ---- the exits: what the reader answers, and the law of it

abbrev pub Answers : ℕ → List ℕ → Result ℕ FieldFault → Type 0
Answers most xs r = (r ≡ read_answer most xs 0) × RoundTrip most xs r

answers : (most : ℕ) (xs : List ℕ) (r : Result ℕ FieldFault) → read_answer most xs 0 ≡ r → Answers most xs r
answers most xs r e = let P : Result ℕ FieldFault → Type 0 = RoundTrip most xs in (sym e, subst P e (round_trip most xs 0))

accepts : (most : ℕ) (xs : List ℕ) (n : ℕ) → IsField most xs n → Answers most xs (Ok n)
accepts most xs n f = answers most xs (Ok n) (reads_field most xs 0 n f)

refuses : (most : ℕ) (xs : List ℕ) → ((n : ℕ) → IsField most xs n → ⊥) → Answers most xs (Err (record { at = 0 }))
refuses most xs h = answers most xs (Err (record { at = 0 })) (refuses_other most xs 0 h)

pub refuses_empty : (most : ℕ) (xs : List ℕ) → length xs ≡ 0 → Answers most xs (Err (record { at = 0 }))
refuses_empty most xs e = refuses most xs (λ n f. let g = f.fitting in let r = room_none n in let k = ap room e in omega arith)

-- the last column is no digit
pub refuses_byte : (most : ℕ) (xs before : List ℕ) (last : ℕ) → xs ≡ before ++ last ∷ [] → (last < 48) ⊎ (57 < last) → Answers most xs (Err (record { at = 0 }))
refuses_byte most xs before last e h =
    refuses most xs
    (λ n f.
    let d : last ≡ 48 + n % 10 = last_digit most xs before last n e f in
    elim h [ inl l ↦ omega arith | inr g ↦ omega arith ])

-- it is the digit d, which is too large
pub refuses_digit : (most : ℕ) (xs before : List ℕ) (last d : ℕ) → xs ≡ before ++ last ∷ [] → last ≡ 48 + d → most < d → Answers most xs (Err (record { at = 0 }))
refuses_digit most xs before last d e k h =
    refuses most xs (λ n f. let m : last ≡ 48 + n % 10 = last_digit most xs before last n e f in let s = f.small in omega arith)

-- it is d alone
pub accepts_digit : (most : ℕ) (xs before : List ℕ) (last d : ℕ) → xs ≡ before ++ last ∷ [] → last ≡ 48 + d → d < 10 → d ≤ most → Blank before → Answers most xs (Ok d)
accepts_digit most xs before last d e k h s b =
    let l = length_columns xs before last e in
    let m : last ≡ 48 + d % 10 = omega arith in
    accepts most xs d
    (record {
      small = s;
      fitting = rw l (room_last (length before) d h);
      exact = e ∙ (cc (b, m)) ∙ sym (ap (λ (w : ℕ). written w d) l ∙ written_last (length before) d h);
    })

-- ---- d after other columns, which are not blank

-- and none of the numbers before it is what they say
refuses_before : (most : ℕ) (xs before : List ℕ) (last d : ℕ) → xs ≡ before ++ last ∷ [] → last ≡ 48 + d → (Blank before → ⊥)
    → ((m : ℕ) → IsField ((most - d) / 10) before m → (m ≡ 0 → ⊥) → ⊥) → Answers most xs (Err (record { at = 0 }))
refuses_before most xs before last d e k p h =
    refuses most xs
    (λ n f. elim (cases_lt n 10) [
      | inl l ↦ p (one_digit most xs before last n e f l).0
      | inr g ↦
          let t = more_digits most xs before last n e f g in
          let q : d ≡ n % 10 = let m = t.1 in omega arith in
          h (n / 10) (rw q t.0) (λ z. absurd (omega arith))
    ])

pub refuses_limit : (most : ℕ) (xs before : List ℕ) (last d : ℕ) → xs ≡ before ++ last ∷ [] → last ≡ 48 + d → (Blank before → ⊥) → (most - d) / 10 ≡ 0
    → Answers most xs (Err (record { at = 0 }))
refuses_limit most xs before last d e k p z = refuses_before most xs before last d e k p (λ m f nz. let s = f.small in nz (omega arith))

pub refuses_left : (most : ℕ) (xs before : List ℕ) (last d : ℕ) (f : FieldFault) (r : Result ℕ FieldFault) → xs ≡ before ++ last ∷ [] → last ≡ 48 + d → (Blank before → ⊥)
    → Answers ((most - d) / 10) before (Err f) → r ≡ Err f → Answers most xs r
refuses_left most xs before last d f r e k p a q =
    let fault = answer_fault _ before 0 f (sym a.0) in
    let none =
    refuses_before most xs before last d e k p
    (λ m i nz. let z : ◌≡◌ {A = Result ℕ FieldFault} (Err f) (Ok m) = a.1.complete m i in cc)
    in
    answers most xs r (sym none.0 ∙ ap (λ (f : FieldFault). Err f) (sym fault) ∙ sym q)

pub refuses_zero : (most : ℕ) (xs before : List ℕ) (last d b : ℕ) → xs ≡ before ++ last ∷ [] → last ≡ 48 + d → (Blank before → ⊥) → b ≡ 0
    → RoundTrip ((most - d) / 10) before (Ok b) → Answers most xs (Err (record { at = 0 }))
refuses_zero most xs before last d b e k p z t =
    refuses_before most xs before last d e k p
    (λ m f nz. let i : ◌≡◌ {A = Result ℕ FieldFault} (Ok b) (Ok m) = t.complete m f in let s : b ≡ m = cc in nz (sym s ∙ z))

pub accepts_more : (most : ℕ) (xs before : List ℕ) (last d m : ℕ) → xs ≡ before ++ last ∷ [] → last ≡ 48 + d → d < 10 → d ≤ most → (m ≡ 0 → ⊥)
    → RoundTrip ((most - d) / 10) before (Ok m) → Answers most xs (Ok (m * 10 + d))
accepts_more most xs before last d m e k h s z t =
    let f = t.sound m refl in
    let small = f.small in
    let l = length_columns xs before last e in
    let q : (m * 10 + d) / 10 ≡ m = omega arith in
    let r : last ≡ 48 + (m * 10 + d) % 10 = omega arith in
    accepts most xs (m * 10 + d)
    (record {
      small = omega arith;
      fitting = rw l (room_more (length before) (m * 10 + d) (rw q f.fitting));
      exact = e ∙ (cc (f.exact, r, q)) ∙ sym (ap (λ (w : ℕ). written w (m * 10 + d)) l ∙ written_more (length before) (m * 10 + d) (omega arith));
    })
