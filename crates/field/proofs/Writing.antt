-- What the writer leaves at each of its exits.
use Rattle.std.proofs.Common.{◌≡◌, ℕ, suc, ◌+◌, ◌/◌, ◌%◌, ◌<◌, ◌≤◌, Bool, true, false, List, [], ◌∷◌, ◌++◌, length, replicate, Ok, Err, Result, sym, refl, ap, ◌∙◌}
use Rattle.std.proofs.lemmas.Bool.{cond-true, cond-false}
use Rattle.field.specs.declared.FieldFault.{FieldFault}
use Rattle.field.specs.Fields.{written, fits, put_answer, put_into}
use Rattle.field.proofs.Columns.{fits_none, fits_last, fits_more, written_last, written_more, length_columns}

pub answer_err : (done : Bool) (at : ℕ) (e : FieldFault) → Err e ≡ put_answer done at → (done ≡ false) × (e ≡ record { at = at })
answer_err true at e h = (cc, cc)
answer_err false at e h = (refl, cc)

pub answer_ok : (done : Bool) (at : ℕ) (u : Unit {0}) → Ok u ≡ put_answer done at → done ≡ true
answer_ok true at u h = refl
answer_ok false at u h = cc

-- what `put` answers and leaves
abbrev pub Puts : List ℕ → ℕ → Result (Unit {0}) FieldFault → List ℕ → Type 0
Puts xs n r ys = (r ≡ put_answer (fits (length xs) n) 0) × (ys ≡ put_into xs n)

refuses : (xs : List ℕ) (n : ℕ) → fits (length xs) n ≡ false → Puts xs n (Err (record { at = 0 })) xs
refuses xs n f = (simp f, simp f)

pub puts_none : (xs : List ℕ) (n : ℕ) → length xs ≡ 0 → Puts xs n (Err (record { at = 0 })) xs
puts_none xs n h = refuses xs n (ap (λ (w : ℕ). fits w n) h ∙ fits_none n)

-- in columns of which the last is split off
writes : (xs before ys : List ℕ) (last n : ℕ) → xs ≡ before ++ last ∷ [] → fits (suc (length before)) n ≡ true → ys ≡ written (suc (length before)) n
    → Puts xs n (Ok tt) ys
writes xs before ys last n e f y =
    let l = length_columns xs before last e in
    let t : fits (length xs) n ≡ true = rw l f in
    (simp t, y ∙ ap (λ (w : ℕ). written w n) (sym l) ∙ (simp t))

pub puts_last : (xs before ys : List ℕ) (last n : ℕ) → xs ≡ before ++ last ∷ [] → n < 10 → ys ≡ replicate (length before) 32
    → Puts xs n (Ok tt) (ys ++ (48 + n % 10) ∷ [])
puts_last xs before ys last n e h y =
    writes xs before (ys ++ (48 + n % 10) ∷ []) last n e (fits_last (length before) n h)
    (ap (λ (z : List ℕ). z ++ (48 + n % 10) ∷ []) y ∙ sym (written_last (length before) n h))

pub puts_more : (xs before ys : List ℕ) (last n : ℕ) (u : Unit {0}) → xs ≡ before ++ last ∷ [] → 10 ≤ n → Puts before (n / 10) (Ok u) ys
    → Puts xs n (Ok tt) (ys ++ (48 + n % 10) ∷ [])
puts_more xs before ys last n u e h b =
    let f : fits (length before) (n / 10) ≡ true = answer_ok _ 0 u b.0 in
    writes xs before (ys ++ (48 + n % 10) ∷ []) last n e (fits_more (length before) n h ∙ f)
    (ap (λ (z : List ℕ). z ++ (48 + n % 10) ∷ []) (b.1 ∙ cond-true _ _ _ f) ∙ sym (written_more (length before) n h))

pub puts_refused : (xs before ys : List ℕ) (last n : ℕ) (f : FieldFault) (r : Result (Unit {0}) FieldFault) → xs ≡ before ++ last ∷ [] → 10 ≤ n
    → Puts before (n / 10) (Err f) ys → r ≡ Err f → Puts xs n r (ys ++ last ∷ [])
puts_refused xs before ys last n f r e h b q =
    let a = answer_err _ 0 f b.0 in
    let l = length_columns xs before last e in
    let none : fits (length xs) n ≡ false = rw l (fits_more (length before) n h ∙ a.0) in
    let y : ys ++ last ∷ [] ≡ xs = ap (λ (z : List ℕ). z ++ last ∷ []) (b.1 ∙ cond-false _ _ _ a.0) ∙ sym e in
    let done = refuses xs n none in
    (q ∙ ap (λ (f : FieldFault). Err f) a.1 ∙ done.0, y ∙ done.1)
