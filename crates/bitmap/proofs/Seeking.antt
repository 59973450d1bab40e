-- The first set bit from a place on.
use Rattle.std.proofs.Common.{◌≡◌, ℕ, zero, suc, ◌+◌, ◌-◌, ◌*◌, ◌/◌, ◌%◌, ◌^◌, ◌<◌, ◌≤◌, Bool, true, false, eqb, ◌≢◌, List, get_or, Some, None, Option, sym, refl, ap, ◌∙◌, subst, inl, inr, pow-suc, arith, shr-shr, eq-eqb, not, length, take, drop, get_or-take, get_or-drop, cond, ltb, lt-ltb}
use native.Mathlib.Nat.{pow-zero}
use lib.Count.{count_trailing_zeros, under}
use lib.Pow.{shr_le}
use Rattle.std.specs.List.{position, position_or_len}
use Rattle.std.proofs.lemmas.List.Sums.{fails_before_first}
use Rattle.std.proofs.lemmas.List.{length-take-le, length-drop}
use Rattle.std.proofs.lemmas.List.Quantifiers.{position-Some}
use Rattle.std.proofs.lemmas.Bool.Decides.{nat_tests}
use borrow.Author.Tests.{both_ways}
use Rattle.std.proofs.lemmas.Bool.{cond-true, cond-false, cases_eq, cases_Bool, cases_lt}
use Rattle.bitmap.specs.Bits.{digit, bit, next}
use Rattle.bitmap.proofs.Digits.{digit-first, digit_suc, digit_zero}
use Rattle.bitmap.proofs.Packing.{Octets, bit_at}

-- i is the first set bit from `from` on
pub record First (on : ℕ → Bool) (from i : ℕ) : Type 0 where
  pub reached : from ≤ i
  pub is_set : on i ≡ true
  pub clear_before : (j : ℕ) → from ≤ j → j < i → on j ≡ false

pub next-first : (on : ℕ → Bool) (from size i : ℕ) → i < from + size → First on from i → next on from size ≡ Some i
unfolding next
next-first on from zero i h f = let r = f.reached in absurd (omega arith)
next-first on from (suc size) i h f =
    elim (cases_eq from i) [
      | inl q ↦ cond-true (on from) _ _ (ap on q ∙ f.is_set) ∙ ap (λ (k : ℕ). Some k) q
      | inr q ↦
          let r = f.reached in
          cond-false (on from) _ _ (f.clear_before from (omega arith) (omega arith))
          ∙ next-first on (suc from) size i (omega arith)
          (record { reached = omega arith; is_set = f.is_set; clear_before = λ j a b. f.clear_before j (omega arith) b })
    ]

pub next_none : (on : ℕ → Bool) (from size : ℕ) → ((j : ℕ) → from ≤ j → j < from + size → on j ≡ false) → next on from size ≡ None
unfolding next
next_none on from zero h = refl
next_none on from (suc size) h =
    cond-false (on from) _ _ (h from (omega arith) (omega arith)) ∙ next_none on (suc from) size (λ j a b. h j (omega arith) (omega arith))

-- ---- the same, read off the answer

pub first_next : (on : ℕ → Bool) (from size i : ℕ) → next on from size ≡ Some i → (i < from + size) × First on from i
unfolding next
first_next on from zero i h = let z : ◌≡◌ {A = ℕ} 0 1 = cc in absurd (omega arith)
first_next on from (suc size) i h =
    elim (cases_Bool (on from)) [
      | inl t ↦
          let e : from ≡ i = let s : ◌≡◌ {A = Option ℕ} (Some from) (Some i) = sym (cond-true (on from) _ _ t) ∙ h in cc in
          ((omega arith), record { reached = omega arith; is_set = ap on (sym e) ∙ t; clear_before = λ j a b. absurd (omega arith) })
      | inr f ↦
          let r = first_next on (suc from) size i (sym (cond-false (on from) _ _ f) ∙ h) in
          let s = r.1.reached in (
            (omega arith),
            record {
              reached = omega arith;
              is_set = r.1.is_set;
              clear_before = λ j a b. elim (cases_eq j from) [ inl q ↦ ap on q ∙ f | inr q ↦ r.1.clear_before j (omega arith) b ];
            },
          )
    ]

pub none_next : (on : ℕ → Bool) (from size : ℕ) → next on from size ≡ None → (j : ℕ) → from ≤ j → j < from + size → on j ≡ false
unfolding next
none_next on from zero h j a b = absurd (omega arith)
none_next on from (suc size) h j a b =
    elim (cases_Bool (on from)) [
      | inl t ↦
          let s : ◌≡◌ {A = Option ℕ} (Some from) None = sym (cond-true (on from) _ _ t) ∙ h in let z : ◌≡◌ {A = ℕ} 0 1 = cc in absurd (omega arith)
      | inr f ↦
          elim (cases_eq j from) [
            | inl q ↦ ap on q ∙ f
            | inr q ↦ none_next on (suc from) size (sym (cond-false (on from) _ _ f) ∙ h) j (omega arith) (omega arith)
          ]
    ]

-- ---- within a byte

-- digits above the width of a number are not set
digit_past : (w x j : ℕ) → x < 2 ^ w → w ≤ j → digit x j ≡ false
digit_past zero x j h l = let z : x ≡ 0 = omega (arith, pow-zero 2) in ap (λ (y : ℕ). digit y j) z ∙ digit_zero j
digit_past (suc w) x zero h l = absurd (omega arith)
digit_past (suc w) x (suc j) h l = let e = pow-suc 2 w in digit_suc x j ∙ digit_past w (x / 2) j (omega arith) (omega arith)

first_low : (x : ℕ) → x % 2 ≡ 1 → First (digit x) 0 0
first_low x o = record { reached = omega arith; is_set = digit-first x ∙ eq-eqb (x % 2) 1 o; clear_before = λ j a b. absurd (omega arith) }

first_high : (x t : ℕ) → x % 2 ≡ 0 → First (digit (x / 2)) 0 t → First (digit x) 0 (suc t)
first_high x t z f =
    let below : (j : ℕ) → j < suc t → digit x j ≡ false =
    λ j. elim j as (λ m. m < suc t → digit x m ≡ false)
    [ zero ↦ λ l. digit-first x ∙ ap (λ (r : ℕ). eqb r 1) z | suc m ↦ λ l. digit_suc x m ∙ f.clear_before m (omega arith) (omega arith) ]
    in
    record { reached = omega arith; is_set = digit_suc x t ∙ f.is_set; clear_before = λ j a b. below j b }

-- the lowest set digit
pub trailing_first : (w x : ℕ) → x < 2 ^ w → x ≢ 0 → First (digit x) 0 (count_trailing_zeros w x)
unfolding count_trailing_zeros
trailing_first zero x h p = absurd (p (omega (arith, pow-zero 2)))
trailing_first (suc w) x h p =
    let e = pow-suc 2 w in
    let P : ℕ → Type 0 = First (digit x) 0 in
    elim (cases_eq (x % 2) 0) [
      | inl z ↦
          subst P (ap (λ (r : ℕ). under r (count_trailing_zeros w (x / 2))) (sym z))
          (first_high x (count_trailing_zeros w (x / 2)) z (trailing_first w (x / 2) (omega arith) (λ q. p (omega arith))))
      | inr o ↦
          let one : x % 2 ≡ 1 = omega arith in subst P (ap (λ (r : ℕ). under r (count_trailing_zeros w (x / 2))) (sym one)) (first_low x one)
    ]

shifted : (x a j : ℕ) → digit (x / 2 ^ a) j ≡ digit x (a + j)
unfolding digit
shifted x a j = ap (λ (y : ℕ). eqb (y % 2) 1) (shr-shr x a j)

-- ---- in the byte in which `from` stands, and in a later one

-- what is left of the byte in which `from` stands, without the bits below it
abbrev pub rest : List ℕ → ℕ → ℕ
rest xs from = get_or xs (from / 8) 0 / 2 ^ (from % 8)

bit_rest : (xs : List ℕ) (from t : ℕ) → from % 8 + t < 8 → bit xs (from + t) ≡ digit (rest xs from) t
bit_rest xs from t h =
    let p : from + t ≡ from / 8 * 8 + (from % 8 + t) = omega arith in
    ap (bit xs) p ∙ bit_at xs (from / 8) (from % 8 + t) h ∙ sym (shifted (get_or xs (from / 8) 0) (from % 8) t)

within_byte : (xs : List ℕ) (from t : ℕ) → Octets xs → digit (rest xs from) t ≡ true → from % 8 + t < 8
within_byte xs from t o d =
    elim (cases_lt (from % 8 + t) 8) [
      | inl h ↦ h
      | inr h ↦
          absurd (both_ways (digit (rest xs from) t)
          (shifted (get_or xs (from / 8) 0) (from % 8) t ∙ digit_past 8 (get_or xs (from / 8) 0) (from % 8 + t) (o (from / 8)) h) d)
    ]

pub found_in_rest : (xs : List ℕ) (from size x : ℕ) → Octets xs → x ≡ get_or xs (from / 8) 0 → (x / 2 ^ (from % 8) ≡ 0 → ⊥) → (from / 8 + 1) * 8 ≤ from + size
    → next (bit xs) from size ≡ Some (from + count_trailing_zeros 8 (x / 2 ^ (from % 8)))
found_in_rest xs from size x o q p s =
    let e : x / 2 ^ (from % 8) ≡ rest xs from = ap (λ (y : ℕ). y / 2 ^ (from % 8)) q in
    let n : ℕ = count_trailing_zeros 8 (rest xs from) in
    let b : rest xs from < 256 = omega (arith, shr_le (get_or xs (from / 8) 0) (from % 8), o (from / 8)) in
    let f = trailing_first 8 (rest xs from) b (λ z. p (e ∙ z)) in
    let w : from % 8 + n < 8 = within_byte xs from n o f.is_set in
    next-first (bit xs) from size (from + n) (omega arith)
    (record {
      reached = omega arith;
      is_set = bit_rest xs from n w ∙ f.is_set;
      clear_before = λ j a l.
          let e : j ≡ from + (j - from) = omega arith in
          ap (bit xs) e ∙ bit_rest xs from (j - from) (omega arith) ∙ f.clear_before (j - from) (omega arith) (omega arith);
    })
    ∙ ap (λ (y : ℕ). Some (from + count_trailing_zeros 8 y)) (sym e)

-- the bits from `from` on are clear, as far as the end of byte k
abbrev pub ClearTo : List ℕ → ℕ → ℕ → Type 0
ClearTo xs from k = (j : ℕ) → from ≤ j → j < k * 8 → bit xs j ≡ false

pub clear_rest : (xs : List ℕ) (from x : ℕ) → x ≡ get_or xs (from / 8) 0 → x / 2 ^ (from % 8) ≡ 0 → ClearTo xs from (from / 8 + 1)
clear_rest xs from x q z j a b =
    let e : j ≡ from + (j - from) = omega arith in
    let r : rest xs from ≡ 0 = ap (λ (y : ℕ). y / 2 ^ (from % 8)) (sym q) ∙ z in
    ap (bit xs) e ∙ bit_rest xs from (j - from) (omega arith) ∙ ap (λ (y : ℕ). digit y (j - from)) r ∙ digit_zero (j - from)

bit_in : (xs : List ℕ) (k j : ℕ) → k * 8 ≤ j → j < (k + 1) * 8 → bit xs j ≡ digit (get_or xs k 0) (j - k * 8)
bit_in xs k j a b = let e : j ≡ k * 8 + (j - k * 8) = omega arith in ap (bit xs) e ∙ bit_at xs k (j - k * 8) (omega arith)

-- n bytes more
clear_more : (xs : List ℕ) (from k n : ℕ) → ClearTo xs from k → ((m : ℕ) → m < n → get_or xs (k + m) 0 ≡ 0) → ClearTo xs from (k + n)
clear_more xs from k n c z j a b =
    elim (cases_lt j (k * 8)) [
      | inl l ↦ c j a l
      | inr g ↦
          let e : j / 8 ≡ k + (j / 8 - k) = omega arith in
          bit_in xs (j / 8) j (omega arith) (omega arith)
          ∙ ap (λ (y : ℕ). digit y (j - j / 8 * 8)) (ap (λ (m : ℕ). get_or xs m 0) e ∙ z (j / 8 - k) (omega arith)) ∙ digit_zero (j - j / 8 * 8)
    ]

found_in_byte : (xs : List ℕ) (from size k : ℕ) → Octets xs → ClearTo xs from k → from ≤ k * 8 → (k + 1) * 8 ≤ from + size → get_or xs k 0 ≢ 0
    → next (bit xs) from size ≡ Some (k * 8 + count_trailing_zeros 8 (get_or xs k 0))
found_in_byte xs from size k o c h s p =
    let f = trailing_first 8 (get_or xs k 0) (o k) p in
    let w : count_trailing_zeros 8 (get_or xs k 0) < 8 =
    elim (cases_lt (count_trailing_zeros 8 (get_or xs k 0)) 8) [
      | inl l ↦ l
      | inr g ↦ absurd (both_ways (digit (get_or xs k 0) (count_trailing_zeros 8 (get_or xs k 0))) (digit_past 8 (get_or xs k 0) (count_trailing_zeros 8 (get_or xs k 0)) (o k) g) f.is_set)
    ]
    in
    next-first (bit xs) from size (k * 8 + count_trailing_zeros 8 (get_or xs k 0)) (omega arith)
    (record {
      reached = omega arith;
      is_set = bit_at xs k (count_trailing_zeros 8 (get_or xs k 0)) w ∙ f.is_set;
      clear_before = λ j a l.
          elim (cases_lt j (k * 8)) [ inl b ↦ c j a b | inr g ↦ bit_in xs k j g (omega arith) ∙ f.clear_before (j - k * 8) (omega arith) (omega arith) ];
    })

pub found_past : (xs : List ℕ) (from size : ℕ) → size ≡ 0 → next (bit xs) from size ≡ None
found_past xs from size h = next_none (bit xs) from size (λ j a b. absurd (omega arith))

-- ---- the first byte of n from byte k on in which a bit is set

abbrev pub first_with_a_bit : List ℕ → Option ℕ
first_with_a_bit xs = position (λ x. not (eqb x 0)) xs

row_at : (xs : List ℕ) (k n m : ℕ) → m < n → get_or (take n (drop k xs)) m 0 ≡ get_or xs (k + m) 0
row_at xs k n m h = get_or-take n (drop k xs) m 0 h ∙ get_or-drop k xs m 0

length_row : (xs : List ℕ) (k n : ℕ) → k + n ≡ length xs → length (take n (drop k xs)) ≡ n
length_row xs k n l = length-take-le n (drop k xs) (simp length-drop (omega arith))

no_bit : (x : ℕ) → not (eqb x 0) ≡ false → x ≡ 0
no_bit x h = grind (arith, nat_tests)

some_bit : (x : ℕ) → not (eqb x 0) ≡ true → x ≢ 0
some_bit x h e = grind (arith, nat_tests)

pub sought : (xs : List ℕ) (from size k n i : ℕ) → Octets xs → ClearTo xs from k → k + n ≡ length xs → first_with_a_bit (take n (drop k xs)) ≡ Some i → from ≤ k * 8
    → (k + n) * 8 ≤ from + size → next (bit xs) from size ≡ Some ((k + i) * 8 + count_trailing_zeros 8 (get_or xs (k + i) 0))
sought xs from size k n i o c l p h s =
    let t = position-Some _ (take n (drop k xs)) i 0 p in
    let b = t.0 in
    let w = length_row xs k n l in
    found_in_byte xs from size (k + i) o
    (clear_more xs from k i c (λ m a. sym (row_at xs k n m (omega arith)) ∙ no_bit _ (t.2 m a)))
    (omega arith) (omega arith) (λ e. some_bit _ t.1 (row_at xs k n i (omega arith) ∙ e))

-- none passes
none_before : (a b : ℕ) → cond (ltb a b) (Some a) None ≡ None → b ≤ a
none_before a b h =
    elim (cases_lt a b)
    [ inl l ↦ let s : ◌≡◌ {A = Option ℕ} (Some a) None = sym (cond-true (ltb a b) _ _ (lt-ltb a b l)) ∙ h in let z : ◌≡◌ {A = ℕ} 0 1 = cc in absurd (omega arith) | inr g ↦ g ]

pub sought_none : (xs : List ℕ) (from size k n : ℕ) → ClearTo xs from k → k + n ≡ length xs → first_with_a_bit (take n (drop k xs)) ≡ None → from + size ≤ (k + n) * 8
    → next (bit xs) from size ≡ None
sought_none xs from size k n c l p h =
    let w = length_row xs k n l in
    let q : n ≤ position_or_len (λ x. not (eqb x 0)) (take n (drop k xs)) = rw w at (none_before _ (length (take n (drop k xs))) p) in
    let d =
    clear_more xs from k n c
    (λ m a. sym (row_at xs k n m a) ∙ no_bit _ (fails_before_first (λ x. not (eqb x 0)) (take n (drop k xs)) m 0 (omega arith)))
    in
    next_none (bit xs) from size (λ j a b. d j a (omega arith))
