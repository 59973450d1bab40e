-- The count of the set bits, byte by byte.
use Rattle.std.proofs.Common.{◌≡◌, ℕ, zero, suc, ◌+◌, ◌*◌, ◌/◌, ◌%◌, ◌^◌, ◌<◌, ◌≤◌, Bool, true, false, cond, List, get_or, sym, refl, ap, ◌∙◌, add-zero, add-suc, add-one, pow-suc, arith, length, take, sum_by}
use Rattle.std.proofs.lemmas.List.{take_all, take_more}
use Rattle.std.proofs.lemmas.List.Sums.{sum_by_push}
use lib.Count.{ones, ones_step, ones-le}
use Rattle.bitmap.specs.Bits.{digit, bit, counted}
use Rattle.bitmap.proofs.Digits.{digit-first, digit_suc, rest_cond}
use Rattle.bitmap.proofs.Packing.{Octets, bit_at}

counts_none : (on : ℕ → Bool) → 0 ≡ counted 0 on
unfolding counted
counts_none on = refl

-- only the bits that are counted matter
pub counted_same : (size : ℕ) (on off : ℕ → Bool) → ((j : ℕ) → j < size → on j ≡ off j) → counted size on ≡ counted size off
unfolding counted
counted_same zero on off h = refl
counted_same (suc size) on off h =
    let a = counted_same size on off (λ j l. h j (omega arith)) in let b = h size (omega arith) in cc

pub counted-first : (size : ℕ) (on : ℕ → Bool) → counted (suc size) on ≡ cond (on 0) 1 0 + counted size (λ j. on (suc j))
unfolding counted
counted-first zero on = omega arith
counted-first (suc size) on = let a = counted-first size on in omega arith

pub counted_add : (m size : ℕ) (on : ℕ → Bool) → counted (m + size) on ≡ counted m on + counted size (λ j. on (m + j))
unfolding counted
counted_add m zero on = ap (λ (n : ℕ). counted n on) (add-zero m) ∙ sym (add-zero (counted m on))
counted_add m (suc size) on =
    let a = counted_add m size on in ap (λ (n : ℕ). counted n on) (add-suc m size) ∙ (omega arith)

pub counted_le : (size : ℕ) (on : ℕ → Bool) → counted size on ≤ size
unfolding counted
counted_le zero on = omega arith
counted_le (suc size) on =
    let a = counted_le size on in let b : cond (on size) 1 0 ≤ 1 = elim (on size) as (λ t. cond t 1 0 ≤ 1) [ true ↦ omega arith | false ↦ omega arith ] in omega arith

-- the set digits of a number
pub ones_counted : (w x : ℕ) → x < 2 ^ w → ones x ≡ counted w (digit x)
unfolding counted
ones_counted zero x h = omega (arith, ones-le zero x h)
ones_counted (suc w) x h =
    let p = pow-suc 2 w in
    let s = ones_step x in
    let low : x % 2 ≡ cond (digit x 0) 1 0 = rest_cond (x % 2) (omega arith) ∙ ap (λ (b : Bool). cond b 1 0) (sym (digit-first x)) in
    let high = ones_counted w (x / 2) (omega arith) in
    let shift = counted_same w (digit (x / 2)) (λ j. digit x (suc j)) (λ j l. sym (digit_suc x j)) in
    let f = counted-first w (digit x) in
    omega arith

counts_byte : (xs : List ℕ) (k : ℕ) → Octets xs → counted ((k + 1) * 8) (bit xs) ≡ counted (k * 8) (bit xs) + ones (get_or xs k 0)
counts_byte xs k o =
    let e : (k + 1) * 8 ≡ k * 8 + 8 = omega arith in
    ap (λ (n : ℕ). counted n (bit xs)) e ∙ counted_add (k * 8) 8 (bit xs)
    ∙ ap (λ (n : ℕ). counted (k * 8) (bit xs) + n)
    (counted_same 8 (λ j. bit xs (k * 8 + j)) (digit (get_or xs k 0)) (λ j l. bit_at xs k j l) ∙ sym (ones_counted 8 (get_or xs k 0) (o k)))

counts_front : (xs : List ℕ) (k : ℕ) → Octets xs → k ≤ length xs → sum_by ones (take k xs) ≡ counted (k * 8) (bit xs)
counts_front xs zero o h = counts_none (bit xs)
counts_front xs (suc k) o h =
    let s = sum_by_push ones (take k xs) (get_or xs k 0) in
    rw (← add-one k) (ap (sum_by ones) (take_more xs k 0 (omega arith)) ∙ s ∙ ap (λ (n : ℕ). n + ones (get_or xs k 0)) (counts_front xs k o (omega arith)) ∙ sym (counts_byte xs k o))

pub counts_all : (size : ℕ) (xs : List ℕ) → length xs ≡ size → Octets xs → sum_by ones xs ≡ counted (size * 8) (bit xs)
counts_all size xs l o = ap (sum_by ones) (sym (take_all size xs (omega arith))) ∙ counts_front xs size o (omega arith)
