-- The binary digits of a byte, and of what the operations on bytes make of it. The width is a variable throughout.
use Rattle.std.proofs.Common.{◌≡◌, ℕ, zero, suc, ◌+◌, ◌-◌, ◌*◌, ◌/◌, ◌%◌, ◌^◌, ◌<◌, min, max, Bool, true, false, cond, not, ◌&&◌, ◌||◌, eqb, ltb, sym, refl, ap, ◌∙◌, pow-suc, div-one, one-add, arith, shr-shr, le-ltb, lt-ltb}
use native.Mathlib.Nat.{pow-zero}
use lib.Bits.{bit_and, bit_or, and_step, or_step, and_shr, or_shr}
use lib.Dec.{eqb-zero-suc, eqb-suc-zero, eqb-suc-suc, leb-suc-suc}
use Rattle.std.proofs.lemmas.Nat.{pow_pos}
use Rattle.std.proofs.lemmas.Bool.Decides.{nat_tests}
use Rattle.bitmap.specs.Bits.{digit, digits_of}

-- ---- the lowest digit, and the others

pub digit-first : (x : ℕ) → digit x 0 ≡ eqb (x % 2) 1
unfolding digit
digit-first x = ap (λ (q : ℕ). eqb (q % 2) 1) (div-one x)

pub digit_suc : (x j : ℕ) → digit x (suc j) ≡ digit (x / 2) j
unfolding digit
digit_suc x j = ap (λ (q : ℕ). eqb (q % 2) 1) (ap (λ (k : ℕ). x / 2 ^ k) (sym (one-add j)) ∙ sym (shr-shr x 1 j))

pub digit_zero : (j : ℕ) → digit 0 j ≡ false
digit_zero zero = digit-first 0
digit_zero (suc j) = digit_suc 0 j ∙ digit_zero j

pub digit_power : (k j : ℕ) → digit (2 ^ k) j ≡ eqb j k
digit_power zero zero = digit-first 1
digit_power zero (suc j) = digit_suc 1 j ∙ digit_zero j ∙ sym (eqb-suc-zero j)
digit_power (suc k) zero =
    let e = pow-suc 2 k in let o : 2 ^ suc k % 2 ≡ 0 = omega arith in digit-first (2 ^ suc k) ∙ ap (λ (r : ℕ). eqb r 1) o ∙ sym (eqb-zero-suc k)
digit_power (suc k) (suc j) =
    let e = pow-suc 2 k in
    let h : 2 ^ suc k / 2 ≡ 2 ^ k = omega arith in
    digit_suc (2 ^ suc k) j ∙ ap (λ (x : ℕ). digit x j) h ∙ digit_power k j ∙ sym (eqb-suc-suc j k)

-- the number of m set digits
pub digit_ones : (m j : ℕ) → digit (2 ^ m - 1) j ≡ ltb j m
digit_ones zero j = digit_zero j ∙ sym (le-ltb j 0 (omega arith))
digit_ones (suc m) zero =
    let e = pow-suc 2 m in
    let p = pow_pos m in
    let o : (2 ^ suc m - 1) % 2 ≡ 1 = omega arith in
    digit-first (2 ^ suc m - 1) ∙ ap (λ (r : ℕ). eqb r 1) o ∙ sym (lt-ltb 0 (suc m) (omega arith))
digit_ones (suc m) (suc j) =
    let e = pow-suc 2 m in
    let p = pow_pos m in
    let h : (2 ^ suc m - 1) / 2 ≡ 2 ^ m - 1 = omega arith in
    digit_suc (2 ^ suc m - 1) j ∙ ap (λ (x : ℕ). digit x j) h ∙ digit_ones m j ∙ sym (leb-suc-suc (suc j) m)

-- ---- complement, and, or

eqb_not : (a b : ℕ) → a + b ≡ 1 → eqb a 1 ≡ not (eqb b 1)
eqb_not a b h = grind (arith, nat_tests)

pub digit_not : (w x j : ℕ) → x < 2 ^ w → j < w → digit (2 ^ w - 1 - x) j ≡ not (digit x j)
digit_not zero x j h l = absurd (omega arith)
digit_not (suc w) x zero h l =
    let e = pow-suc 2 w in
    let s : (2 ^ suc w - 1 - x) % 2 + x % 2 ≡ 1 = omega arith in
    digit-first (2 ^ suc w - 1 - x) ∙ eqb_not ((2 ^ suc w - 1 - x) % 2) (x % 2) s ∙ ap not (sym (digit-first x))
digit_not (suc w) x (suc j) h l =
    let e = pow-suc 2 w in
    let q : (2 ^ suc w - 1 - x) / 2 ≡ 2 ^ w - 1 - x / 2 = omega arith in
    digit_suc (2 ^ suc w - 1 - x) j ∙ ap (λ (y : ℕ). digit y j) q ∙ digit_not w (x / 2) j (omega arith) (omega arith) ∙ ap not (sym (digit_suc x j))

eqb-max : (a b : ℕ) → a < 2 → b < 2 → eqb (max a b) 1 ≡ (eqb a 1 || eqb b 1)
eqb-max a b h l = grind (arith, nat_tests)

eqb-min : (a b : ℕ) → a < 2 → b < 2 → eqb (min a b) 1 ≡ (eqb a 1 && eqb b 1)
eqb-min a b h l = grind (arith, nat_tests)

pub digit_or : (a b j : ℕ) → digit (bit_or a b) j ≡ (digit a j || digit b j)
unfolding digit
digit_or a b j =
    let p = a / 2 ^ j in
    let q = b / 2 ^ j in
    let s = or_step p q in
    let m : bit_or p q % 2 ≡ max (p % 2) (q % 2) = omega arith in
    ap (λ (x : ℕ). eqb (x % 2) 1) (or_shr a b j) ∙ ap (λ (r : ℕ). eqb r 1) m ∙ eqb-max (p % 2) (q % 2) (omega arith) (omega arith)

pub digit_and : (a b j : ℕ) → digit (bit_and a b) j ≡ (digit a j && digit b j)
unfolding digit
digit_and a b j =
    let p = a / 2 ^ j in
    let q = b / 2 ^ j in
    let s = and_step p q in
    let m : bit_and p q % 2 ≡ min (p % 2) (q % 2) = omega arith in
    ap (λ (x : ℕ). eqb (x % 2) 1) (and_shr a b j) ∙ ap (λ (r : ℕ). eqb r 1) m ∙ eqb-min (p % 2) (q % 2) (omega arith) (omega arith)

-- ---- a number by its digits

cond-eqb : (b : Bool) → eqb (cond b 1 0) 1 ≡ b
cond-eqb true = refl
cond-eqb false = refl

cond_small : (b : Bool) → cond b 1 0 < 2
cond_small true = omega arith
cond_small false = omega arith

pub digit_of : (w : ℕ) (on : ℕ → Bool) (j : ℕ) → j < w → digit (digits_of w on) j ≡ on j
unfolding digits_of
digit_of zero on j h = absurd (omega arith)
digit_of (suc w) on zero h =
    let s = cond_small (on 0) in
    let m : (cond (on 0) 1 0 + 2 * digits_of w (λ j. on (suc j))) % 2 ≡ cond (on 0) 1 0 = omega arith in
    digit-first (digits_of (suc w) on) ∙ ap (λ (r : ℕ). eqb r 1) m ∙ cond-eqb (on 0)
digit_of (suc w) on (suc j) h =
    let s = cond_small (on 0) in
    let q : (cond (on 0) 1 0 + 2 * digits_of w (λ j. on (suc j))) / 2 ≡ digits_of w (λ j. on (suc j)) = omega arith in
    digit_suc (digits_of (suc w) on) j ∙ ap (λ (x : ℕ). digit x j) q ∙ digit_of w (λ j. on (suc j)) j (omega arith)

pub rest_cond : (r : ℕ) → r < 2 → r ≡ cond (eqb r 1) 1 0
rest_cond r h = grind (arith, nat_tests)

pub digits_are : (w : ℕ) (on : ℕ → Bool) (x : ℕ) → x < 2 ^ w → ((j : ℕ) → j < w → digit x j ≡ on j) → x ≡ digits_of w on
unfolding digits_of
digits_are zero on x h d = omega (arith, pow-zero 2)
digits_are (suc w) on x h d =
    let e = pow-suc 2 w in
    let low : x % 2 ≡ cond (on 0) 1 0 = rest_cond (x % 2) (omega arith) ∙ ap (λ (b : Bool). cond b 1 0) (sym (digit-first x) ∙ d 0 (omega arith)) in
    let high : x / 2 ≡ digits_of w (λ j. on (suc j)) = digits_are w (λ j. on (suc j)) (x / 2) (omega arith) (λ j l. sym (digit_suc x j) ∙ d (suc j) (omega arith)) in
    omega arith
