-- The rule of the columns, and which numbers have a field.
use Rattle.std.proofs.Common.{◌≡◌, ℕ, zero, suc, ◌+◌, ◌/◌, ◌%◌, ◌^◌, ◌<◌, ◌≤◌, true, false, ltb, List, [], ◌∷◌, ◌++◌, length, replicate, refl, ap, ◌∙◌, pow-suc, add-one, arith, lit<, le-ltb, lt-ltb}
use native.Mathlib.Nat.{pow-le-pow_right}
use Rattle.std.proofs.lemmas.List.{length-replicate, length_push}
use Rattle.std.proofs.lemmas.Nat.{div_below}
use Rattle.std.proofs.lemmas.Bool.Decides.{same_from_decides, Decides-ltb, Decides-like}
use Rattle.std.proofs.lemmas.Bool.{cond_both}
use Rattle.field.specs.Fields.{written, room, fits}

-- ---- which numbers fit

pub room_none : (n : ℕ) → room 0 ≤ n
unfolding room
room_none n = omega arith

pub room_last : (w n : ℕ) → n < 10 → n < room (suc w)
unfolding room
room_last w n h = let q : 10 ^ 1 ≤ 10 ^ suc w = pow-le-pow_right (lit< tt) {i = 1} {j = suc w} (omega arith) in omega arith

-- a number of two digits or more fits if the digits before its last fit the columns left
pub room_more : (w n : ℕ) → n / 10 < room w → n < room (suc w)
unfolding room
room_more zero n h = absurd (omega arith)
room_more (suc w) n h = let e = pow-suc 10 (suc w) in omega arith

pub room_less : (w n : ℕ) → 10 ≤ n → n < room (suc w) → n / 10 < room w
unfolding room
room_less zero n h l = absurd (omega arith)
room_less (suc w) n h l = div_below n 10 (10 ^ suc w) (lit< tt) (rw pow-suc at l)

pub fits_none : (n : ℕ) → fits 0 n ≡ false
fits_none n = le-ltb n (room 0) (room_none n)

pub fits_last : (w n : ℕ) → n < 10 → fits (suc w) n ≡ true
fits_last w n h = lt-ltb n (room (suc w)) (room_last w n h)

pub fits_more : (w n : ℕ) → 10 ≤ n → fits (suc w) n ≡ fits w (n / 10)
fits_more w n h =
    same_from_decides (fits (suc w) n) (fits w (n / 10)) (Decides-ltb n (room (suc w)))
    (Decides-like (fits w (n / 10)) (room_more w n) (room_less w n h) (Decides-ltb (n / 10) (room w)))

-- ---- the columns

pub written_last : (w n : ℕ) → n < 10 → written (suc w) n ≡ replicate w 32 ++ (48 + n % 10) ∷ []
unfolding written
written_last w n h = let e = lt-ltb n 10 h in simp e

pub written_more : (w n : ℕ) → 10 ≤ n → written (suc w) n ≡ written w (n / 10) ++ (48 + n % 10) ∷ []
unfolding written
written_more w n h = let e = le-ltb n 10 h in simp e

pub length-written : (w n : ℕ) → length (written w n) ≡ w
unfolding written
length-written zero n = refl
length-written (suc w) n =
    let P : List ℕ → Type 0 = λ before. length before ≡ w in
    length_push _ _
    ∙ ap (λ (k : ℕ). k + 1) (cond_both (ltb n 10) (replicate w 32) (written w (n / 10)) P (λ e. length-replicate w 32) (λ e. length-written w (n / 10)))
    ∙ add-one w

-- a field by its last column and the columns before it
pub length_columns : (xs before : List ℕ) (last : ℕ) → xs ≡ before ++ last ∷ [] → length xs ≡ suc (length before)
length_columns xs before last e = ap length e ∙ length_push before last ∙ add-one (length before)
