-- A bitmap by its bits: the law of `packed`, and the single changes. The size is a variable throughout.
use Rattle.std.proofs.Common.{◌≡◌, ℕ, zero, suc, ◌+◌, ◌-◌, ◌*◌, ◌/◌, ◌%◌, ◌^◌, ◌<◌, ◌≤◌, Bool, true, false, not, ◌&&◌, ◌||◌, eqb, ◌≢◌, List, [], ◌∷◌, length, get_or, set, replicate, sym, refl, ap, ◌∙◌, inl, inr, arith, ne_eqb}
use lib.Bits.{bit_and, bit_or, or_lt, and_lt, and_mask}
use Rattle.std.proofs.lemmas.Nat.{div-add-mod', pow_below}
use Rattle.std.proofs.lemmas.List.FromFn.{fill_by_all, get_or-map-range_with_len, length-map-range_with_len}
use Rattle.std.proofs.lemmas.List.{get_or-set_same, get_or-set_other, get_or_past, length-set, length-replicate}
use Rattle.std.proofs.lemmas.Bool.{cases_eq}
use Rattle.std.proofs.lemmas.Bool.Decides.{same_from_decides, Decides-eqb, Decides-like}
use Rattle.bitmap.specs.Bits.{digit, bit, digits_of, packed}
use Rattle.bitmap.proofs.Digits.{digit_zero, digit_power, digit_not, digit_or, digit_and, digit_of, digits_are}

-- every byte is a byte
abbrev pub Octets : List ℕ → Type 0
Octets bytes = (k : ℕ) → get_or bytes k 0 < 256

-- the bytes have just the bits that are given
abbrev pub Bits : ℕ → List ℕ → (ℕ → Bool) → Type 0
Bits size bytes on = (k j : ℕ) → k < size → j < 8 → digit (get_or bytes k 0) j ≡ on (k * 8 + j)

pub bit_at : (xs : List ℕ) (k j : ℕ) → j < 8 → bit xs (k * 8 + j) ≡ digit (get_or xs k 0) j
unfolding bit
bit_at xs k j h =
    let q : (k * 8 + j) / 8 ≡ k = omega arith in let r : (k * 8 + j) % 8 ≡ j = omega arith in simp (q, r)

-- as the code tests it
pub bit_test : (xs : List ℕ) (i : ℕ) → eqb (bit_and (get_or xs (i / 8) 0 / 2 ^ (i % 8)) 1) 1 ≡ bit xs i
unfolding bit digit
bit_test xs i = ap (λ (r : ℕ). eqb r 1) (and_mask (get_or xs (i / 8) 0 / 2 ^ (i % 8)) 1)

pub packs : (size : ℕ) (xs : List ℕ) (on : ℕ → Bool) → length xs ≡ size → Octets xs → Bits size xs on → xs ≡ packed size on
unfolding packed
packs size xs on l o b =
    fill_by_all (λ k. digits_of 8 (λ j. on (k * 8 + j))) xs size 0 l
    (λ k h. digits_are 8 (λ j. on (k * 8 + j)) (get_or xs k 0) (o k) (λ j i. b k j h i))

pub get_or-packed : (size : ℕ) (on : ℕ → Bool) (k : ℕ) → k < size → get_or (packed size on) k 0 ≡ digits_of 8 (λ j. on (k * 8 + j))
unfolding packed
get_or-packed size on k h = get_or-map-range_with_len (λ k. digits_of 8 (λ j. on (k * 8 + j))) 0 size k k 0 h (omega arith)

pub length-packed : (size : ℕ) (on : ℕ → Bool) → length (packed size on) ≡ size
unfolding packed
length-packed size on = length-map-range_with_len (λ k. digits_of 8 (λ j. on (k * 8 + j))) 0 size

-- ---- the laws of a bit

pub bit-packed : (size : ℕ) (on : ℕ → Bool) (i : ℕ) → i < size * 8 → bit (packed size on) i ≡ on i
unfolding bit
bit-packed size on i h =
    ap (λ (x : ℕ). digit x (i % 8)) (get_or-packed size on (i / 8) (omega arith)) ∙ digit_of 8 (λ j. on (i / 8 * 8 + j)) (i % 8) (omega arith)
    ∙ ap on (div-add-mod' i 8)

pub bit_past : (xs : List ℕ) (i : ℕ) → length xs * 8 ≤ i → bit xs i ≡ false
unfolding bit
bit_past xs i h = ap (λ (x : ℕ). digit x (i % 8)) (get_or_past xs (i / 8) 0 (omega arith)) ∙ digit_zero (i % 8)

zeros : (size k : ℕ) → get_or (replicate {A = ℕ} size 0) k 0 ≡ 0
zeros zero k = refl
zeros (suc size) zero = refl
zeros (suc size) (suc k) = zeros size k

pub zeros_octets : (size : ℕ) → Octets (replicate size 0)
zeros_octets size k = rw zeros (omega arith)

pub packed_none : (size : ℕ) → replicate size 0 ≡ packed size (λ j. false)
packed_none size =
    packs size (replicate size 0) (λ j. false) (length-replicate size 0) (zeros_octets size) (λ k j h l. rw zeros (digit_zero j))

-- bytes without a change
pub packed-same : (size : ℕ) (xs : List ℕ) (on : ℕ → Bool) → length xs ≡ size → Octets xs → ((i : ℕ) → i < size * 8 → bit xs i ≡ on i) → xs ≡ packed size on
packed-same size xs on l o h = packs size xs on l o (λ k j s i. sym (bit_at xs k j i) ∙ h (k * 8 + j) (omega arith))

-- ---- one byte changed

pub octets_set : (xs : List ℕ) (i x : ℕ) → Octets xs → x < 256 → Octets (set xs i x)
octets_set [] i x o h k = o k
octets_set (y ∷ ys) zero x o h zero = h
octets_set (y ∷ ys) zero x o h (suc k) = o (suc k)
octets_set (y ∷ ys) (suc i) x o h zero = o zero
octets_set (y ∷ ys) (suc i) x o h (suc k) = octets_set ys i x (λ m. o (suc m)) h k

one_byte : (size : ℕ) (xs : List ℕ) (on : ℕ → Bool) (i x : ℕ) → length xs ≡ size → Octets xs → i < size → x < 256
    → ((j : ℕ) → j < 8 → digit x j ≡ on (i * 8 + j)) → ((k j : ℕ) → k ≢ i → j < 8 → digit (get_or xs k 0) j ≡ on (k * 8 + j)) → set xs i x ≡ packed size on
one_byte size xs on i x l o h b same others =
    packs size (set xs i x) on (length-set xs i x ∙ l) (octets_set xs i x o b)
    (λ k j s e. elim (cases_eq k i) [
      | inl q ↦
          ap (λ (m : ℕ). digit (get_or (set xs i x) m 0) j) q ∙ ap (λ (y : ℕ). digit y j) (get_or-set_same xs i x 0 (omega arith)) ∙ same j e
          ∙ ap (λ (m : ℕ). on (m * 8 + j)) (sym q)
      | inr q ↦ ap (λ (y : ℕ). digit y j) (get_or-set_other xs i k x 0 q) ∙ others k j q e
    ])

place_same : (i j : ℕ) → j < 8 → eqb (i / 8 * 8 + j) i ≡ eqb j (i % 8)
place_same i j h = same_from_decides (eqb (i / 8 * 8 + j) i) (eqb j (i % 8)) (Decides-eqb (i / 8 * 8 + j) i) (Decides-like (eqb j (i % 8)) (λ e. omega arith) (λ e. omega arith) (Decides-eqb j (i % 8)))

place_other : (i k j : ℕ) → k ≢ i / 8 → j < 8 → eqb (k * 8 + j) i ≡ false
place_other i k j p h = ne_eqb (k * 8 + j) i (λ e. p (omega arith))

pub or_false : (b : Bool) → (b || false) ≡ b
or_false true = refl
or_false false = refl

and_true : (b : Bool) → (b && true) ≡ b
and_true true = refl
and_true false = refl

mask_lt : (i : ℕ) → 2 ^ (i % 8) < 256
mask_lt i = pow_below (i % 8) 8 (omega arith)

pub sets : (size : ℕ) (xs : List ℕ) (i : ℕ) → length xs ≡ size → Octets xs → i / 8 < size
    → set xs (i / 8) (bit_or (get_or xs (i / 8) 0) (2 ^ (i % 8))) ≡ packed size (λ j. bit xs j || eqb j i)
sets size xs i l o h =
    one_byte size xs (λ j. bit xs j || eqb j i) (i / 8) (bit_or (get_or xs (i / 8) 0) (2 ^ (i % 8))) l o h (or_lt 8 _ _ (o (i / 8)) (mask_lt i))
    (λ j e. digit_or (get_or xs (i / 8) 0) (2 ^ (i % 8)) j
    ∙ (rw (digit_power (i % 8) j, bit_at xs (i / 8) j e, place_same i j e)))
    (λ k j p e. sym (rw (bit_at xs k j e, place_other i k j p e) (or_false _)))

pub clears : (size : ℕ) (xs : List ℕ) (i : ℕ) → length xs ≡ size → Octets xs → i / 8 < size
    → set xs (i / 8) (bit_and (get_or xs (i / 8) 0) (255 - 2 ^ (i % 8))) ≡ packed size (λ j. bit xs j && not (eqb j i))
clears size xs i l o h =
    one_byte size xs (λ j. bit xs j && not (eqb j i)) (i / 8) (bit_and (get_or xs (i / 8) 0) (255 - 2 ^ (i % 8))) l o h (and_lt 8 _ _ (o (i / 8)) (omega arith))
    (λ j e. digit_and (get_or xs (i / 8) 0) (255 - 2 ^ (i % 8)) j
    ∙ (rw (digit_not 8 (2 ^ (i % 8)) j (mask_lt i) e, digit_power (i % 8) j, bit_at xs (i / 8) j e, place_same i j e)))
    (λ k j p e. sym (rw (bit_at xs k j e, place_other i k j p e) (and_true _)))

-- a bit that no byte holds changes nothing
pub sets_none : (size : ℕ) (xs : List ℕ) (i : ℕ) → length xs ≡ size → Octets xs → size * 8 ≤ i → xs ≡ packed size (λ j. bit xs j || eqb j i)
sets_none size xs i l o h =
    packed-same size xs (λ j. bit xs j || eqb j i) l o (λ j s. let n = ne_eqb j i (λ e. absurd (omega arith)) in sym (rw n (or_false (bit xs j))))

pub clears_none : (size : ℕ) (xs : List ℕ) (i : ℕ) → length xs ≡ size → Octets xs → size * 8 ≤ i → xs ≡ packed size (λ j. bit xs j && not (eqb j i))
clears_none size xs i l o h =
    packed-same size xs (λ j. bit xs j && not (eqb j i)) l o (λ j s. let n = ne_eqb j i (λ e. absurd (omega arith)) in sym (rw n (and_true (bit xs j))))
