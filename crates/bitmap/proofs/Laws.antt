-- The bits of a bitmap after each operation, and that none is set from the number of blocks up.
use Rattle.std.proofs.Common.{◌≡◌, ℕ, ◌-◌, ◌*◌, ◌/◌, ◌<◌, ◌≤◌, min, Bool, false, not, ◌&&◌, ◌||◌, eqb, ltb, List, length, Some, None, Ok, Err, Option, Result, sym, refl, ap, ◌∙◌, inl, inr, arith, le-ltb, eq-eqb, ne_eqb}
use Rattle.std.proofs.lemmas.Bool.{and_right, cases_lt, cond-true, cond-false}
use Rattle.std.proofs.lemmas.Bool.Decides.{eqb_tells}
use Rattle.bitmap.specs.declared.BitmapFault.{BitmapFault}
use Rattle.bitmap.specs.Bits.{bit, packed, empty, with, without, with_extent, first, union, next, Within}
use Rattle.bitmap.specs.Bytes.{unless_stray, read_answer}
use Rattle.bitmap.proofs.Packing.{bit-packed, bit_past, length-packed}
use Rattle.bitmap.proofs.Seeking.{next_none, none_next}

-- ---- the bits after

pub bit-empty : (j : ℕ) → j < 4096 → bit empty j ≡ false
bit-empty j h = bit-packed 512 (λ j. false) j h

pub bit-with : (xs : List ℕ) (i j : ℕ) → j < 4096 → bit (with xs i) j ≡ (bit xs j || eqb j i)
bit-with xs i j h = bit-packed 512 (λ j. bit xs j || eqb j i) j h

pub bit-without : (xs : List ℕ) (i j : ℕ) → j < 4096 → bit (without xs i) j ≡ (bit xs j && not (eqb j i))
bit-without xs i j h = bit-packed 512 (λ j. bit xs j && not (eqb j i)) j h

pub bit-with_extent : (xs : List ℕ) (extent blocks j : ℕ) → j < 4096 → bit (with_extent xs extent blocks) j ≡ (bit xs j || (eqb (j / 64) extent && ltb j blocks))
bit-with_extent xs extent blocks j h = bit-packed 512 (λ j. bit xs j || (eqb (j / 64) extent && ltb j blocks)) j h

pub bit-first : (blocks j : ℕ) → j < 4096 → bit (first blocks) j ≡ ltb j blocks
bit-first blocks j h = bit-packed 512 (λ j. ltb j blocks) j h

pub bit-union : (xs ys : List ℕ) (j : ℕ) → j < 4096 → bit (union xs ys) j ≡ (bit xs j || bit ys j)
bit-union xs ys j h = bit-packed 512 (λ j. bit xs j || bit ys j) j h

-- ---- no bit from the number of blocks up

within-packed : (size blocks : ℕ) (on : ℕ → Bool) → ((j : ℕ) → blocks ≤ j → on j ≡ false) → Within blocks (packed size on)
within-packed size blocks on h j b =
    elim (cases_lt j (size * 8))
    [ inl l ↦ bit-packed size on j l ∙ h j b | inr g ↦ let e = length-packed size on in bit_past (packed size on) j (omega arith) ]

pub within-empty : (blocks : ℕ) → Within blocks empty
within-empty blocks = within-packed 512 blocks (λ j. false) (λ j b. refl)

pub within-with : (blocks : ℕ) (xs : List ℕ) (i : ℕ) → i < blocks → Within blocks xs → Within blocks (with xs i)
within-with blocks xs i l w =
    within-packed 512 blocks (λ j. bit xs j || eqb j i) (λ j b. let n = ne_eqb j i (λ e. absurd (omega arith)) in let z = w j b in rw (z, n))

pub within-without : (blocks : ℕ) (xs : List ℕ) (i : ℕ) → Within blocks xs → Within blocks (without xs i)
within-without blocks xs i w = within-packed 512 blocks (λ j. bit xs j && not (eqb j i)) (λ j b. let z = w j b in rw z)

pub within_extent : (blocks : ℕ) (xs : List ℕ) (extent : ℕ) → Within blocks xs → Within blocks (with_extent xs extent blocks)
within_extent blocks xs extent w =
    within-packed 512 blocks (λ j. bit xs j || (eqb (j / 64) extent && ltb j blocks))
    (λ j b. let z = w j b in let n = and_right (eqb (j / 64) extent) (ltb j blocks) (le-ltb j blocks b) in rw (z, n))

pub within_first : (blocks : ℕ) → Within blocks (first blocks)
within_first blocks = within-packed 512 blocks (λ j. ltb j blocks) (λ j b. le-ltb j blocks b)

pub within-union : (blocks : ℕ) (xs ys : List ℕ) → Within blocks xs → Within blocks ys → Within blocks (union xs ys)
within-union blocks xs ys w v = within-packed 512 blocks (λ j. bit xs j || bit ys j) (λ j b. let z = w j b in let y = v j b in rw (z, y))

-- ---- read from bytes

-- as the code reads them: the copy ys of xs, and its first stray bit
pub read_as : (xs ys : List ℕ) (blocks : ℕ) (stray : Option ℕ) → length xs ≡ 512 → ys ≡ xs → stray ≡ next (bit ys) blocks (4096 - blocks)
    → unless_stray ys stray ≡ read_answer xs blocks
read_as xs ys blocks stray l s n =
    let e : unless_stray ys stray ≡ unless_stray xs (next (bit xs) blocks (4096 - blocks)) = cc in e ∙ sym (cond-true (eqb (length xs) 512) _ _ (eq-eqb (length xs) 512 l))

-- bytes without a stray bit are read as they are
pub reads-within : (blocks : ℕ) (xs : List ℕ) → length xs ≡ 512 → Within blocks xs → read_answer xs blocks ≡ Ok xs
reads-within blocks xs l w =
    cond-true (eqb (length xs) 512) _ _ (eq-eqb (length xs) 512 l) ∙ ap (unless_stray xs) (next_none (bit xs) blocks (4096 - blocks) (λ j a b. w j a))

unstrayed : (xs ys : List ℕ) (stray : Option ℕ) → unless_stray xs stray ≡ Ok ys → (stray ≡ None) × (ys ≡ xs)
unstrayed xs ys None h = (refl, cc)
unstrayed xs ys (Some i) h = (cc, cc)

-- and what is read is the bytes, without a stray bit
pub within_read : (blocks : ℕ) (xs ys : List ℕ) → read_answer xs blocks ≡ Ok ys → (length xs ≡ 512) × (ys ≡ xs) × Within blocks xs
within_read blocks xs ys h =
    elim (eqb_tells (length xs) 512) [
      | inl t ↦
          let l = t.1 in
          let u = unstrayed xs ys (next (bit xs) blocks (4096 - blocks)) (sym (cond-true (eqb (length xs) 512) _ _ t.0) ∙ h) in (
            t.1,
            u.1,
            λ j b. elim (cases_lt j 4096)
                [ inl a ↦ none_next (bit xs) blocks (4096 - blocks) u.0 j b (omega arith) | inr a ↦ bit_past xs j (omega arith) ],
          )
      | inr t ↦
          let k : ◌≡◌ {A = Result (List ℕ) BitmapFault} (Err (record { byte = min (length xs) 512 })) (Ok ys) = sym (cond-false (eqb (length xs) 512) _ _ t.0) ∙ h in
          let z : ◌≡◌ {A = ℕ} 0 1 = cc in absurd (omega arith)
    ]
