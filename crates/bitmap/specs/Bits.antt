-- The quick-sync bitmap: data block i is bit i mod 8, lowest first, of byte i div 8.
use Rattle.std.specs.Prelude.{◌≡◌, ℕ, zero, suc, ◌+◌, ◌*◌, ◌/◌, ◌%◌, ◌^◌, ◌≤◌, Bool, false, cond, not, ◌&&◌, ◌||◌, ltb, List, map, Some, None, Option, ◌==◌, nat_lt, slice_index}
use Rattle.std.specs.List.{range_with_len}

unfoldable pub digit : ℕ → ℕ → Bool
digit byte j = byte / 2 ^ j % 2 == 1

unfoldable pub bit : List ℕ → ℕ → Bool
unfolding digit
bit bytes i = digit (slice_index bytes (i / 8)) (i % 8)

-- the number of `width` binary digits that are given, lowest first
unfoldable pub digits_of : ℕ → (ℕ → Bool) → ℕ
digits_of zero on = 0
digits_of (suc width) on = cond (on 0) 1 0 + 2 * digits_of width (λ j. on (suc j))

-- the bytes of a bitmap whose bits are given
unfoldable pub packed : ℕ → (ℕ → Bool) → List ℕ
unfolding digits_of
packed size on = map (λ k. digits_of 8 (λ j. on (k * 8 + j))) (range_with_len 0 size)

-- ---- the bitmap after each operation

abbrev pub empty : List ℕ
empty = packed 512 (λ j. false)

abbrev pub with : List ℕ → ℕ → List ℕ
with bytes i = packed 512 (λ j. bit bytes j || j == i)

abbrev pub without : List ℕ → ℕ → List ℕ
without bytes i = packed 512 (λ j. bit bytes j && not (j == i))

-- extent e is the data blocks 64 e to 64 e + 63, as far as they are below the number of blocks
abbrev pub with_extent : List ℕ → ℕ → ℕ → List ℕ
with_extent bytes extent blocks = packed 512 (λ j. bit bytes j || (j / 64 == extent && nat_lt j blocks))

abbrev pub first : ℕ → List ℕ
first blocks = packed 512 (λ j. ltb j blocks)

abbrev pub union : List ℕ → List ℕ → List ℕ
union bytes other = packed 512 (λ j. bit bytes j || bit other j)

-- ---- what is asked of a bitmap

-- how many of the bits below `size` are set
unfoldable pub counted : ℕ → (ℕ → Bool) → ℕ
counted zero on = 0
counted (suc size) on = counted size on + cond (on size) 1 0

-- the first set bit of `size` bits from `from` on
unfoldable pub next : (ℕ → Bool) → ℕ → ℕ → Option ℕ
next on from zero = None
next on from (suc size) = cond (on from) (Some from) (next on (suc from) size)

-- no data block from `blocks` up has a bit set
abbrev pub Within : ℕ → List ℕ → Type 0
Within blocks bytes = (j : ℕ) → blocks ≤ j → bit bytes j ≡ false
