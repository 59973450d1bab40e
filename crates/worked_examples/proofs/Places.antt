-- Where the bits of a few data blocks stand.
use Rattle.std.proofs.Common.{◌≡◌, ℕ, ◌/◌, ◌<◌, Bool, true, false, ◌&&◌, ◌||◌, eqb, ltb, get_or, ◌∙◌, arith}
use Rattle.bitmap.specs.Bits.{bit, empty, with, with_extent, digits_of}
use Rattle.bitmap.proofs.Packing.{get_or-packed}
use Rattle.bitmap.proofs.Laws.{bit-empty, bit-with_extent}

pub nine_alone : get_or (with empty 9) 1 0 ≡ 2
unfolding digits_of
nine_alone = get_or-packed 512 (λ j. bit empty j || eqb j 9) 1 (omega arith) ∙ (simp (bit-empty, arith))

-- a bit of an extent that is marked in an empty bitmap
pub extent_alone : (extent j : ℕ) → j < 4096 → bit (with_extent empty extent 4096) j ≡ (eqb (j / 64) extent && ltb j 4096)
extent_alone extent j within = bit-with_extent empty extent 4096 j within ∙ (simp (bit-empty j within))
