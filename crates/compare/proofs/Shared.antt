-- The tests that do not care which end asks.
use Rattle.std.proofs.Common.{◌≡◌, ℕ, Bool, not, ◌&&◌, ◌||◌, eqb, arith}
use Rattle.std.proofs.Math.Bool.{and-or_distrib_left}
use Rattle.std.proofs.lemmas.Bool.Decides.{nat_tests}
use Rattle.compare.specs.declared.side.Side.{Side}
use Rattle.compare.specs.Sides.{same_bitmap, left_behind, shares_ancestor}

pub eqb_comm : (a b : ℕ) → eqb a b ≡ eqb b a
eqb_comm a b = grind (arith, nat_tests)

pub same_bitmap_comm : (a b : Side) → same_bitmap a b ≡ same_bitmap b a
same_bitmap_comm a b = grind (arith, nat_tests)

-- the test holds of some generation that a left behind
abbrev some : Side → (ℕ → Bool) → Bool
some a test = test a.bitmap || (test a.recent || test a.older)

abbrev common : ℕ → ℕ → Bool
common g h = not (eqb g 0) && eqb g h

common_comm : (g h : ℕ) → common g h ≡ common h g
common_comm g h = grind (arith, nat_tests)

left_as_first : (g : ℕ) (a : Side) → left_behind g a ≡ some a (λ h. common g h)
left_as_first g a = simp and-or_distrib_left

left_as_second : (h : ℕ) (a : Side) → left_behind h a ≡ some a (λ g. common g h)
left_as_second h a = rw (common_comm a.bitmap h, common_comm a.recent h, common_comm a.older h) (left_as_first h a)

exchanged : (a b : Side) (f : ℕ → ℕ → Bool) → some a (λ g. some b (λ h. f g h)) ≡ some b (λ h. some a (λ g. f g h))
exchanged a b f = grind arith

pub shares_ancestor_comm : (a b : Side) → shares_ancestor a b ≡ shares_ancestor b a
shares_ancestor_comm a b =
    let first : some a (λ g. left_behind g b) ≡ some a (λ g. some b (λ h. common g h)) = simp left_as_first in
    let second : some b (λ h. left_behind h a) ≡ some b (λ h. some a (λ g. common g h)) = simp left_as_second in
    cc (exchanged a b common)
