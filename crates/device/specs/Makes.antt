-- What the two makes of device mean, with what holds of each.
use Rattle.std.specs.Prelude.{◌≡◌, ℕ, zero, suc, ◌*◌, ◌/◌, ◌%◌, ◌≤◌, Bool, true, false, cond, ◌&&◌, List, [], ◌∷◌, length, take, drop, ◌==◌, nat_le, slice_index, refl}
use Rattle.std.proofs.Common.{suc-mul, div-mul-le_self, arith, length-drop, length-take-le, leb-true}
use Rattle.std.specs.List.{AllByRecursion}
use Rattle.device.specs.Disk.{Disk, Block, Meaning}

-- n parts of w bytes each, as they lie one after the other
abbrev pub parts : ℕ → ℕ → List ℕ → List (List ℕ)
parts w zero xs = []
parts w (suc n) xs = take w xs ∷ parts w n (drop w xs)

-- what a number means as a supply: all from 1,000,001 up are mains
unfoldable pub carried : ℕ → ℕ
carried n = cond (nat_le n 1000001) n 1000001

-- flat: an area of whole blocks
abbrev pub flat_fits : List ℕ → Bool
flat_fits area = length area % 512 == 0

abbrev pub flat : List ℕ → ℕ → Disk
flat area supply = record { blocks = parts 512 (length area / 512) area; supply = supply }

-- image: a factory image under an area that has a record for each block, its mark and then its bytes;
-- the mark is 0 while the block is as the factory made it
abbrev pub image_fits : List ℕ → List ℕ → Bool
image_fits factory area = length factory % 512 == 0 && length area == length factory / 512 * 513

abbrev pub chosen : List ℕ → List ℕ → List ℕ
chosen block changed = cond (slice_index changed 0 == 0) block (drop 1 changed)

abbrev pub overlaid : List (List ℕ) → List (List ℕ) → List (List ℕ)
overlaid [] changes = []
overlaid (b ∷ blocks) [] = []
overlaid (b ∷ blocks) (c ∷ changes) = chosen b c ∷ overlaid blocks changes

abbrev pub imaged : List ℕ → List ℕ → ℕ → Disk
imaged factory area supply =
    record { blocks = overlaid (parts 512 (length factory / 512) factory) (parts 513 (length area / 513) area); supply = supply }

-- each part is whole, each block has 512 bytes, and no supply is above mains
pub parts_whole : (w n : ℕ) (xs : List ℕ) → n * w ≤ length xs → AllByRecursion (λ p. length p ≡ w) (parts w n xs)
parts_whole w zero xs h = tt
parts_whole w (suc n) xs h =
    (length-take-le w xs (omega (arith, suc-mul n w)), parts_whole w n (drop w xs) (simp length-drop (omega (arith, suc-mul n w))))

pub parted : (w : ℕ) (xs : List ℕ) → AllByRecursion (λ p. length p ≡ w) (parts w (length xs / w) xs)
parted w xs = parts_whole w (length xs / w) xs (div-mul-le_self (length xs) w)

pub chosen_whole : (b c : List ℕ) → length b ≡ 512 → length c ≡ 513 → Block (chosen b c)
chosen_whole b c h k =
    elim (slice_index c 0 == 0) as (λ t. length (cond t b (drop 1 c)) ≡ 512) [ true ↦ h | false ↦ simp length-drop (omega arith) ]

pub overlaid_whole : (bs cs : List (List ℕ)) → AllByRecursion (λ b. length b ≡ 512) bs → AllByRecursion (λ c. length c ≡ 513) cs → AllByRecursion Block (overlaid bs cs)
overlaid_whole [] cs h k = tt
overlaid_whole (b ∷ bs) [] h k = tt
overlaid_whole (b ∷ bs) (c ∷ cs) h k = (chosen_whole b c h.0 k.0, overlaid_whole bs cs h.1 k.1)

pub carried_power : (n : ℕ) → carried n ≤ 1000001
unfolding carried
carried_power n =
    elim (nat_le n 1000001) as (λ b. nat_le n 1000001 ≡ b → cond b n 1000001 ≤ 1000001) [ true ↦ leb-true n 1000001 | false ↦ λ _. omega arith ] refl

abbrev pub flat_meaning : List ℕ → ℕ → Meaning
flat_meaning area left = record { disk = flat area (carried left); sound = record { whole = parted 512 area; power = carried_power left } }

abbrev pub image_meaning : List ℕ → List ℕ → ℕ → Meaning
image_meaning factory area left =
    record {
      disk = imaged factory area (carried left);
      sound = record { whole = overlaid_whole _ _ (parted 512 factory) (parted 513 area); power = carried_power left };
    }
