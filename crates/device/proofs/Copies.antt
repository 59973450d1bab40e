-- What bytes copied from an area are to the disk that the area means: a copy from the place p, k long.
use Rattle.std.proofs.Common.{◌≡◌, ℕ, ◌+◌, ◌*◌, ◌/◌, ◌<◌, List, length, get_or, take, drop, Ok, sym, ◌∙◌, arith}
use Rattle.device.specs.Disk.{read_answer, read_into}
use Rattle.device.specs.Makes.{flat, imaged}
use Rattle.device.proofs.Cases.{read_done}
use Rattle.device.proofs.Areas.{length-parts, get_or-parts}
use Rattle.device.proofs.Overlays.{imaged_count, unmarked_block, marked_block}

pub flat_read : (xs old a : List ℕ) (i s p k : ℕ) → a ≡ take k (drop p xs) → i < length xs / 512 → length old ≡ 512 → p ≡ i * 512 → k ≡ 512
    → (Ok tt ≡ read_answer (flat xs s) i (length old)) × (a ≡ read_into (flat xs s) i old)
flat_read xs old a i s p k g h n e f =
    let w = read_done (flat xs s) i old (rw length-parts h) n in
    let y : a ≡ take 512 (drop (i * 512) xs) = cc (e, f, g) in
    (w.0, y ∙ sym (get_or-parts 512 (length xs / 512) i xs h) ∙ w.1)

-- where the mark at the place r is 0, and where it is not
pub unmarked_read : (xs ys old a : List ℕ) (i s p k r : ℕ) → a ≡ take k (drop p xs) → get_or ys r 0 ≡ 0 → i < length xs / 512 → i < length ys / 513
    → length old ≡ 512 → p ≡ i * 512 → k ≡ 512 → r ≡ i * 513 → (Ok tt ≡ read_answer (imaged xs ys s) i (length old)) × (a ≡ read_into (imaged xs ys s) i old)
unmarked_read xs ys old a i s p k r g z h l n e f u =
    let w = read_done (imaged xs ys s) i old (rw imaged_count (omega arith)) n in
    let m : get_or ys (i * 513) 0 ≡ 0 = cc (u, z) in
    let y : a ≡ take 512 (drop (i * 512) xs) = cc (e, f, g) in
    (w.0, y ∙ unmarked_block xs ys s i h l m ∙ w.1)

pub marked_read : (xs ys old a : List ℕ) (i s p k r : ℕ) → a ≡ take k (drop p ys) → (get_or ys r 0 ≡ 0 → ⊥) → i < length xs / 512 → i < length ys / 513
    → length old ≡ 512 → p ≡ i * 513 + 1 → k ≡ 512 → r ≡ i * 513 → (Ok tt ≡ read_answer (imaged xs ys s) i (length old)) × (a ≡ read_into (imaged xs ys s) i old)
marked_read xs ys old a i s p k r g z h l n e f u =
    let w = read_done (imaged xs ys s) i old (rw imaged_count (omega arith)) n in
    let same : get_or ys r 0 ≡ get_or ys (i * 513) 0 = cc u in
    let y : a ≡ take 512 (drop (i * 513 + 1) ys) = cc (e, f, g) in
    (w.0, y ∙ marked_block xs ys s i h l (λ q. z (same ∙ q)) ∙ w.1)
