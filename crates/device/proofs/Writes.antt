-- What a write to an area is to the disk that the area means.
use Rattle.std.proofs.Common.{◌≡◌, ℕ, suc, ◌+◌, ◌*◌, ◌/◌, ◌<◌, false, eqb, List, [], ◌∷◌, ◌++◌, length, get_or, take, drop, set, Ok, sym, ap, ◌∙◌, append_assoc, arith, drop-drop}
use borrow.Rule.Slice.PartMut.{put_mid}
use Rattle.std.proofs.lemmas.List.{set-append_left, set_at, take_more, length-take-le}
use Rattle.device.specs.Disk.{spent, write_answer, written}
use Rattle.device.specs.Makes.{parts, overlaid, flat, imaged}
use Rattle.device.proofs.Cases.{write_done}
use Rattle.device.proofs.Areas.{length-parts, area_parts}
use Rattle.device.proofs.Overlays.{imaged_count, set-overlaid}

-- the bytes a, a copy of the block b, laid at the place p, k long
pub flat_wrote : (xs b a : List ℕ) (i s t p k : ℕ) → i < length xs / 512 → eqb s 0 ≡ false → length b ≡ 512 → t ≡ spent s → p ≡ i * 512 → k ≡ 512 → a ≡ b
    → (Ok tt ≡ write_answer (flat xs s) i b) × (flat (put_mid p k xs a) t ≡ written (flat xs s) i b)
flat_wrote xs b a i s t p k h l e q m f g =
    let w = write_done (flat xs s) i b (rw length-parts h) l e in
    let y : put_mid p k xs a ≡ put_mid (i * 512) 512 xs b = cc (m, f, g) in
    let z = area_parts 512 xs b i h (omega arith) e in
    (w.0, ap (λ (r : List ℕ). flat r t) y ∙ (cc (z, q)) ∙ w.1)

-- bytes laid behind the place p, and then a mark at p
marked : (p w : ℕ) (xs b : List ℕ) (m : ℕ) → p < length xs → set (put_mid (p + 1) w xs b) p m ≡ put_mid p (suc w) xs (m ∷ b)
marked p w xs b m h =
    let l : length (take p xs) ≡ p = length-take-le p xs (omega arith) in
    let front : set (take (p + 1) xs) p m ≡ take p xs ++ m ∷ [] =
    ap (λ (z : List ℕ). set z p m) (take_more xs p 0 h) ∙ set_at (take p xs) (get_or xs p 0) [] m p l in
    let back : drop w (drop (p + 1) xs) ≡ drop (suc w) (drop p xs) =
    drop-drop w (p + 1) xs ∙ ap (λ (z : ℕ). drop z xs) (omega arith) ∙ sym (drop-drop (suc w) p xs) in
    set-append_left (take (p + 1) xs) (b ++ drop w (drop (p + 1) xs)) p m (rw (length-take-le (p + 1) xs (omega arith)) (omega arith))
    ∙ ap (λ (z : List ℕ). z ++ (b ++ drop w (drop (p + 1) xs))) front
    ∙ (rw (append_assoc, back))

-- the bytes a, a copy of the block b, laid at the place p, k long, and then the mark m at the place r
pub image_wrote : (xs ys b a : List ℕ) (i s t p k r m : ℕ) → i < length xs / 512 → i < length ys / 513 → eqb s 0 ≡ false → length b ≡ 512 → t ≡ spent s
    → p ≡ i * 513 + 1 → k ≡ 512 → a ≡ b → r ≡ i * 513 → m ≡ 1
    → (Ok tt ≡ write_answer (imaged xs ys s) i b) × (imaged xs (set (put_mid p k ys a) r m) t ≡ written (imaged xs ys s) i b)
image_wrote xs ys b a i s t p k r m h l o e q u f g v n =
    let w = write_done (imaged xs ys s) i b (rw imaged_count (omega arith)) o e in
    let bs : List (List ℕ) = parts 512 (length xs / 512) xs in
    let x : set (put_mid p k ys a) r m ≡ set (put_mid (i * 513 + 1) 512 ys b) (i * 513) 1 = cc (u, f, g, v, n) in
    let y : set (put_mid p k ys a) r m ≡ put_mid (i * 513) 513 ys (1 ∷ b) = x ∙ marked (i * 513) 512 ys b 1 (omega arith) in
    let z = ap (overlaid bs) (area_parts 513 ys (1 ∷ b) i l (omega arith) (ap suc e)) ∙ set-overlaid bs (parts 513 (length ys / 513) ys) i b (rw length-parts h) (rw length-parts l) in
    (w.0, ap (λ (c : List ℕ). imaged xs c t) y ∙ (cc (z, q)) ∙ w.1)
