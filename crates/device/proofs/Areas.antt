-- An area in parts of equal width.
use Rattle.std.proofs.Common.{◌≡◌, ℕ, zero, suc, ◌+◌, ◌*◌, ◌/◌, ◌<◌, ◌≤◌, List, [], ◌++◌, length, get_or, take, drop, set, sym, refl, ap, ◌∙◌, append_assoc, le_of_suc-le-suc, not-suc-le-zero, suc-mul, zero-mul, div-mul-le_self, arith, drop-drop, take-add}
use borrow.Rule.Slice.PartMut.{put_mid}
use Rattle.std.proofs.lemmas.List.{take_at, drop_at, length-take-le, length-append, length-take, length-drop}
use Rattle.device.specs.Makes.{parts}

pub length-parts : (w n : ℕ) (xs : List ℕ) → length (parts w n xs) ≡ n
length-parts w zero xs = refl
length-parts w (suc n) xs = ap suc (length-parts w n (drop w xs))

pub get_or-parts : (w n i : ℕ) (xs : List ℕ) → i < n → get_or (parts w n xs) i [] ≡ take w (drop (i * w) xs)
get_or-parts w zero i xs h = absurd (not-suc-le-zero h)
get_or-parts w (suc n) zero xs h = ap (λ (k : ℕ). take w (drop k xs)) (sym (zero-mul w))
get_or-parts w (suc n) (suc i) xs h =
    let e : w + i * w ≡ suc i * w = omega (arith, suc-mul i w) in
    get_or-parts w n i (drop w xs) (le_of_suc-le-suc h) ∙ ap (take w) (drop-drop (i * w) w xs ∙ ap (λ (k : ℕ). drop k xs) e)

-- one part replaced where it lies
pub set-parts : (w n i : ℕ) (xs b : List ℕ) → i < n → n * w ≤ length xs → length b ≡ w
    → parts w n (put_mid (i * w) w xs b) ≡ set (parts w n xs) i b
set-parts w zero i xs b h f e = absurd (not-suc-le-zero h)
set-parts w (suc n) zero xs b h f e =
    let z : put_mid (zero * w) w xs b ≡ b ++ drop w xs = ap (λ (k : ℕ). put_mid k w xs b) (zero-mul w) in
    ap (parts w (suc n)) z ∙ cc (take_at b (drop w xs) w e, drop_at b (drop w xs) w e)
set-parts w (suc n) (suc i) xs b h f e =
    let l : length (take w xs) ≡ w = length-take-le w xs (omega (arith, suc-mul n w)) in
    let k : suc i * w ≡ w + i * w = omega (arith, suc-mul i w) in
    let r : List ℕ = put_mid (i * w) w (drop w xs) b in
    let ih : parts w n r ≡ set (parts w n (drop w xs)) i b = set-parts w n i (drop w xs) b (le_of_suc-le-suc h) (simp length-drop (omega (arith, suc-mul n w))) e in
    let whole : put_mid (suc i * w) w xs b ≡ take w xs ++ r = ap (λ (z : ℕ). put_mid z w xs b) k ∙ (rw (take-add w (i * w) xs, append_assoc, ← drop-drop (i * w) w xs)) in
    ap (parts w (suc n)) whole ∙ cc (take_at (take w xs) r w l, drop_at (take w xs) r w l)

pub length_put_mid : (a w : ℕ) (xs b : List ℕ) → a + w ≤ length xs → length b ≡ w → length (put_mid a w xs b) ≡ length xs
length_put_mid a w xs b h e = simp (length-append, length-take, length-drop) (omega arith)

-- the same of all the parts that an area has
pub area_parts : (w : ℕ) (xs b : List ℕ) (i : ℕ) → i < length xs / w → i * w + w ≤ length xs → length b ≡ w
    → parts w (length (put_mid (i * w) w xs b) / w) (put_mid (i * w) w xs b) ≡ set (parts w (length xs / w) xs) i b
area_parts w xs b i h m e =
    let ys : List ℕ = put_mid (i * w) w xs b in
    ap (λ (z : ℕ). parts w (z / w) ys) (length_put_mid (i * w) w xs b m e) ∙ set-parts w (length xs / w) i xs b h (div-mul-le_self (length xs) w) e
