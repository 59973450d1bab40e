-- Changed blocks over those of a factory image.
use Rattle.std.proofs.Common.{◌≡◌, ℕ, zero, suc, ◌+◌, ◌*◌, ◌/◌, ◌<◌, min, List, [], ◌∷◌, length, get_or, take, drop, set, sym, refl, ap, ◌∙◌, add-zero, arith, get_or-drop, get_or-take, drop-drop, eq-eqb, ne_eqb}
use Rattle.std.proofs.lemmas.List.{drop-take}
use Rattle.device.specs.Makes.{parts, chosen, overlaid, imaged}
use Rattle.device.proofs.Areas.{length-parts, get_or-parts}

pub length-overlaid : (bs cs : List (List ℕ)) → length (overlaid bs cs) ≡ min (length bs) (length cs)
length-overlaid [] cs = omega arith
length-overlaid (b ∷ bs) [] = omega arith
length-overlaid (b ∷ bs) (c ∷ cs) = omega (arith, length-overlaid bs cs)

pub get_or-overlaid : (bs cs : List (List ℕ)) (i : ℕ) → i < length bs → i < length cs → get_or (overlaid bs cs) i [] ≡ chosen (get_or bs i []) (get_or cs i [])
get_or-overlaid [] cs i h k = absurd (omega arith)
get_or-overlaid (b ∷ bs) [] i h k = absurd (omega arith)
get_or-overlaid (b ∷ bs) (c ∷ cs) zero h k = refl
get_or-overlaid (b ∷ bs) (c ∷ cs) (suc i) h k = get_or-overlaid bs cs i (omega arith) (omega arith)

pub set-overlaid : (bs cs : List (List ℕ)) (i : ℕ) (b : List ℕ) → i < length bs → i < length cs → overlaid bs (set cs i (1 ∷ b)) ≡ set (overlaid bs cs) i b
set-overlaid [] cs i x h k = absurd (omega arith)
set-overlaid (b ∷ bs) [] i x h k = absurd (omega arith)
set-overlaid (b ∷ bs) (c ∷ cs) zero x h k = refl
set-overlaid (b ∷ bs) (c ∷ cs) (suc i) x h k = ap (λ (z : List (List ℕ)). chosen b c ∷ z) (set-overlaid bs cs i x (omega arith) (omega arith))

pub imaged_count : (xs ys : List ℕ) (s : ℕ) → length (imaged xs ys s).blocks ≡ min (length xs / 512) (length ys / 513)
imaged_count xs ys s =
    omega (arith, length-overlaid (parts 512 (length xs / 512) xs) (parts 513 (length ys / 513) ys), length-parts 512 (length xs / 512) xs, length-parts 513 (length ys / 513) ys)

-- block i of an image device, by its factory bytes and its record
pub imaged_block : (xs ys : List ℕ) (s i : ℕ) → i < length xs / 512 → i < length ys / 513
    → get_or (imaged xs ys s).blocks i [] ≡ chosen (take 512 (drop (i * 512) xs)) (take 513 (drop (i * 513) ys))
imaged_block xs ys s i h k =
    get_or-overlaid (parts 512 (length xs / 512) xs) (parts 513 (length ys / 513) ys) i (rw length-parts h) (rw length-parts k)
    ∙ cc (get_or-parts 512 (length xs / 512) i xs h, get_or-parts 513 (length ys / 513) i ys k)

mark_at : (w k : ℕ) (ys : List ℕ) → get_or (take (suc w) (drop k ys)) 0 0 ≡ get_or ys k 0
mark_at w k ys = get_or-take (suc w) (drop k ys) 0 0 (omega arith) ∙ get_or-drop k ys 0 0 ∙ ap (λ (z : ℕ). get_or ys z 0) (add-zero k)

pub unmarked_block : (xs ys : List ℕ) (s i : ℕ) → i < length xs / 512 → i < length ys / 513 → get_or ys (i * 513) 0 ≡ 0
    → take 512 (drop (i * 512) xs) ≡ get_or (imaged xs ys s).blocks i []
unmarked_block xs ys s i h k e =
    let t = eq-eqb (get_or (take 513 (drop (i * 513) ys)) 0 0) 0 (mark_at 512 (i * 513) ys ∙ e) in sym (imaged_block xs ys s i h k ∙ (simp t))

pub marked_block : (xs ys : List ℕ) (s i : ℕ) → i < length xs / 512 → i < length ys / 513 → (get_or ys (i * 513) 0 ≡ 0 → ⊥)
    → take 512 (drop (i * 513 + 1) ys) ≡ get_or (imaged xs ys s).blocks i []
marked_block xs ys s i h k e =
    let t = ne_eqb (get_or (take 513 (drop (i * 513) ys)) 0 0) 0 (λ q. e (sym (mark_at 512 (i * 513) ys) ∙ q)) in
    let d : drop 1 (take 513 (drop (i * 513) ys)) ≡ take 512 (drop (i * 513 + 1) ys) =
    drop-take 1 512 (drop (i * 513) ys) ∙ ap (take 512) (drop-drop 1 (i * 513) ys) in
    sym (imaged_block xs ys s i h k ∙ (simp t d))
