-- A ring against the list that waits in it.
use Rattle.std.proofs.Common.{◌≡◌, ℕ, zero, suc, ◌+◌, ◌-◌, ◌<◌, ◌≤◌, min, true, List, [], ◌∷◌, ◌++◌, length, get_or, take, drop, set, map, Some, sym, refl, ap, ◌∙◌, ⊎_elim, append_assoc, arith}
use Rattle.std.proofs.lemmas.Bool.Decides.{nat_tests}
use Rattle.std.proofs.lemmas.Bool.{cases_lt, lt-ltb, le-ltb, cond-true, cond-false}
use Rattle.std.proofs.lemmas.List.{length-append, length-take, length-drop, length-set, drop_all, take_all, set-append_left, set-append_right, drop-set-add, drop-set-lt, take-set-le, take_more_set, take_more, drop_more, take-append-le, get_or_append_left, get_or-append_right, get_or-drop, get_or-take, append-nil, take_min, take-map, drop-map, map-append}
use Rattle.std.proofs.Math.Seq.{take-append-add, take-set-lt}
use Rattle.std.proofs.lemmas.Option.{slice_get_read, slice_get_within, slice_get-get_or, get_or_from_slice_get}
use Rattle.std.specs.List.{slice_get}
use Rattle.queue.specs.declared.Ring.{Ring}
use Rattle.queue.specs.Queue.{round, contents, vacant, has_room, with_one, ahead, start_of, place_of}

pub round-length : {X : Type 0} (xs : List X) (f : ℕ) → length (round xs f) ≡ length xs
round-length xs f = simp (length-append, length-drop, length-take) (omega arith)

pub start_within : (f n : ℕ) → start_of f n ≤ n
start_within f n = grind (arith, nat_tests)

pub start_below : (f n : ℕ) → 0 < n → start_of f n < n
start_below f n h = grind (arith, nat_tests)

-- from a place past the slots, they come as from 0
pub round_start : {X : Type 0} (xs : List X) (f : ℕ) → round xs f ≡ round xs (start_of f (length xs))
round_start xs f =
    ⊎_elim
    (λ k. ap (round xs) (sym (cond-true _ f 0 (lt-ltb _ _ k))))
    (λ k. rw (drop_all f xs k, take_all f xs k) (sym (append-nil xs) ∙ ap (round xs) (sym (cond-false _ f 0 (le-ltb _ _ k)))))
    (cases_lt f (length xs))

pub place_near : (f n i : ℕ) → i < n - start_of f n → place_of f n i ≡ start_of f n + i
place_near f n i h = cond-true _ _ _ (lt-ltb _ _ h)

pub place_far : (f n i : ℕ) → n - start_of f n ≤ i → place_of f n i ≡ i - (n - start_of f n)
place_far f n i h = cond-false _ _ _ (le-ltb _ _ h)

-- a write at the place of the i-th is a write of the i-th
pub round-set : {X : Type 0} (xs : List X) (f i : ℕ) (x : X) → i < length xs → round (set xs (place_of f (length xs) i) x) f ≡ set (round xs f) i x
round-set {X} xs f i x h =
    let n = length xs in
    let s = start_of f n in
    let p = place_of f n i in
    let ys = set xs p x in
    let w = start_within f n in
    let mid : round ys s ≡ set (round xs s) i x =
    ⊎_elim
    (λ l. rw (place_near f n i l) (rw (drop-set-add s xs i x, take-set-le s xs (s + i) x (omega arith)) (sym (set-append_left (drop s xs) (take s xs) i x (simp length-drop l)))))
    (λ l. rw (place_far f n i l) (rw (drop-set-lt s xs (i - (n - s)) x (omega arith), take-set-lt s xs (i - (n - s)) x (omega arith)) (sym (set-append_right (drop s xs) (take s xs) (n - s) i x (length-drop s xs) l))))
    (cases_lt i (n - s)) in
    round_start ys f ∙ ap (λ (k : ℕ). round ys (start_of f k)) (length-set xs p x) ∙ mid ∙ ap (λ (zs : List X). set zs i x) (sym (round_start xs f))

-- and a read there is the i-th
pub round-get_or : {X : Type 0} (xs : List X) (f i : ℕ) (d : X) → i < length xs → get_or xs (place_of f (length xs) i) d ≡ get_or (round xs f) i d
round-get_or {X} xs f i d h =
    let n = length xs in
    let s = start_of f n in
    let mid : get_or xs (place_of f n i) d ≡ get_or (round xs s) i d =
    ⊎_elim
    (λ l. rw (place_near f n i l) (sym (get_or_append_left (drop s xs) (take s xs) d i (simp length-drop l) ∙ get_or-drop s xs i d)))
    (λ l. rw (place_far f n i l) (sym (get_or-append_right (drop s xs) (take s xs) (n - s) i d (length-drop s xs) l ∙ get_or-take s xs (i - (n - s)) d (omega arith))))
    (cases_lt i (n - s)) in
    mid ∙ ap (λ (ys : List X). get_or ys i d) (sym (round_start xs f))

-- from the next place on, what stood first comes last
pub round_after : {X : Type 0} (xs : List X) (p : ℕ) (x : X) → p < length xs → x ≡ get_or xs p x
    → (round xs p ≡ x ∷ (drop (p + 1) xs ++ take p xs)) × (round xs (p + 1) ≡ (drop (p + 1) xs ++ take p xs) ++ x ∷ [])
round_after {X} xs p x h e = (
  ap (λ (ys : List X). ys ++ take p xs) (drop_more xs p x h ∙ ap (λ (y : X). y ∷ drop (p + 1) xs) (sym e)),
  ap (λ (ys : List X). drop (p + 1) xs ++ ys) (take_more xs p x h ∙ ap (λ (y : X). take p xs ++ y ∷ []) (sym e)) ∙ sym (append_assoc (drop (p + 1) xs) (take p xs) (x ∷ [])),
)

-- The list that waits.

pub contents-length : {X : Type 0} (xs : List X) (q : Ring) → length (contents xs q) ≡ min q.used (length xs)
unfolding contents
contents-length xs q = length-take q.used (round xs q.first) ∙ ap (min q.used) (round-length xs q.first)

pub contents-within : {X : Type 0} (xs : List X) (q : Ring) → length (contents xs q) ≤ length xs
contents-within xs q = let e = contents-length xs q in omega arith

pub contents-vacant : {X : Type 0} (xs : List X) → contents xs vacant ≡ []
unfolding contents
contents-vacant xs = refl

-- a count above the slots' means all of them
pub contents-counted : {X : Type 0} (xs : List X) (q : Ring) (n : ℕ) → n ≡ length (contents xs q) → contents xs q ≡ take n (round xs q.first)
unfolding contents
contents-counted xs q n e =
    let c = contents-length xs q in
    let l = round-length xs q.first in
    ⊎_elim
    (λ h. let d : q.used ≡ n = omega arith in rw d refl)
    (λ h. take_all q.used (round xs q.first) (omega arith) ∙ sym (take_all n (round xs q.first) (omega arith)))
    (cases_lt q.used (length xs))

-- what is done with every slot is done with all that waits
pub contents-map : {X Y : Type 0} (f : X → Y) (xs : List X) (q : Ring) → contents (map f xs) q ≡ map f (contents xs q)
unfolding contents
contents-map f xs q = simp (take-map, drop-map) (ap (take q.used) (sym (map-append f (drop q.first xs) (take q.first xs))) ∙ take-map f q.used (round xs q.first))

-- a ring by its two numbers
pub contents_by : {X : Type 0} (xs : List X) (r : Ring) (f n : ℕ) → r.first ≡ f → r.used ≡ n → contents xs r ≡ take n (round xs f)
unfolding contents
contents_by xs r f n e d = rw (e, d) refl

-- What each call leaves. The place p is the one that the code computes, and n is what it counts.

pub put_done : {X : Type 0} (xs : List X) (q r : Ring) (x : X) (n p : ℕ) → n ≡ length (contents xs q) → n < length xs → p ≡ place_of q.first (length xs) n
    → r.first ≡ q.first → r.used ≡ n + 1 → (true ≡ has_room xs q) × (contents (set xs p x) r ≡ with_one xs q x)
put_done {X} xs q r x n p e h w f u =
    let l : n < length (round xs q.first) = rw round-length h in
    let room : has_room xs q ≡ true = lt-ltb _ _ (rw e at h) in (
      sym room,
      contents_by (set xs p x) r q.first (n + 1) f u
          ∙ rw (w, round-set xs q.first n x h, take_more_set (round xs q.first) n x l) (ap (λ (ys : List X). ys ++ x ∷ []) (sym (contents-counted xs q n e)))
          ∙ sym (cond-true _ _ _ room),
    )

pub take_done : {X : Type 0} (xs : List X) (q r : Ring) (x : X) (n p : ℕ) → Some x ≡ slice_get (contents xs q) 0 → n ≡ length (contents xs q) → p ≡ start_of q.first (length xs)
    → r.used ≡ n - 1 → r.first ≡ p + 1 → contents xs q ≡ x ∷ contents xs r
take_done xs q r x zero p h e w u f = let some : 0 < length (contents xs q) = slice_get_within (contents xs q) 0 x (sym h) in absurd (omega arith)
take_done {X} xs q r x (suc m) p h e w u f =
    let b = contents-within xs q in
    let y = get_or xs p x in
    let k : p < length xs = rw w (start_below q.first (length xs) (omega (arith, slice_get_within (contents xs q) 0 x (sym h)))) in
    let a = round_after xs p y k (sym (get_or_from_slice_get xs p y y (slice_get-get_or xs p x k))) in
    let ys = drop (p + 1) xs ++ take p xs in
    let l : suc (length ys) ≡ length xs = ap length (sym a.0) ∙ round-length xs p in
    let some : 0 < length (contents xs q) = slice_get_within (contents xs q) 0 x (sym h) in
    let whole : contents xs q ≡ y ∷ contents xs r =
    contents-counted xs q (suc m) e
    ∙ ap (take (suc m)) (round_start xs q.first ∙ ap (round xs) (sym w) ∙ a.0)
    ∙ ap (λ (zs : List X). y ∷ zs) (sym (take-append-le m ys (y ∷ []) (omega arith)) ∙ ap (take m) (sym a.1) ∙ sym (contents_by xs r (p + 1) m f (u ∙ omega arith))) in
    let first : Some x ≡ Some y = h ∙ ap (λ (zs : List X). slice_get zs 0) whole in
    let same : y ≡ x = cc in
    whole ∙ ap (λ (z : X). z ∷ contents xs r) same

pub replace_done : {X : Type 0} (xs : List X) (q : Ring) (i p : ℕ) (x : X) → i < length (contents xs q) → p ≡ place_of q.first (length xs) i
    → contents (set xs p x) q ≡ set (contents xs q) i x
unfolding contents
replace_done xs q i p x h w =
    let l = contents-length xs q in
    rw (w, round-set xs q.first i x (omega arith)) (take-set-lt q.used (round xs q.first) i x (omega arith))

pub look_done : {X : Type 0} (xs : List X) (q : Ring) (i p : ℕ) (x : X) → i < length (contents xs q) → p ≡ place_of q.first (length xs) i → x ≡ get_or xs p x
    → Some x ≡ slice_get (contents xs q) i
unfolding contents
look_done xs q i p x h w e =
    let l = contents-length xs q in
    let r : x ≡ get_or (take q.used (round xs q.first)) i x =
    e ∙ ap (λ (k : ℕ). get_or xs k x) w ∙ round-get_or xs q.first i x (omega arith) ∙ sym (get_or-take q.used (round xs q.first) i x (omega arith)) in
    sym (slice_get_read _ _ i x refl h r)

take-both : {X : Type 0} (n : ℕ) (xs ys : List X) → take n (xs ++ ys) ≡ take n xs ++ take (n - length xs) ys
take-both {X} n xs ys =
    ⊎_elim
    (λ h. let e : 0 ≡ n - length xs = omega arith in take-append-le n xs ys (omega arith) ∙ sym (append-nil (take n xs)) ∙ ap (λ (i : ℕ). take n xs ++ take i ys) e)
    (λ h. let e : n ≡ length xs + (n - length xs) = omega arith in ap (λ (i : ℕ). take i (xs ++ ys)) e ∙ take-append-add xs ys (n - length xs) ∙ ap (λ (zs : List X). zs ++ take (n - length xs) ys) (sym (take_all n xs h)))
    (cases_lt n (length xs))

-- from a list that is no longer than m, min m of as many are taken
same_take : {X : Type 0} (xs : List X) (n m : ℕ) → min n (length xs) ≡ min m (length xs) → take n xs ≡ take m xs
same_take xs n m e = sym (take_min n xs) ∙ ap (λ (i : ℕ). take i xs) e ∙ take_min m xs

-- the slots in two parts, of which the second comes first
pub split_done : {X : Type 0} (xs front back : List X) (q : Ring) (n k : ℕ) → n ≡ length (contents xs q) → front ≡ drop (start_of q.first (length xs)) xs → back ≡ take (start_of q.first (length xs)) xs
    → k ≡ min n (length front) → (take k front ++ take (n - k) back ≡ contents xs q) × (take k front ≡ ahead xs q)
split_done {X} xs front back q n k e f b m =
    let c = contents-length xs q in
    let s = start_of q.first (length xs) in
    let l : length front ≤ length xs = rw f (simp length-drop (omega arith)) in
    let whole : contents xs q ≡ take n (front ++ back) = contents-counted xs q n e ∙ ap (take n) (round_start xs q.first ∙ rw (f, b) refl) in
    let first : take k front ≡ take n front = ap (λ (i : ℕ). take i front) m ∙ take_min n front in (
      ap (λ (ys : List X). ys ++ take (n - k) back) first ∙ ap (λ (i : ℕ). take n front ++ take i back) (omega arith) ∙ sym (take-both n front back) ∙ sym whole,
      first ∙ rw f (same_take (drop s xs) n q.used (omega (arith, length-drop s xs))),
    )
