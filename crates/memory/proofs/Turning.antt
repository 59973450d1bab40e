-- One element of a list that goes to the end.
use Rattle.std.proofs.Common.{◌≡◌, ℕ, ◌-◌, ◌<◌, List, [], ◌++◌, length, take, drop, Some, arith, length-drop}
use borrow.Rule.Slice.PartMut.{put_mid, mid_of, post_of}
use Rattle.std.proofs.lemmas.List.{take_all, drop_all, append-nil}
use Rattle.protocol.specs.Activation.{moved_from}

pub turned :
    (xs : List ℕ) (p n : ℕ) (ys : List ℕ) → n ≡ length xs → p < n
    → ys ≡ drop 1 (mid_of p (n - p) xs) ++ take 1 (mid_of p (n - p) xs)
    → put_mid p (n - p) xs ys ≡ moved_from xs (Some p)
turned xs p n ys l h e =
    let m : mid_of p (n - p) xs ≡ drop p xs = take_all (n - p) (drop p xs) (simp length-drop (omega arith)) in
    let z : post_of p (n - p) xs ≡ [] = drop_all (n - p) (drop p xs) (simp length-drop (omega arith)) in
    simp (e, m, z, append-nil)
