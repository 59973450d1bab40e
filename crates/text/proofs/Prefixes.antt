-- What the definitions say of a list by its last element.
use Rattle.std.proofs.Common.{◌≡◌, ℕ, ◌+◌, ◌-◌, ◌≤◌, List, [], ◌∷◌, ◌++◌, length, get_or, take, sym, refl, ap, ◌∙◌, arith, ne_eqb}
use Rattle.std.proofs.lemmas.List.{take_all, take_more}
use Rattle.text.specs.Text.{trimmed_of, joined_to}

trimmed_zero : (xs : List ℕ) → trimmed_of (xs ++ 0 ∷ []) ≡ trimmed_of xs
trimmed_zero [] = refl
trimmed_zero (x ∷ xs) = ap (joined_to x) (trimmed_zero xs)

joined_more : (x b : ℕ) (xs : List ℕ) → joined_to x (xs ++ b ∷ []) ≡ x ∷ (xs ++ b ∷ [])
joined_more x b [] = refl
joined_more x b (y ∷ ys) = refl

trimmed_kept : (xs : List ℕ) (b : ℕ) → (b ≡ 0 → ⊥) → trimmed_of (xs ++ b ∷ []) ≡ xs ++ b ∷ []
trimmed_kept [] b h = let e = ne_eqb b 0 h in simp e
trimmed_kept (x ∷ xs) b h = ap (joined_to x) (trimmed_kept xs b h) ∙ joined_more x b xs

-- the loop of a trim: a zero at the end, and a byte that stays
last_apart : (xs : List ℕ) → 1 ≤ length xs → xs ≡ take (length xs - 1) xs ++ get_or xs (length xs - 1) 0 ∷ []
last_apart xs h = sym (take_all (length xs - 1 + 1) xs (omega arith)) ∙ take_more xs (length xs - 1) 0 (omega arith)

pub trim_goes : (xs : List ℕ) → 1 ≤ length xs → get_or xs (length xs - 1) 0 ≡ 0 → trimmed_of (take (length xs - 1) xs) ≡ trimmed_of xs
trim_goes xs h e =
    sym (ap trimmed_of (last_apart xs h ∙ ap (λ (b : ℕ). take (length xs - 1) xs ++ b ∷ []) e) ∙ trimmed_zero (take (length xs - 1) xs))

pub trim_stays : (xs : List ℕ) → 1 ≤ length xs → (get_or xs (length xs - 1) 0 ≡ 0 → ⊥) → xs ≡ trimmed_of xs
trim_stays xs h e =
    let t = last_apart xs h in t ∙ sym (ap trimmed_of t ∙ trimmed_kept (take (length xs - 1) xs) (get_or xs (length xs - 1) 0) e)
