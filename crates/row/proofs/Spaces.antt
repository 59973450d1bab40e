-- The spaces after a row.
use Rattle.std.proofs.Common.{◌≡◌, ℕ, zero, suc, ◌+◌, Bool, true, false, cond, not, eqb, Option, Some, None, List, [], ◌∷◌, length, replicate, position, Ok, Err, Result, sym, refl, ap, ◌∙◌, arith}
use Rattle.std.specs.List.{position_from}
use Rattle.std.proofs.lemmas.Bool.{eqb-true, cond_both}
use Rattle.std.proofs.lemmas.Iterator.Adapters.{position_from-zero}
use Rattle.field.specs.declared.FieldFault.{FieldFault}
use Rattle.row.specs.Records.{spaces_from}

-- what the first byte that is no space makes of the bytes from the byte `at` on
abbrev pub stray : ℕ → Option ℕ → Result (Unit {0}) FieldFault
stray at None = Ok tt
stray at (Some i) = Err (record { at = at + i })

spaces_place : (at i : ℕ) (xs : List ℕ) → spaces_from (at + i) xs ≡ stray at (position_from (λ byte. not (eqb byte 32)) i xs)
unfolding spaces_from
spaces_place at i [] = refl
spaces_place at i (x ∷ xs) =
    let k : at + i + 1 ≡ at + (i + 1) = omega arith in
    let turn : (b : Bool) → cond b (spaces_from (at + i + 1) xs) (Err (record { at = at + i })) ≡ stray at (cond (not b) (Some i) (position_from (λ byte. not (eqb byte 32)) (i + 1) xs)) =
    λ b. elim b as (λ b. cond b (spaces_from (at + i + 1) xs) (Err (record { at = at + i })) ≡ stray at (cond (not b) (Some i) (position_from (λ byte. not (eqb byte 32)) (i + 1) xs))) [
      | true ↦ ap (λ (z : ℕ). spaces_from z xs) k ∙ spaces_place at (i + 1) xs
      | false ↦ refl
    ] in
    turn (eqb x 32)

pub spaces-first : (at : ℕ) (xs : List ℕ) → spaces_from at xs ≡ stray at (position (λ byte. not (eqb byte 32)) xs)
spaces-first at xs =
    let k : at ≡ at + 0 = omega arith in
    ap (λ (z : ℕ). spaces_from z xs) k ∙ spaces_place at 0 xs ∙ ap (stray at) (sym (position_from-zero (λ byte. not (eqb byte 32)) xs))

pub spaces_pass : (at n : ℕ) → spaces_from at (replicate n 32) ≡ Ok tt
unfolding spaces_from
spaces_pass at zero = refl
spaces_pass at (suc n) = spaces_pass (at + 1) n

pub spaces_are : (at : ℕ) (xs : List ℕ) (u : Unit {0}) → spaces_from at xs ≡ Ok u → xs ≡ replicate (length xs) 32
unfolding spaces_from
spaces_are at [] u = λ h. refl
spaces_are at (x ∷ xs) u =
    let P : Result (Unit {0}) FieldFault → Type 0 = λ r. r ≡ Ok u → x ∷ xs ≡ replicate (length (x ∷ xs)) 32 in
    cond_both (eqb x 32) (spaces_from (at + 1) xs) (Err (record { at = at })) P
    (λ e h. let k = spaces_are (at + 1) xs u h in let l = eqb-true x 32 e in cc)
    (λ e h. let z : ◌≡◌ {A = ℕ} 0 1 = cc in absurd (omega arith))
