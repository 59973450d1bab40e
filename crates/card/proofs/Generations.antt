-- The generation record and its row of numbers.
use Rattle.std.proofs.Common.{◌≡◌, ℕ, ◌^◌, ◌<◌, ◌≤◌, Bool, true, false, cond, eqb, List, [], get_or, Ok, Err, Result, sym, refl, ap, ◌∙◌, subst, arith, lit<, lit≤}
use Rattle.std.proofs.lemmas.Bool.{eqb-true, eqb-false, cond_both, and_from}
use Rattle.field.specs.declared.FieldFault.{FieldFault}
use Rattle.row.specs.declared.Limit.{Limit}
use Rattle.row.specs.Rows.{all_fit, within}
use Rattle.row.specs.Records.{row_of, record_answer}
use Rattle.row.proofs.Writing.{fits_small}
use Rattle.row.proofs.Reading.{limit_at}
use Rattle.row.proofs.Laws as row
use Rattle.card.specs.declared.generation.Generation.{Generation}
use Rattle.card.specs.declared.fault.RecordFault.{RecordFault}
use Rattle.card.specs.Generations.{numbers_of, bytes_of, limits_at, generation_of, told, read_answer, in_range, RoundTrip}

flag_number : (n : ℕ) → n ≤ 1 → cond (eqb n 1) 1 0 ≡ n
flag_number n h =
    let P : ℕ → Type 0 = λ m. m ≡ n in
    cond_both (eqb n 1) 1 0 P (λ e. sym (eqb-true n 1 e)) (λ e. let k : n ≡ 1 → ⊥ = eqb-false n 1 e in omega arith)

number_flag : (b : Bool) → eqb (cond b 1 0) 1 ≡ b
number_flag true = refl
number_flag false = refl

numbers_back : (blocks : ℕ) (ns : List ℕ) → within false [] (limits_at blocks) ns ≡ true → numbers_of (generation_of ns) ≡ ns
numbers_back blocks ns w =
    let c = flag_number (get_or ns 5 0) (row.within_most false [] (limits_at blocks) ns 5 w (lit< tt)) in
    let p = flag_number (get_or ns 6 0) (row.within_most false [] (limits_at blocks) ns 6 w (lit< tt)) in
    let s = row.within_spread false (limits_at blocks) ns w in
    (rw (c, p)) ∙ sym s

generation_back : (g : Generation) → generation_of (numbers_of g) ≡ g
generation_back g = let c = number_flag g.consistent in let p = number_flag g.primary in rw (c, p)

-- ---- writing

flag-fits : (b : Bool) → cond b 1 0 < 1000000000000
flag-fits true = lit< tt
flag-fits false = lit< tt

pub record Small (g : Generation) : Type 0 where
  pub current : g.current < 2 ^ 32
  pub bitmap : g.bitmap < 2 ^ 32
  pub recent : g.history_1 < 2 ^ 32
  pub older : g.history_2 < 2 ^ 32
  pub serial : g.serial < 2 ^ 32
  pub slots : g.slots < 2 ^ 32
  pub blocks : g.blocks < 2 ^ 32

pub all_fit_lem : (g : Generation) → Small g → all_fit (numbers_of g) ≡ true
unfolding all_fit
all_fit_lem g s =
    and_from _ _ (fits_small g.current (omega arith)) (and_from _ _ (fits_small g.bitmap (omega arith)) (and_from _ _ (fits_small g.history_1 (omega arith))
    (and_from _ _ (fits_small g.history_2 (omega arith)) (and_from _ _ (fits_small g.serial (omega arith)) (and_from _ _ (fits_small _ (flag-fits g.consistent))
    (and_from _ _ (fits_small _ (flag-fits g.primary)) (and_from _ _ (fits_small g.slots (omega arith)) (and_from _ _ (fits_small g.blocks (omega arith)) refl))))))))

-- ---- reading

round_trip : (block : List ℕ) (blocks : ℕ) → RoundTrip block blocks (read_answer block blocks)
round_trip block blocks =
    let law = row.answered block (limits_at blocks) false (record_answer block (limits_at blocks) false) refl in
    let P : Result (List ℕ) FieldFault → Type 0 =
    λ r. record_answer block (limits_at blocks) false ≡ r → (g : Generation) → told r ≡ Ok g → (in_range blocks g ≡ true) × (block ≡ bytes_of g) in
    let back : (r : Result (List ℕ) FieldFault) → P r =
    λ r. elim r as P [
      | Ok ns ↦ λ e g h.
          let a = law.sound ns e in
          let k : numbers_of g ≡ ns = ap numbers_of (let q : generation_of ns ≡ g = cc in sym q) ∙ numbers_back blocks ns a.0 in
          (ap (within false [] (limits_at blocks)) k ∙ a.0, a.1 ∙ ap (row_of 512) (sym k))
      | Err f ↦ λ e g h. let z : ◌≡◌ {A = ℕ} 0 1 = cc in absurd (omega arith)
    ] in
    record {
      sound = back (record_answer block (limits_at blocks) false) refl;
      complete = λ g w e. ap told (law.complete (numbers_of g) w e (lit≤ tt)) ∙ ap Ok (generation_back g);
    }

pub answered : (block : List ℕ) (blocks : ℕ) (r : Result Generation (RecordFault 0)) → r ≡ read_answer block blocks → RoundTrip block blocks r
answered block blocks r e = let P : Result Generation (RecordFault 0) → Type 0 = RoundTrip block blocks in subst P (sym e) (round_trip block blocks)

-- the numbers that were read are at most their limits
pub read_most : (block : List ℕ) (blocks : ℕ) (limits : List Limit) (ns : List ℕ) (k : ℕ) → limits ≡ limits_at blocks → Ok ns ≡ record_answer block limits false → k < 9
    → get_or ns k 0 ≤ (limit_at (limits_at blocks) k).most
read_most block blocks limits ns k e r h =
    let law = row.answered block limits false (record_answer block limits false) refl in
    let w : within false [] (limits_at blocks) ns ≡ true = subst (λ (z : List Limit). within false [] z ns ≡ true) e (law.sound ns (sym r)).0 in
    row.within_most false [] (limits_at blocks) ns k w h
