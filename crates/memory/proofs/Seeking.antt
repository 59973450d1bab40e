-- The first number of which a test holds, as the library's searches give it.
use Rattle.std.proofs.Common.{◌≡◌, ℕ, zero, suc, ◌+◌, ◌<◌, Bool, true, false, cond, List, [], ◌∷◌, length, get_or, Some, Option, refl, sym, ap, ◌∙◌, add-one, add-zero, zero-add, eqb, arith}
use Rattle.std.specs.Bool.{⊤}
use Rattle.std.specs.Fn.{CalledAt}
use Rattle.std.specs.Iterator.{YieldsThen}
use Rattle.std.specs.List.{find, position, position_from, range_with_len, FoldsTo}
use Rattle.std.specs.Option.{MatchOption}
use Rattle.std.specs.declared.ops.Range.{Range}
use denote.Param.Members.{Mut}
use denote.Ref.{Bor}
use Rattle.std.proofs.iter.Yields.{nat_range_steps}
use Rattle.std.proofs.lemmas.Iterator.{YieldsList-from_range}
use Rattle.std.proofs.lemmas.Iterator.Search.{find_from_yields_List}
use Rattle.std.proofs.lemmas.Iterator.Adapters.{option_map_id, position_from-zero}
use Rattle.bitmap.specs.Bits.{next}

find-next : (on : ℕ → Bool) (from size : ℕ) → find on (range_with_len from size) ≡ next on from size
unfolding next
find-next on from zero = refl
find-next on from (suc size) =
    ap (λ (o : Option ℕ). cond (on from) (Some from) o) (find-next on (from + 1) size ∙ ap (λ (k : ℕ). next on k size) (add-one from))

-- `find` over the numbers below `size`, with a closure that computes the test
pub found :
    {F : Type 0} {g : Mut F (Bor ℕ × Unit {0}) Bool} (on : ℕ → Bool) (size : ℕ) (s u : Range ℕ) (f : F) (r : Option ℕ) → s ≡ record { start = 0; end = size }
    → (xs : List ℕ) × (j : F) × YieldsThen nat_range_steps s xs r u × FoldsTo (λ p x q. CalledAt g p x false q) f xs j × MatchOption r ⊤ (λ x. (h : F) × CalledAt g j x true h)
    → ((x : ℕ) (b : Bool) (q : F) → CalledAt g f x b q → (q ≡ f) × (b ≡ on x)) → r ≡ next on 0 size
found on size s u f r e ran computes =
    sym (option_map_id r)
    ∙ find_from_yields_List on u f r ran (YieldsList-from_range 0 size size e (omega arith)) computes
    ∙ find-next on 0 size

-- `position` in a list
position-next : (on p : ℕ → Bool) (from : ℕ) (xs : List ℕ) → ((k : ℕ) → k < length xs → on (from + k) ≡ p (get_or xs k 0)) → position_from p from xs ≡ next on from (length xs)
unfolding next
position-next on p from [] h = refl
position-next on p from (x ∷ xs) h =
    let here : on from ≡ p x = ap on (sym (add-zero from)) ∙ h 0 (omega arith) in
    let later = position-next on p (from + 1) xs (λ k l. ap on (omega arith) ∙ h (suc k) (omega arith)) in
    ap (λ (b : Bool). cond b (Some from) (position_from p (from + 1) xs)) (sym here)
    ∙ ap (λ (o : Option ℕ). cond (on from) (Some from) o) (later ∙ ap (λ (k : ℕ). next on k (length xs)) (add-one from))

-- a slot's place in the order of use
pub place_of : (order : List ℕ) (slot : ℕ) → length order ≡ 16 → position (λ held. eqb held slot) order ≡ next (λ p. eqb (get_or order p 0) slot) 0 16
place_of order slot h =
    let is : ℕ → Bool = λ held. eqb held slot in
    let on : ℕ → Bool = λ p. is (get_or order p 0) in
    position_from-zero is order ∙ position-next on is 0 order (λ k l. ap on (zero-add k)) ∙ ap (next on 0) h
