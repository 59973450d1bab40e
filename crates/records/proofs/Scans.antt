-- A walk over one record after another, against a recursion over what is left of the list.
use Rattle.std.proofs.Common.{◌≡◌, ℕ, suc, ◌+◌, ◌≤◌, Bool, false, cond, ◌||◌, List, [], ◌∷◌, Some, None, Option, ◌++◌, map, length, take, drop, sym, refl, ap, ◌∙◌, add-zero, zero-add, arith}
use Rattle.std.proofs.lemmas.List.{length-append, length-take, length-drop, length-map, drop_all, take_all, drop_more, append-nil, at_drop_all}
use Rattle.std.proofs.iter.Yields.{fronts}
use Rattle.std.proofs.lemmas.Iterator.{YieldsList, YieldsList-from_slice}
use Rattle.std.proofs.lemmas.Iterator.Consumers.{YieldsList-at, YieldsList-from_chain, YieldsList-turn, YieldsList-end}
use Rattle.std.specs.List.{list_any, range_with_len, slice_get}
use Rattle.std.specs.Iterator.{Yields}
use Rattle.std.specs.Iterator.Adapters.{chain_steps}
use denote.Ref.{Bor}
use Rattle.std.specs.declared.iter.Chain.{Chain}
use Rattle.std.specs.declared.slice.Iter.{Iter}
use Rattle.records.specs.Kept.{Gives}
use Rattle.bitmap.specs.Bits.{with}
use Rattle.protocol.specs.declared.WriteRecord.{WriteRecord}
use Rattle.protocol.specs.Words.{waits}
use Rattle.protocol.specs.Activation.{any_of, ended, marking}

-- ---- what two slices give

pub list_given : (it began : Chain (Iter WriteRecord) (Iter WriteRecord)) (rs : List WriteRecord) → began ≡ it → Gives it rs → YieldsList (chain_steps fronts fronts) (λ y. y.now) began rs
list_given it began rs e g =
    YieldsList-at e (rw g.rest at (YieldsList-from_chain {s = it} (YieldsList-from_slice _ refl) (YieldsList-from_slice _ refl) g.first_goes g.second_goes))

-- ---- is there one that passes a test

abbrev pub passes : (WriteRecord → Bool) → Option WriteRecord → Bool
passes test None = false
passes test (Some r) = test r

any_from : (test : WriteRecord → Bool) (on : ℕ → Bool) (from : ℕ) (rs : List WriteRecord) → ((k : ℕ) → on (from + k) ≡ passes test (slice_get rs k)) → list_any on (range_with_len from (length rs)) ≡ any_of test rs
unfolding any_of
any_from test on from [] h = refl
any_from test on from (r ∷ rs) h =
    let here : on from ≡ test r = ap on (sym (add-zero from)) ∙ h 0 in
    ap (λ (b : Bool). b || list_any on (range_with_len (from + 1) (length rs))) here
    ∙ ap (λ (b : Bool). test r || b) (any_from test on (from + 1) rs (λ k. ap on (omega arith) ∙ h (suc k)))

-- each place is looked at
pub any_at : (test : WriteRecord → Bool) (rs : List WriteRecord) → list_any (λ i. passes test (slice_get rs i)) (range_with_len 0 (length rs)) ≡ any_of test rs
any_at test rs = any_from test _ 0 rs (λ k. ap (λ (i : ℕ). passes test (slice_get rs i)) (zero-add k))

-- ---- marking

-- xs came before x, and `bits` are as they stood then
pub marking_turn :
    {s : Chain (Iter WriteRecord) (Iter WriteRecord)} {rs : List WriteRecord} {r : Option (Bor WriteRecord)} (t u : Chain (Iter WriteRecord) (Iter WriteRecord)) → YieldsList (chain_steps fronts fronts) (λ y. y.now) s rs
    → (xs : List (Bor WriteRecord)) (x : Bor WriteRecord) → Yields (chain_steps fronts fronts) s xs t → r ≡ Some x → chain_steps fronts fronts t r u
    → (bits after : List ℕ) (b : Bool) → b ≡ waits x.now.standing → after ≡ cond b (with bits x.now.block) bits
    → marking (drop (length xs) rs) bits ≡ marking (drop (length (xs ++ x ∷ [])) rs) after
unfolding marking
marking_turn {s} {rs} {r} t u e xs x y is went bits after b w m =
    let i = length xs in
    let h = YieldsList-turn e xs t y r u x is went in
    ap (λ (qs : List WriteRecord). marking qs bits) (drop_more rs i x.now h.0 ∙ ap (λ (q : WriteRecord). q ∷ drop (i + 1) rs) (sym h.1))
    ∙ rw (length-append xs (x ∷ []), m) (ap (λ (a : Bool). marking (drop (i + 1) rs) (cond a (with bits x.now.block) bits)) (sym w))

-- all have come
pub marking_end :
    {s : Chain (Iter WriteRecord) (Iter WriteRecord)} {rs : List WriteRecord} {r : Option (Bor WriteRecord)} (t u : Chain (Iter WriteRecord) (Iter WriteRecord)) → YieldsList (chain_steps fronts fronts) (λ y. y.now) s rs
    → (xs : List (Bor WriteRecord)) → Yields (chain_steps fronts fronts) s xs t → r ≡ None → chain_steps fronts fronts t r u
    → (bits : List ℕ) → marking (drop (length xs) rs) bits ≡ bits
unfolding marking
marking_end {s} {rs} {r} t u e xs y is went bits =
    let h = YieldsList-end e xs t y r u is went in at_drop_all (λ (qs : List WriteRecord). marking qs bits) rs (length xs) (omega arith)

-- ---- ending

-- the records from i on have yet to be ended
abbrev pub ended_from : ℕ → List WriteRecord → List WriteRecord
ended_from i rs = take i rs ++ map ended (drop i rs)

ended_past : (rs : List WriteRecord) (i : ℕ) → length rs ≤ i → ended_from i rs ≡ rs
ended_past rs i h = rw (take_all i rs h, drop_all i rs h) (append-nil rs)

ended-length : (rs : List WriteRecord) (i : ℕ) → length (ended_from i rs) ≡ length rs
ended-length rs i = simp (length-append, length-map, length-take, length-drop) (omega arith)

-- the loop counts the records as they were before it, and there are as many after it
pub ended_all : (rs qs : List WriteRecord) (i : ℕ) → map ended rs ≡ ended_from i qs → length rs ≤ i → qs ≡ map ended rs
ended_all rs qs i e h =
    let same : length rs ≡ length qs = sym (length-map rs ended) ∙ ap length e ∙ ended-length qs i in sym (e ∙ ended_past qs i (omega arith))
