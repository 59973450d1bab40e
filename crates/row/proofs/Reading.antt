-- A row is read field by field.
use Rattle.std.proofs.Common.{◌≡◌, ℕ, suc, ◌+◌, ◌*◌, ◌<◌, ◌≤◌, Bool, false, cond, ◌&&◌, ◌⊎◌, List, [], ◌∷◌, ◌++◌, length, get_or, take, drop, set, zip, Ok, Err, Result, sym, refl, ap, ◌∙◌, inl, inr, arith}
use Rattle.std.specs.List.{list_all}
use Rattle.std.proofs.lemmas.List.{length-set, take_all, take_more_set, at_drop_more, at_drop_all}
use Rattle.std.proofs.lemmas.Bool.{cond_both, and_right}
use Rattle.field.specs.declared.FieldFault.{FieldFault}
use Rattle.field.specs.Fields.{read_at}
use Rattle.field.proofs.Places.{read_at_number}
use Rattle.row.specs.declared.Limit.{Limit}
use Rattle.row.specs.Rows.{takes, within, wrong, unless_fault, field_answer, row_from}

-- ---- which numbers may stand

pub within_differs : (before : List ℕ) (limits : List Limit) (ns : List ℕ) → (length ns ≡ length limits → ⊥) → false ≡ within false before limits ns
unfolding within
within_differs before [] [] h = absurd (h refl)
within_differs before [] (n ∷ ns) h = refl
within_differs before (l ∷ ls) [] h = refl
within_differs before (l ∷ ls) (n ∷ ns) h = sym (and_right (takes l n) _ (sym (within_differs (before ++ n ∷ []) ls ns (λ e. h (ap suc e)))))

pub within_zip : (before : List ℕ) (limits : List Limit) (ns : List ℕ) → length ns ≡ length limits
    → list_all (λ (p : ℕ × Limit). takes p.1 p.0) (zip ns limits) ≡ within false before limits ns
unfolding within
within_zip before [] [] h = refl
within_zip before [] (n ∷ ns) h = absurd (omega arith)
within_zip before (l ∷ ls) [] h = absurd (omega arith)
within_zip before (l ∷ ls) (n ∷ ns) h = ap (λ (b : Bool). takes l n && b) (within_zip (before ++ n ∷ []) ls ns (omega arith))

-- ---- a field

pub passed : {A B : Type 0} (r : Result A FieldFault) (next : A → Result B FieldFault) (b : B) → unless_fault r next ≡ Ok b
    → (a : A) × (r ≡ Ok a) × (next a ≡ Ok b)
passed (Ok a) next b h = (a, refl, h)
passed (Err f) next b h = let z : ◌≡◌ {A = ℕ} 0 1 = cc in absurd (omega arith)

pub field_is : (bytes : List ℕ) (at : ℕ) (limit : Limit) (once : Bool) (before : List ℕ) (n : ℕ) → field_answer bytes at limit once before ≡ Ok n
    → (read_at bytes at 12 limit.most ≡ Ok n) × (wrong limit once before n ≡ false)
unfolding field_answer
field_is bytes at limit once before n h =
    let p = passed (read_at bytes at 12 limit.most) (λ m. cond (wrong limit once before m) (Err (record { at = at })) (Ok m)) n h in
    let m = p.0 in
    let P : Result ℕ FieldFault → Type 0 = λ r. r ≡ Ok n → (read_at bytes at 12 limit.most ≡ Ok n) × (wrong limit once before n ≡ false) in
    cond_both (wrong limit once before m) (Err (record { at = at })) (Ok m) P
    (λ e k. let z : ◌≡◌ {A = ℕ} 0 1 = cc in absurd (omega arith))
    (λ e k. let q : m ≡ n = cc in (p.1 ∙ ap Ok q, ap (wrong limit once before) (sym q) ∙ e))
    p.2

pub field_reached : (bytes : List ℕ) (at : ℕ) (limit : Limit) (once : Bool) (before : List ℕ) (n : ℕ)
    → field_answer bytes at limit once before ≡ Ok n → at + 12 ≤ length bytes
field_reached bytes at limit once before n h = (read_at_number bytes at 12 limit.most n (field_is bytes at limit once before n h).0).reached

pub field_right : (bytes : List ℕ) (at : ℕ) (limit : Limit) (once : Bool) (before : List ℕ) (n : ℕ) → read_at bytes at 12 limit.most ≡ Ok n
    → wrong limit once before n ≡ false → field_answer bytes at limit once before ≡ Ok n
unfolding field_answer
field_right bytes at limit once before n e a = rw (e, a)

-- ---- a row, of which i numbers are read

abbrev pub limit_at : List Limit → ℕ → Limit
limit_at limits i = get_or limits i (record { least = 0; most = 0 })

pub record SoFar (bytes : List ℕ) (once : Bool) (from : ℕ) (limits : List Limit) (i : ℕ) (ns : List ℕ) : Type 0 where
  pub long : length ns ≡ length limits
  pub reached : (i ≡ 0) ⊎ (from + 12 * i ≤ length bytes)
  pub read : row_from bytes once from [] limits ≡ row_from bytes once (from + 12 * i) (take i ns) (drop i limits)

pub sofar_none : (bytes : List ℕ) (once : Bool) (from : ℕ) (limits : List Limit) (ns : List ℕ) → length ns ≡ length limits → SoFar bytes once from limits 0 ns
sofar_none bytes once from limits ns l =
    let k : from ≡ from + 12 * 0 = omega arith in
    record { long = l; reached = inl refl; read = ap (λ (z : ℕ). row_from bytes once z [] limits) k }

row_more : (bytes : List ℕ) (once : Bool) (at i : ℕ) (ns : List ℕ) (limits : List Limit) (n : ℕ) → i < length limits → i < length ns
    → field_answer bytes at (limit_at limits i) once (take i ns) ≡ Ok n
    → row_from bytes once at (take i ns) (drop i limits) ≡ row_from bytes once (at + 12) (take (i + 1) (set ns i n)) (drop (i + 1) limits)
unfolding row_from
row_more bytes once at i ns limits n h k e =
    at_drop_more (row_from bytes once at (take i ns)) limits i (record { least = 0; most = 0 }) h
    ∙ ap (λ (r : Result ℕ FieldFault). unless_fault r (λ m. row_from bytes once (at + 12) (take i ns ++ m ∷ []) (drop (i + 1) limits))) e
    ∙ ap (λ (z : List ℕ). row_from bytes once (at + 12) z (drop (i + 1) limits)) (sym (take_more_set ns i n k))

pub sofar_more : (bytes : List ℕ) (once : Bool) (from : ℕ) (limits : List Limit) (i : ℕ) (ns : List ℕ) (n : ℕ) → i < length limits → SoFar bytes once from limits i ns
    → field_answer bytes (from + 12 * i) (limit_at limits i) once (take i ns) ≡ Ok n → SoFar bytes once from limits (i + 1) (set ns i n)
sofar_more bytes once from limits i ns n h s f =
    let l = s.long in
    let r = field_reached bytes (from + 12 * i) (limit_at limits i) once (take i ns) n f in
    let k : from + 12 * i + 12 ≡ from + 12 * (i + 1) = omega arith in
    record {
      long = length-set ns i n ∙ s.long;
      reached = inr (omega arith);
      read =
          s.read ∙ row_more bytes once (from + 12 * i) i ns limits n h (omega arith) f
          ∙ ap (λ (z : ℕ). row_from bytes once z (take (i + 1) (set ns i n)) (drop (i + 1) limits)) k;
    }

pub sofar_fault : (bytes : List ℕ) (once : Bool) (from : ℕ) (limits : List Limit) (i : ℕ) (ns : List ℕ) (f : FieldFault) → i < length limits
    → SoFar bytes once from limits i ns → field_answer bytes (from + 12 * i) (limit_at limits i) once (take i ns) ≡ Err f → row_from bytes once from [] limits ≡ Err f
unfolding row_from
sofar_fault bytes once from limits i ns f h s e =
    s.read ∙ at_drop_more (row_from bytes once (from + 12 * i) (take i ns)) limits i (record { least = 0; most = 0 }) h
    ∙ ap (λ (r : Result ℕ FieldFault). unless_fault r (λ m. row_from bytes once (from + 12 * i + 12) (take i ns ++ m ∷ []) (drop (i + 1) limits))) e

pub sofar_all : (bytes : List ℕ) (once : Bool) (from : ℕ) (limits : List Limit) (i : ℕ) (ns : List ℕ) → length limits ≤ i → SoFar bytes once from limits i ns
    → row_from bytes once from [] limits ≡ Ok ns
unfolding row_from
sofar_all bytes once from limits i ns h s =
    let l = s.long in
    let t : take i ns ≡ ns = take_all i ns (omega arith) in
    s.read ∙ at_drop_all (row_from bytes once (from + 12 * i) (take i ns)) limits i h ∙ ap Ok t
