-- A row of bytes made anew, or eight of its bytes changed, byte by byte; and what the bitmap is after it.
use Rattle.std.proofs.Common.{◌≡◌, ℕ, zero, suc, ◌+◌, ◌-◌, ◌*◌, ◌/◌, ◌^◌, ◌<◌, ◌≤◌, min, Bool, true, false, cond, ◌&&◌, ◌||◌, eqb, ltb, ◌≢◌, List, ◌++◌, length, get_or, take, drop, set, sym, refl, ap, ◌∙◌, subst, inl, inr, arith, lit<, eq-eqb, ne_eqb}
use borrow.Rule.Slice.PartMut.{mid_of, put_mid}
use denote.Param.Members.{Mut}
use lib.Bits.{bit_or, or_lt, or_zero_r}
use lib.Pow.{ones_lt}
use native.Mathlib.Nat.{pow-le-pow_right}
use Rattle.std.specs.Array.{IsFromFnResultFrom, IsFromFnResult}
use Rattle.std.specs.Fn.{Called}
use Rattle.std.proofs.lemmas.List.{get_or-set_same, get_or-set_other, get_or_past, get_or_append_left, get_or-append_right, get_or-take, get_or-drop, length-take-le, length-set, length-append, length-take, length-drop}
use Rattle.std.proofs.lemmas.Bool.{cases_eq, cases_lt, cond-true, cond-false}
use Rattle.std.proofs.lemmas.Bool.Decides.{same_from_decides, Decides-ltb, Decides-like}
use Rattle.bitmap.specs.Bits.{digit, bit, packed}
use Rattle.bitmap.proofs.Digits.{digit_zero, digit_ones, digit_or}
use Rattle.bitmap.proofs.Packing.{Octets, packs, bit_at}

-- byte k is `made k`, where the closure gives that of k at each call
made_by : {F : Type 0} (g : Mut F (ℕ × Unit {0}) ℕ) (made : ℕ → ℕ) (f : F) (ys : List ℕ) (i n : ℕ) → ((k y : ℕ) (q : F) → Called g f (k, tt) y q → (q ≡ f) × (y ≡ made k))
    → IsFromFnResultFrom g f ys i n → (k : ℕ) → i ≤ k → k < i + n → get_or ys k 0 ≡ made k
made_by g made f ys i zero c m k a b = absurd (omega arith)
made_by {F} g made f ys i (suc n) c m k a b =
    let t = c i m.1 m.0 m.3 in
    let P : F → Type 0 = λ q. IsFromFnResultFrom g q ys (i + 1) n in
    elim (cases_eq k i) [
      | inl e ↦ ap (λ (j : ℕ). get_or ys j 0) e ∙ m.2.1 0 ∙ t.1 ∙ ap made (sym e)
      | inr p ↦ made_by g made f ys (i + 1) n c (subst P t.0 m.4) k (omega arith) (omega arith)
    ]

-- the bytes made have just the bits that are given
pub record Makes (made : ℕ → ℕ) (on : ℕ → Bool) : Type 0 where
  pub octets : (k : ℕ) → made k < 256
  pub bits : (k j : ℕ) → j < 8 → digit (made k) j ≡ on (k * 8 + j)

-- so a row of them is what the bits pack to
packs_made : (size : ℕ) (ys : List ℕ) (made : ℕ → ℕ) (on : ℕ → Bool) → length ys ≡ size → ((k : ℕ) → k < size → get_or ys k 0 ≡ made k) → Makes made on → (ys ≡ packed size on) × Octets ys
packs_made size ys made on l at b =
    let octets : Octets ys =
    λ k. elim (cases_lt k size) [
      | inl h ↦ let e = at k h in let s = b.octets k in omega arith
      | inr h ↦ let z = get_or_past ys k 0 (omega arith) in omega arith
    ]
    in
    (packs size ys on l octets (λ k j h i. ap (λ (y : ℕ). digit y j) (at k h) ∙ b.bits k j i), octets)

pub remade : {F : Type 0} (g : Mut F (ℕ × Unit {0}) ℕ) (size : ℕ) (f : F) (ys : List ℕ) (made : ℕ → ℕ) (on : ℕ → Bool) → IsFromFnResult g f ys size
    → ((k y : ℕ) (q : F) → Called g f (k, tt) y q → (q ≡ f) × (y ≡ made k)) → Makes made on → (ys ≡ packed size on) × Octets ys
remade g size f ys made on m c b = packs_made size ys made on m.long (λ k h. made_by g made f ys 0 size c m.each k (omega arith) (omega arith)) b

-- ---- the bits below the number of blocks, in byte k

-- how many of the bits of byte k there are
abbrev pub share : ℕ → ℕ → ℕ
share blocks k = min 8 (blocks - k * 8)

share_lt : (blocks k : ℕ) → 2 ^ share blocks k - 1 < 256
share_lt blocks k =
    let p : 2 ^ share blocks k ≤ 2 ^ 8 = pow-le-pow_right (lit< tt) {i = share blocks k} {j = 8} (omega arith) in omega (arith, ones_lt (share blocks k))

digit_share : (blocks k j : ℕ) → j < 8 → digit (2 ^ share blocks k - 1) j ≡ ltb (k * 8 + j) blocks
digit_share blocks k j h =
    digit_ones (share blocks k) j
    ∙ same_from_decides (ltb j (share blocks k)) (ltb (k * 8 + j) blocks) (Decides-ltb j (share blocks k))
    (Decides-like (ltb (k * 8 + j) blocks) (λ e. omega arith) (λ e. omega arith) (Decides-ltb (k * 8 + j) blocks))

pub makes_first : (blocks : ℕ) → Makes (λ k. 2 ^ share blocks k - 1) (λ j. ltb j blocks)
makes_first blocks = record { octets = share_lt blocks; bits = digit_share blocks }

-- ---- bits joined to those that stand there

pub makes_union : (xs zs : List ℕ) → Octets xs → Octets zs → Makes (λ k. bit_or (get_or xs k 0) (get_or zs k 0)) (λ j. bit xs j || bit zs j)
makes_union xs zs o p =
    record {
      octets = λ k. or_lt 8 (get_or xs k 0) (get_or zs k 0) (o k) (p k);
      bits = λ k j h. digit_or (get_or xs k 0) (get_or zs k 0) j ∙ sym (rw (bit_at xs k j h, bit_at zs k j h));
    }

-- the bits of an extent, in byte k
abbrev pub marks : ℕ → ℕ → ℕ → ℕ
marks extent blocks k = cond (eqb (k / 8) extent) (2 ^ share blocks k - 1) 0

marks_lt : (extent blocks k : ℕ) → marks extent blocks k < 256
marks_lt extent blocks k =
    elim (eqb (k / 8) extent) as (λ t. cond t (2 ^ share blocks k - 1) 0 < 256) [ true ↦ share_lt blocks k | false ↦ omega arith ]

digit_marks : (extent blocks k j : ℕ) → j < 8 → digit (marks extent blocks k) j ≡ (eqb ((k * 8 + j) / 64) extent && ltb (k * 8 + j) blocks)
digit_marks extent blocks k j h =
    let e : (k * 8 + j) / 64 ≡ k / 8 = omega arith in
    rw e (elim (eqb (k / 8) extent) as (λ t. digit (cond t (2 ^ share blocks k - 1) 0) j ≡ (t && ltb (k * 8 + j) blocks))
    [ true ↦ digit_share blocks k j h | false ↦ digit_zero j ])

pub makes_extent : (xs : List ℕ) (extent blocks : ℕ) → Octets xs
    → Makes (λ k. bit_or (get_or xs k 0) (marks extent blocks k)) (λ j. bit xs j || (eqb (j / 64) extent && ltb j blocks))
makes_extent xs extent blocks o =
    record {
      octets = λ k. or_lt 8 (get_or xs k 0) (marks extent blocks k) (o k) (marks_lt extent blocks k);
      bits = λ k j h. digit_or (get_or xs k 0) (marks extent blocks k) j ∙ (cc (digit_marks extent blocks k j h, bit_at xs k j h));
    }

off_marks : (extent blocks k x : ℕ) → k / 8 ≢ extent → x ≡ bit_or x (marks extent blocks k)
off_marks extent blocks k x h = sym (ap (bit_or x) (cond-false (eqb (k / 8) extent) _ _ (ne_eqb (k / 8) extent h)) ∙ or_zero_r x)

on_marks : (extent blocks k x : ℕ) → k / 8 ≡ extent → bit_or x (2 ^ share blocks k - 1) ≡ bit_or x (marks extent blocks k)
on_marks extent blocks k x h = sym (ap (bit_or x) (cond-true (eqb (k / 8) extent) _ _ (eq-eqb (k / 8) extent h)))

-- the extent's bytes are put in the place of those that stand there
marked : (extent blocks from w : ℕ) (xs ys : List ℕ) → from ≡ extent * 8 → w ≡ 8 → from + 8 ≤ length xs → length ys ≡ 8
    → ((k : ℕ) → k < 8 → get_or ys k 0 ≡ bit_or (get_or xs (from + k) 0) (2 ^ share blocks (from + k) - 1))
    → (k : ℕ) → get_or (put_mid from w xs ys) k 0 ≡ bit_or (get_or xs k 0) (marks extent blocks k)
marked extent blocks from w xs ys f v l m s k =
    let t : length (take from xs) ≡ from = length-take-le from xs (omega arith) in
    elim (cases_lt k from) [
      | inl a ↦ get_or_append_left (take from xs) _ 0 k (omega arith) ∙ get_or-take from xs k 0 a ∙ off_marks extent blocks k (get_or xs k 0) (λ e. absurd (omega arith))
      | inr a ↦
          let r = get_or-append_right (take from xs) (ys ++ drop w (drop from xs)) from k 0 t a in
          elim (cases_lt k (from + 8)) [
            | inl b ↦
                let e : from + (k - from) ≡ k = omega arith in
                r ∙ get_or_append_left ys _ 0 (k - from) (omega arith) ∙ s (k - from) (omega arith)
                ∙ ap (λ (i : ℕ). bit_or (get_or xs i 0) (2 ^ share blocks i - 1)) e ∙ on_marks extent blocks k (get_or xs k 0) (omega arith)
            | inr b ↦
                let e : from + (w + (k - from - 8)) ≡ k = omega arith in
                r ∙ get_or-append_right ys _ 8 (k - from) 0 m (omega arith) ∙ get_or-drop w (drop from xs) (k - from - 8) 0
                ∙ get_or-drop from xs (w + (k - from - 8)) 0 ∙ ap (λ (i : ℕ). get_or xs i 0) e ∙ off_marks extent blocks k (get_or xs k 0) (λ e. absurd (omega arith))
          ]
    ]

-- of eight bytes of xs from `from` on, which are ys now, those below k are joined to those that are given
pub record Joined (from k : ℕ) (other : ℕ → ℕ) (xs ys : List ℕ) : Type 0 where
  pub long : length ys ≡ 8
  pub done : (i : ℕ) → i < k → get_or ys i 0 ≡ bit_or (get_or xs (from + i) 0) (other (from + i))
  pub rest : (i : ℕ) → k ≤ i → i < 8 → get_or ys i 0 ≡ get_or xs (from + i) 0

pub joined_none : (from w : ℕ) (other : ℕ → ℕ) (xs : List ℕ) → w ≡ 8 → from + 8 ≤ length xs → Joined from 0 other xs (mid_of from w xs)
joined_none from w other xs e l =
    record {
      long = simp (length-take, length-drop) (omega arith);
      done = λ i h. absurd (omega arith);
      rest = λ i a b. get_or-take w (drop from xs) i 0 (omega arith) ∙ get_or-drop from xs i 0;
    }

pub joined_more : (from k : ℕ) (other : ℕ → ℕ) (xs ys : List ℕ) (x : ℕ) → k < length ys → x ≡ other (from + k) → Joined from k other xs ys
    → Joined from (k + 1) other xs (set ys k (bit_or (get_or ys k 0) x))
joined_more from k other xs ys x h e j =
    record {
      long = length-set ys k _ ∙ j.long;
      done = λ i a. elim (cases_eq i k) [
        | inl q ↦
            ap (λ (m : ℕ). get_or (set ys k (bit_or (get_or ys k 0) x)) m 0) q ∙ get_or-set_same ys k _ 0 h
            ∙ rw (j.rest k (omega arith) (let l = j.long in omega arith), e) refl ∙ ap (λ (m : ℕ). bit_or (get_or xs (from + m) 0) (other (from + m))) (sym q)
        | inr q ↦ get_or-set_other ys k i _ 0 q ∙ j.done i (omega arith)
      ];
      rest = λ i a b. get_or-set_other ys k i _ 0 (λ q. absurd (omega arith)) ∙ j.rest i (omega arith) b;
    }

pub marks_extent : (size extent blocks from w k : ℕ) (xs ys : List ℕ) → length xs ≡ size → Octets xs → from ≡ extent * 8 → w ≡ 8 → from + 8 ≤ size → length ys ≤ k
    → Joined from k (λ i. 2 ^ share blocks i - 1) xs ys → (put_mid from w xs ys ≡ packed size (λ j. bit xs j || (eqb (j / 64) extent && ltb j blocks))) × Octets (put_mid from w xs ys)
marks_extent size extent blocks from w k xs ys l o a v h n j =
    let e = j.long in
    let s : length (put_mid from w xs ys) ≡ size = simp (length-append, length-take, length-drop) (omega arith) in
    packs_made size (put_mid from w xs ys) (λ i. bit_or (get_or xs i 0) (marks extent blocks i)) _ s
    (λ i b. marked extent blocks from w xs ys a v (omega arith) e (λ i c. j.done i (omega arith)) i) (makes_extent xs extent blocks o)

pub marks_no_extent : (size extent blocks : ℕ) (xs : List ℕ) → length xs ≡ size → Octets xs → size ≤ extent * 8 → xs ≡ packed size (λ j. bit xs j || (eqb (j / 64) extent && ltb j blocks))
marks_no_extent size extent blocks xs l o h = (packs_made size xs (λ k. bit_or (get_or xs k 0) (marks extent blocks k)) _ l (λ k i. off_marks extent blocks k (get_or xs k 0) (λ e. absurd (omega arith))) (makes_extent xs extent blocks o)).0
