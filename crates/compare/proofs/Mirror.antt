-- Both ends find the same: each step of a comparison, seen from the other end.
use Rattle.std.proofs.Common.{◌≡◌, ℕ, Bool, cond, ltb, List, [], ◌∷◌, find, unwrap_or, Some, None, Option, Ok, Err, Result, ℤ, refl, sym, ap, ◌∙◌, arith}
use mathlib.Core.Bool.{and_comm, or_comm}
use Rattle.std.proofs.lemmas.Bool.Decides.{nat_tests}
use Rattle.compare.specs.declared.side.Side.{Side}
use Rattle.compare.specs.declared.rule.Rule.{Rule}
use Rattle.compare.specs.declared.rule.Rule.TheVariants.{BothBlank, OneBlank, BothInconsistent, OneInconsistent, SameGeneration, InBitmap, InHistory, SameBitmap, SharedAncestor, NothingShared}
use Rattle.compare.specs.declared.Node.{Node}
use Rattle.compare.specs.declared.Node.TheVariants.{Zero, One}
use Rattle.compare.specs.declared.Word.{Word}
use Rattle.compare.specs.declared.Word.TheVariants.{NoOne, NodeZero, NodeOne, FewerBits}
use Rattle.compare.specs.declared.finding.End.{End}
use Rattle.compare.specs.declared.finding.End.TheVariants.{Here, There}
use Rattle.compare.specs.declared.finding.Amount.{Amount}
use Rattle.compare.specs.declared.finding.Amount.TheVariants.{Bits, Full}
use Rattle.compare.specs.declared.finding.Finding.{Finding}
use Rattle.compare.specs.declared.finding.Finding.TheVariants.{NoResync, Resync, Split}
use Rattle.refusal.specs.declared.Refusal.{Refusal}
use Rattle.compare.specs.Sides.{blank, tracks, remembers}
use Rattle.compare.specs.Rules.{rule_fits, rule_finds, source_where, in_order, deciding_rule}
use Rattle.compare.specs.Meeting.{opposite, unless_barred, tested, end_of, gives_way, settled, answer_to, onward, meeting, comparison}
use Rattle.compare.specs.Laws.{other, from_there}
use Rattle.compare.proofs.Shared.{eqb_comm, same_bitmap_comm, shares_ancestor_comm}

abbrev mirror : Finding → Finding
mirror NoResync = NoResync
mirror (Resync e a) = Resync (opposite e) a
mirror (Split a) = Split a

abbrev mirror_ok : Result Finding Refusal → Result Finding Refusal
mirror_ok (Ok f) = Ok (mirror f)
mirror_ok (Err r) = Err r

abbrev mirror_some : Option End → Option End
mirror_some (Some e) = Some (opposite e)
mirror_some None = None

fits_mirror : (r : Rule) (m p : Side) → rule_fits r p m ≡ rule_fits r m p
fits_mirror BothBlank m p = and_comm (blank p) (blank m)
fits_mirror OneBlank m p = or_comm (blank p) (blank m)
fits_mirror BothInconsistent m p = grind (arith, nat_tests)
fits_mirror OneInconsistent m p = grind (arith, nat_tests)
fits_mirror SameGeneration m p = eqb_comm p.current m.current
fits_mirror InBitmap m p = or_comm (tracks p m) (tracks m p)
fits_mirror InHistory m p = or_comm (remembers p m) (remembers m p)
fits_mirror SameBitmap m p = same_bitmap_comm p m
fits_mirror SharedAncestor m p = shares_ancestor_comm p m
fits_mirror NothingShared m p = refl

first_mirror : (rs : List Rule) (m p : Side) → find (λ r. rule_fits r p m) rs ≡ find (λ r. rule_fits r m p) rs
first_mirror [] m p = refl
first_mirror (r ∷ rs) m p = rw (fits_mirror r m p, first_mirror rs m p) refl

source_mirror : (here there : Bool) (a : Amount) → source_where there here a ≡ mirror (source_where here there a)
source_mirror here there a = grind arith

finds_mirror : (r : Rule) (m p : Side) → rule_finds r p m ≡ mirror_ok (rule_finds r m p)
finds_mirror BothBlank m p = refl
finds_mirror OneBlank m p = ap Ok (source_mirror (blank p) (blank m) Full)
finds_mirror BothInconsistent m p = refl
finds_mirror OneInconsistent m p = ap Ok (source_mirror m.consistent p.consistent Bits)
finds_mirror SameGeneration m p = ap Ok (source_mirror m.primary p.primary Bits)
finds_mirror InBitmap m p = ap Ok (source_mirror (tracks m p) (tracks p m) Bits)
finds_mirror InHistory m p = ap Ok (source_mirror (remembers m p) (remembers p m) Full)
finds_mirror SameBitmap m p = refl
finds_mirror SharedAncestor m p = refl
finds_mirror NothingShared m p = refl

barred_mirror : (s t : Side) (f : Finding) → unless_barred s t (mirror f) ≡ mirror_ok (unless_barred s t f)
barred_mirror s t f = grind arith

tested_mirror : (m p : Side) (f : Finding) → tested p m (mirror f) ≡ mirror_ok (tested m p f)
tested_mirror m p NoResync = refl
tested_mirror m p (Resync Here a) = barred_mirror m p (Resync Here a)
tested_mirror m p (Resync There a) = barred_mirror p m (Resync There a)
tested_mirror m p (Split a) = refl

end_mirror : (asking node : Node) → end_of (other asking) node ≡ opposite (end_of asking node)
end_mirror Zero Zero = refl
end_mirror Zero One = refl
end_mirror One Zero = refl
end_mirror One One = refl

fewer_mirror : (a b : ℕ) (e : End) → cond (ltb b a) Here (cond (ltb a b) There (opposite e)) ≡ opposite (cond (ltb a b) Here (cond (ltb b a) There e))
fewer_mirror a b e = grind (arith, nat_tests)

way_mirror : (w : Word) (asking : Node) (m p : Side) → gives_way w (other asking) p m ≡ mirror_some (gives_way w asking m p)
way_mirror NoOne asking m p = refl
way_mirror NodeZero asking m p = ap Some (end_mirror asking Zero)
way_mirror NodeOne asking m p = ap Some (end_mirror asking One)
way_mirror FewerBits asking m p = rw (end_mirror asking One) (ap Some (fewer_mirror m.bits p.bits (end_of asking One)))

settled_mirror : (e : Option End) (m p : Side) (f : Finding) → settled (mirror_some e) p m (mirror f) ≡ mirror (settled e m p f)
settled_mirror (Some Here) m p (Split a) = grind arith
settled_mirror (Some There) m p (Split a) = grind arith
settled_mirror None m p (Split a) = refl
settled_mirror e m p NoResync = refl
settled_mirror e m p (Resync s a) = refl

answer_mirror : (f : Finding) → answer_to (mirror f) ≡ from_there (answer_to f)
answer_mirror NoResync = refl
answer_mirror (Resync Here Bits) = refl
answer_mirror (Resync Here Full) = refl
answer_mirror (Resync There Bits) = refl
answer_mirror (Resync There Full) = refl
answer_mirror (Split a) = refl

onward_mirror : (r : Result Finding Refusal) (there here : Finding → Result Finding Refusal) → ((f : Finding) → there (mirror f) ≡ mirror_ok (here f)) → onward (mirror_ok r) there ≡ mirror_ok (onward r here)
onward_mirror (Ok f) there here e = e f
onward_mirror (Err r) there here e = refl

found_mirror : (m p : Side) → rule_finds (deciding_rule p m) p m ≡ mirror_ok (rule_finds (deciding_rule m p) m p)
found_mirror m p = ap (λ o. rule_finds (unwrap_or o NothingShared) p m) (first_mirror in_order m p) ∙ finds_mirror (deciding_rule m p) m p

tried_mirror : (m p : Side) → onward (rule_finds (deciding_rule p m) p m) (tested p m) ≡ mirror_ok (onward (rule_finds (deciding_rule m p) m p) (tested m p))
tried_mirror m p = ap (λ r. onward r (tested p m)) (found_mirror m p) ∙ onward_mirror (rule_finds (deciding_rule m p) m p) (tested p m) (tested m p) (tested_mirror m p)

meeting_mirror : (m p : Side) (asking : Node) (w : Word) → meeting p m (other asking) w ≡ mirror_ok (meeting m p asking w)
meeting_mirror m p asking w =
    let there : Finding → Result Finding Refusal = λ f. Ok (settled (gives_way w (other asking) p m) p m f) in
    let here : Finding → Result Finding Refusal = λ f. Ok (settled (gives_way w asking m p) m p f) in
    ap (λ r. onward r there) (tried_mirror m p) ∙
    onward_mirror (onward (rule_finds (deciding_rule m p) m p) (tested m p)) there here
    (λ f. ap (λ e. Ok (settled e p m (mirror f))) (way_mirror w asking m p) ∙ ap Ok (settled_mirror (gives_way w asking m p) m p f))

answered_mirror : (r : Result Finding Refusal) → onward (mirror_ok r) answer_to ≡ from_there (onward r answer_to)
answered_mirror (Ok f) = answer_mirror f
answered_mirror (Err r) = refl

pub comparison_mirror : (m p : Side) (asking : Node) (w : Word) (r : Result ℤ Refusal) → r ≡ comparison m p asking w → comparison p m (other asking) w ≡ from_there r
comparison_mirror m p asking w r is =
    ap (λ r. onward r answer_to) (meeting_mirror m p asking w) ∙ answered_mirror (meeting m p asking w) ∙ ap from_there (sym is)
