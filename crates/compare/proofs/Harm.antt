-- No copy is found that does harm.
use Rattle.std.proofs.Common.{◌≡◌, ◌<◌, Bool, true, false, cond, not, ◌&&◌, Some, None, Option, Ok, Err, Result, MatchResult, ℤ, refl, sym, subst, arith}
use Rattle.compare.specs.declared.side.Side.{Side}
use Rattle.compare.specs.declared.side.Role.{Role}
use Rattle.compare.specs.declared.side.Role.TheVariants.{Primary, Secondary}
use Rattle.compare.specs.declared.rule.Rule.{Rule}
use Rattle.compare.specs.declared.rule.Rule.TheVariants.{BothBlank, OneBlank, BothInconsistent, OneInconsistent, SameGeneration, InBitmap, InHistory, SameBitmap, SharedAncestor, NothingShared}
use Rattle.compare.specs.declared.Node.{Node}
use Rattle.compare.specs.declared.Word.{Word}
use Rattle.compare.specs.declared.finding.End.{End}
use Rattle.compare.specs.declared.finding.End.TheVariants.{Here, There}
use Rattle.compare.specs.declared.finding.Amount.TheVariants.{Bits, Full}
use Rattle.compare.specs.declared.finding.Finding.{Finding}
use Rattle.compare.specs.declared.finding.Finding.TheVariants.{NoResync, Resync, Split}
use Rattle.refusal.specs.declared.Refusal.{Refusal}
use Rattle.refusal.specs.declared.Refusal.TheVariants.{NoSource}
use Rattle.refusal.specs.Refusals.{number_of}
use Rattle.compare.specs.Sides.{is_primary, can_take}
use Rattle.compare.specs.Rules.{rule_finds, deciding_rule}
use Rattle.compare.specs.Meeting.{unless_barred, tested, gives_way, settled, answer_to, onward, comparison}
use Rattle.compare.specs.Laws.{Harmless, Sound}

-- one of the four refusals
abbrev Known : Refusal → Type 0
Known r = (23 < number_of r) × (number_of r < 28)

-- a finding whose copy does no harm
abbrev Good : Side → Side → Finding → Type 0
Good m p NoResync = Unit {0}
Good m p (Resync Here a) = Harmless m p
Good m p (Resync There a) = Harmless p m
Good m p (Split a) = Unit {0}

finds_known : (r : Rule) (m p : Side) → MatchResult (rule_finds r m p) (λ f. Unit {0}) Known
finds_known BothBlank m p = (omega arith, omega arith)
finds_known OneBlank m p = tt
finds_known BothInconsistent m p = (omega arith, omega arith)
finds_known OneInconsistent m p = tt
finds_known SameGeneration m p = tt
finds_known InBitmap m p = tt
finds_known InHistory m p = tt
finds_known SameBitmap m p = tt
finds_known SharedAncestor m p = tt
finds_known NothingShared m p = (omega arith, omega arith)

barred_good : (m p s t : Side) (f : Finding) → (Harmless s t → Good m p f) → MatchResult (unless_barred s t f) (Good m p) Known
barred_good m p s t f free = go s.consistent t.role refl refl where
  go : (c : Bool) (r : Role) → s.consistent ≡ c → t.role ≡ r → MatchResult (cond c (Ok (cond (is_primary r) (Split Full) f)) (Err NoSource)) (Good m p) Known
  go true Secondary c r = free (record { source_consistent = c; target_secondary = r })
  go true Primary c r = tt
  go false r c e = (omega arith, omega arith)

tested_good : (m p : Side) (f : Finding) → MatchResult (tested m p f) (Good m p) Known
tested_good m p (Resync Here a) = barred_good m p m p (Resync Here a) (λ h. h)
tested_good m p (Resync There a) = barred_good m p p m (Resync There a) (λ h. h)
tested_good m p NoResync = tt
tested_good m p (Split a) = tt

taker_good : (m p t s : Side) (f g : Finding) → (Harmless s t → Good m p f) → Good m p g → Good m p (cond (can_take t s) f g)
taker_good m p t s f g takes stays = go s.consistent t.role refl refl where
  go : (c : Bool) (r : Role) → s.consistent ≡ c → t.role ≡ r → Good m p (cond (not (is_primary r) && c) f g)
  go true Secondary c r = takes (record { source_consistent = c; target_secondary = r })
  go false Secondary c r = stays
  go c Primary d r = stays

settled_good : (e : Option End) (m p : Side) (f : Finding) → Good m p f → Good m p (settled e m p f)
settled_good (Some Here) m p (Split a) k = taker_good m p m p (Resync There a) (Split a) (λ h. h) tt
settled_good (Some There) m p (Split a) k = taker_good m p p m (Resync Here a) (Split a) (λ h. h) tt
settled_good None m p (Split a) k = tt
settled_good e m p NoResync k = tt
settled_good e m p (Resync s a) k = k

answer_sound : (m p : Side) (f : Finding) → Good m p f → Sound m p (answer_to f)
answer_sound m p NoResync k = tt
answer_sound m p (Resync Here Bits) k = (k, omega arith)
answer_sound m p (Resync Here Full) k = (k, omega arith)
answer_sound m p (Resync There Bits) k = (k, omega arith)
answer_sound m p (Resync There Full) k = (k, omega arith)
answer_sound m p (Split a) k = (omega arith, omega arith)

meeting_sound : (m p : Side) (e : Option End) (found : Result Finding Refusal) → MatchResult found (λ f. Unit {0}) Known → Sound m p (onward (onward (onward found (tested m p)) (λ f. Ok (settled e m p f))) answer_to)
meeting_sound m p e (Err r) k = k
meeting_sound m p e (Ok f) k = go (tested m p f) (tested_good m p f) where
  go : (r : Result Finding Refusal) → MatchResult r (Good m p) Known → Sound m p (onward (onward r (λ f. Ok (settled e m p f))) answer_to)
  go (Err r) k = k
  go (Ok f) k = answer_sound m p (settled e m p f) (settled_good e m p f k)

pub comparison_sound : (m p : Side) (asking : Node) (w : Word) (r : Result ℤ Refusal) → r ≡ comparison m p asking w → Sound m p r
comparison_sound m p asking w r is = subst (Sound m p) (sym is) (meeting_sound m p (gives_way w asking m p) (rule_finds (deciding_rule m p) m p) (finds_known (deciding_rule m p) m p))
