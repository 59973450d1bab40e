-- The rules by which two nodes that meet find out who copies to whom: the first that fits decides.
use Rattle.std.specs.Prelude.{ℕ, Bool, true, false, not, ◌&&◌, ◌||◌, List, [], ◌∷◌, codes, find, unwrap_or, Ok, Err, Result}
use Rattle.compare.specs.declared.side.Side.{Side}
use Rattle.compare.specs.declared.rule.Rule.{Rule}
use Rattle.compare.specs.declared.rule.Rule.TheVariants.{BothBlank, OneBlank, BothInconsistent, OneInconsistent, SameGeneration, InBitmap, InHistory, SameBitmap, SharedAncestor, NothingShared}
use Rattle.compare.specs.declared.finding.End.TheVariants.{Here, There}
use Rattle.compare.specs.declared.finding.Amount.{Amount}
use Rattle.compare.specs.declared.finding.Amount.TheVariants.{Bits, Full}
use Rattle.compare.specs.declared.finding.Finding.{Finding}
use Rattle.compare.specs.declared.finding.Finding.TheVariants.{NoResync, Resync, Split}
use Rattle.refusal.specs.declared.Refusal.{Refusal}
use Rattle.refusal.specs.declared.Refusal.TheVariants.{Unrelated, Blank, NoSource}
use Rattle.compare.specs.Sides.{blank, same_current, tracks, remembers, same_bitmap, shares_ancestor}

-- when a rule fits: m is the asking node's side, p its peer's
abbrev pub rule_fits : Rule → Side → Side → Bool
rule_fits BothBlank m p = blank m && blank p
rule_fits OneBlank m p = blank m || blank p
rule_fits BothInconsistent m p = same_current m p && (not m.consistent && not p.consistent)
rule_fits OneInconsistent m p = same_current m p && (not m.consistent || not p.consistent)
rule_fits SameGeneration m p = same_current m p
rule_fits InBitmap m p = tracks m p || tracks p m
rule_fits InHistory m p = remembers m p || remembers p m
rule_fits SameBitmap m p = same_bitmap m p
rule_fits SharedAncestor m p = shares_ancestor m p
rule_fits NothingShared m p = true

-- the source is where the test holds; both ends are a split brain, neither needs no copy
abbrev pub source_where : Bool → Bool → Amount → Finding
source_where true true a = Split Full
source_where true false a = Resync Here a
source_where false true a = Resync There a
source_where false false a = NoResync

-- what a rule finds where it decides
abbrev pub rule_finds : Rule → Side → Side → Result Finding Refusal
rule_finds BothBlank m p = Err Blank
rule_finds OneBlank m p = Ok (source_where (blank p) (blank m) Full)
rule_finds BothInconsistent m p = Err NoSource
rule_finds OneInconsistent m p = Ok (source_where m.consistent p.consistent Bits)
rule_finds SameGeneration m p = Ok (source_where m.primary p.primary Bits)
rule_finds InBitmap m p = Ok (source_where (tracks m p) (tracks p m) Bits)
rule_finds InHistory m p = Ok (source_where (remembers m p) (remembers p m) Full)
rule_finds SameBitmap m p = Ok (Split Bits)
rule_finds SharedAncestor m p = Ok (Split Full)
rule_finds NothingShared m p = Err Unrelated

abbrev pub in_order : List Rule
in_order = BothBlank ∷ (OneBlank ∷ (BothInconsistent ∷ (OneInconsistent ∷ (SameGeneration ∷ (InBitmap ∷ (InHistory ∷ (SameBitmap ∷ (SharedAncestor ∷ []))))))))

abbrev pub deciding_rule : Side → Side → Rule
deciding_rule m p = unwrap_or (find (λ r. rule_fits r m p) in_order) NothingShared

-- a rule's name, for a person
abbrev pub name_of : Rule → List ℕ
name_of BothBlank = codes "both nodes are blank"
name_of OneBlank = codes "one node is blank"
name_of BothInconsistent = codes "same generation, both nodes inconsistent"
name_of OneInconsistent = codes "same generation, one node inconsistent"
name_of SameGeneration = codes "same generation"
name_of InBitmap = codes "one node's bitmap starts at the other's generation"
name_of InHistory = codes "one node's history holds the other's generation"
name_of SameBitmap = codes "both nodes went on from the same generation"
name_of SharedAncestor = codes "a common ancestor"
name_of NothingShared = codes "nothing in common"
