-- The answer when two nodes meet: what the deciding rule finds, two tests of it, and the word on a split brain.
use Rattle.std.specs.Prelude.{ℕ, cond, ℤ, pos, negsuc, Some, None, Ok, Err, Option, Result, ◌==◌, nat_lt}
use Rattle.refusal.specs.declared.Refusal.{Refusal}
use Rattle.refusal.specs.declared.Refusal.TheVariants.{NoSource, Split as SplitBrain, Word as NoWord}
use Rattle.compare.specs.declared.side.Side.{Side}
use Rattle.compare.specs.declared.Node.{Node}
use Rattle.compare.specs.declared.Node.TheVariants.{Zero, One}
use Rattle.compare.specs.declared.Word.{Word}
use Rattle.compare.specs.declared.Word.TheVariants.{NoOne, NodeZero, NodeOne, FewerBits}
use Rattle.compare.specs.declared.finding.End.{End}
use Rattle.compare.specs.declared.finding.End.TheVariants.{Here, There}
use Rattle.compare.specs.declared.finding.Amount.TheVariants.{Bits, Full}
use Rattle.compare.specs.declared.finding.Finding.{Finding}
use Rattle.compare.specs.declared.finding.Finding.TheVariants.{NoResync, Resync, Split}
use Rattle.compare.specs.Sides.{is_primary, can_take}
use Rattle.compare.specs.Rules.{rule_finds, deciding_rule}

abbrev pub opposite : End → End
opposite Here = There
opposite There = Here

abbrev pub side_at : End → Side → Side → Side
side_at Here m p = m
side_at There m p = p

-- an inconsistent node gives nothing, and a Primary's blocks are not written over
abbrev pub unless_barred : Side → Side → Finding → Result Finding Refusal
unless_barred source target f = cond source.consistent (Ok (cond (is_primary target.role) (Split Full) f)) (Err NoSource)

abbrev pub tested : Side → Side → Finding → Result Finding Refusal
tested m p (Resync s a) = unless_barred (side_at s m p) (side_at (opposite s) m p) (Resync s a)
tested m p NoResync = Ok NoResync
tested m p (Split a) = Ok (Split a)

-- at which end a node is, seen from the asking node
abbrev pub end_of : Node → Node → End
end_of Zero Zero = Here
end_of One One = Here
end_of Zero One = There
end_of One Zero = There

-- the numbers by which a word is said; above 3 there is none
abbrev pub word_numbered : ℕ → Result Word Refusal
word_numbered n = cond (n == 0) (Ok NoOne) (cond (n == 1) (Ok NodeZero) (cond (n == 2) (Ok NodeOne) (cond (n == 3) (Ok FewerBits) (Err NoWord))))

-- who gives way in a split brain: as the word says, node 1 where as many bits are set
abbrev pub gives_way : Word → Node → Side → Side → Option End
gives_way NoOne asking m p = None
gives_way NodeZero asking m p = Some (end_of asking Zero)
gives_way NodeOne asking m p = Some (end_of asking One)
gives_way FewerBits asking m p = Some (cond (nat_lt m.bits p.bits) Here (cond (nat_lt p.bits m.bits) There (end_of asking One)))

-- the end that gives way is the target, if it can be one
abbrev pub settled : Option End → Side → Side → Finding → Finding
settled (Some t) m p (Split a) = cond (can_take (side_at t m p) (side_at (opposite t) m p)) (Resync (opposite t) a) (Split a)
settled None m p (Split a) = Split a
settled e m p NoResync = NoResync
settled e m p (Resync s a) = Resync s a

-- plus at the source, minus at the target: 1 by bits, 2 in full
abbrev pub answer_to : Finding → Result ℤ Refusal
answer_to NoResync = Ok (pos 0)
answer_to (Resync Here Bits) = Ok (pos 1)
answer_to (Resync Here Full) = Ok (pos 2)
answer_to (Resync There Bits) = Ok (negsuc 0)
answer_to (Resync There Full) = Ok (negsuc 1)
answer_to (Split a) = Err SplitBrain

-- what follows a finding, unless it was refused
abbrev pub onward : {A : Type 0} → Result Finding Refusal → (Finding → Result A Refusal) → Result A Refusal
onward (Ok f) next = next f
onward (Err r) next = Err r

abbrev pub meeting : Side → Side → Node → Word → Result Finding Refusal
meeting m p asking word =
    onward (onward (rule_finds (deciding_rule m p) m p) (tested m p)) (λ f. Ok (settled (gives_way word asking m p) m p f))

abbrev pub comparison : Side → Side → Node → Word → Result ℤ Refusal
comparison m p asking word = onward (meeting m p asking word) answer_to
