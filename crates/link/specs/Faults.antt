-- The refusal that each fault of a link stands for.
use Rattle.refusal.specs.declared.Refusal.{Refusal}
use Rattle.refusal.specs.declared.Refusal.TheVariants.{Measure, Nothing, Way}
use Rattle.link.specs.declared.LinkFault.{LinkFault}
use Rattle.link.specs.declared.LinkFault.TheVariants.{Size, Closed, Full}

abbrev pub refusal_of : LinkFault → Refusal
refusal_of Size = Measure
refusal_of Closed = Nothing
refusal_of Full = Way
