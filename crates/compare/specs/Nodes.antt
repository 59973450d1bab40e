-- The two nodes by their numbers, as the calls are given them.
use Rattle.std.specs.Prelude.{ℕ, cond, Ok, Err, Result, ◌==◌}
use Rattle.refusal.specs.declared.Refusal.{Refusal}
use Rattle.refusal.specs.declared.Refusal.TheVariants.{Node as NoNode}
use Rattle.compare.specs.declared.Node.{Node}
use Rattle.compare.specs.declared.Node.TheVariants.{Zero, One}

abbrev pub number_of : Node → ℕ
number_of Zero = 0
number_of One = 1

-- above 1 there is none
abbrev pub node_numbered : ℕ → Result Node Refusal
node_numbered number = cond (number == 0) (Ok Zero) (cond (number == 1) (Ok One) (Err NoNode))
