-- What holds of every comparison, whichever rule decides.
use Rattle.std.specs.Prelude.{◌≡◌, zero, suc, ◌<◌, true, ◌≢◌, ℤ, pos, negsuc, neg_ℤ, Ok, Err, Result}
use Rattle.refusal.specs.declared.Refusal.{Refusal}
use Rattle.refusal.specs.Refusals.{number_of}
use Rattle.compare.specs.declared.side.Side.{Side}
use Rattle.compare.specs.declared.side.Role.TheVariants.{Secondary}
use Rattle.compare.specs.declared.Node.{Node}
use Rattle.compare.specs.declared.Node.TheVariants.{Zero, One}

abbrev pub other : Node → Node
other Zero = One
other One = Zero

-- an answer as the other end has it: the negation, or the same refusal
abbrev pub from_there : Result ℤ Refusal → Result ℤ Refusal
from_there (Ok n) = Ok (neg_ℤ n)
from_there (Err r) = Err r

-- a copy that harms nothing: good blocks come, and no user is at work on those written over
pub record Harmless (source target : Side) : Type 0 where
  pub source_consistent : source.consistent ≡ true
  pub target_secondary : target.role ≡ Secondary

-- an answer is -2 to 2 or one of the refusals 24 to 27, and a copy is harmless
abbrev pub Sound : Side → Side → Result ℤ Refusal → Type 0
Sound m p (Ok (pos zero)) = Unit {0}
Sound m p (Ok (pos (suc n))) = Harmless m p × (n < 2)
Sound m p (Ok (negsuc n)) = Harmless p m × (n < 2)
Sound m p (Err r) = (23 < number_of r) × (number_of r < 28)

-- node a has a generation of its own, which b has never seen
pub record Unseen (a b : Side) : Type 0 where
  pub begun : a.current ≢ 0
  pub not_current : a.current ≢ b.current
  pub not_bitmap : a.current ≢ b.bitmap
  pub not_recent : a.current ≢ b.recent
  pub not_older : a.current ≢ b.older

-- both nodes went on from one generation, each without the other
pub record BothWentOn (m p : Side) : Type 0 where
  pub one_generation : m.bitmap ≡ p.bitmap
  pub not_none : m.bitmap ≢ 0
  pub mine_unseen : Unseen m p
  pub peer_unseen : Unseen p m
