-- What a node with its device means, and what a rule does to it, or to it, its peer and the link.
use Rattle.std.specs.Prelude.{◌≡◌, ℕ, List, Result}
use Rattle.refusal.specs.declared.Refusal.{Refusal}
use Rattle.device.specs.Disk as device
use Rattle.link.specs.Channel as link
use Rattle.compare.specs.declared.Node.{Node}
use Rattle.memory.specs.Meaning.{meaning}
use Rattle.protocol.specs.World.{Site, World}
use Rattle.protocol.specs.Rules.{Outcome, Alone, store_answer, stored}
use Rattle.station.specs.declared.Station.{Station}
use Rattle.station.specs.declared.Seat.{Seat}

abbrev pub site : {D : Type 0} → (D → device.Meaning) → Station D → Site
site means s = record { memory = meaning s.memory; disk = (means s.device).disk }

-- of a call that concerns one node alone: what its rule answers, and what it leaves of the node and its device
abbrev pub Alters : {D A : Type 0} → (D → device.Meaning) → (Site → Alone A) → Station D → Result A Refusal → Station D → Type 0
Alters means rule s r s' = ((rule (site means s)).0 ≡ r) × ((rule (site means s)).1 ≡ site means s')

-- what the acting node sees
abbrev pub seat :
    {D E L : Type 0} → (D → device.Meaning) → (E → device.Meaning) → (L → link.SoundChannel) → Station D → Station E → L → World
seat mine peers cable me peer l = record { me = site mine me; peer = site peers peer; link = (cable l).channel }

-- the seat of the same node, over the same two stations and the same link
abbrev pub Same : {D E L : Type 0} → Seat D E L → Seat D E L → Type 0
Same s s' =
    (s'.node ≡ s.node) × (s'.me.ghost_name ≡ s.me.ghost_name) × (s'.peer.ghost_name ≡ s.peer.ghost_name) × (s'.link.ghost_name ≡ s.link.ghost_name)

-- a block write as a rule
abbrev pub store : ℕ → List ℕ → Node → World → Outcome (Unit {0})
store i bytes node w = (store_answer i bytes w, stored node i bytes w)

module _ {D E L : Type 0} (mine : D → device.Meaning) (peers : E → device.Meaning) (cable : L → link.SoundChannel) where
  abbrev pub seen : Seat D E L → World
  seen s = seat mine peers cable s.me.now s.peer.now s.link.now

  -- what a change leaves of both nodes, both devices and the link
  abbrev pub Leaves : (Node → World → World) → Seat D E L → Seat D E L → Type 0
  Leaves change s s' = Same s s' × (change s.node (seen s) ≡ seen s')

  -- what a rule answers, and what it leaves
  abbrev pub Acts : {A : Type 0} → (Node → World → Outcome A) → Seat D E L → Result A Refusal → Seat D E L → Type 0
  Acts rule s r s' = ((rule s.node (seen s)).0 ≡ r) × Leaves (λ node w. (rule node w).1) s s'
