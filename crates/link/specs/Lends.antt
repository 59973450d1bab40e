-- The lane of a way, lent.
use Rattle.std.specs.Prelude.{ℕ}
use Rattle.std.specs.Borrow.{Lends, RattleType, MutBor, Fml}
use Rattle.link.specs.declared.Way.{Way}
use Rattle.link.specs.declared.Way.TheVariants.{ZeroToOne, OneToZero}
use Rattle.link.specs.declared.lanes.Lane.{Lane}
use Rattle.link.specs.declared.lanes.Lanes.{Lanes}
use Rattle.link.specs.contracts.lanes.Lanes.{the_row}
use Rattle.link.specs.contracts.lanes.Lane.{the_row as lane_row}

module _ {n : ℕ} where
  abbrev pub lane_of : Lanes n → Way → Lane n
  lane_of l ZeroToOne = l.ahead
  lane_of l OneToZero = l.back

  abbrev pub with_lane : Lanes n → Way → Lane n → Lanes n
  with_lane l ZeroToOne w = record { ahead = w; back = l.back }
  with_lane l OneToZero w = record { ahead = l.ahead; back = w }

abbrev pub lends_lane : (N : RattleType) → MutBor (the_row N).Denot → Way → MutBor (lane_row N).Denot → Fml
lends_lane N s way r = Lends (the_row N) (lane_row N) s r (with_lane s.now way)
