use Rattle.std.proofs.Common.{◌≡◌}
use Rattle.row.proofs.Writing.{Fitting, partly}
use Rattle.row.proofs.put_row.Given as goal

abbrev pub invariant-loop-i : goal.invariant-loop-i
invariant-loop-i l = Fitting l.initial.bytes l.at l.numbers × (l.bytes ≡ partly l.initial.bytes l.at l.numbers l.i)
