use Rattle.std.proofs.Common.{◌≡◌, drop}
use Rattle.text.specs.Text.{figures, value}
use Rattle.text.proofs.number.Given as goal

abbrev pub invariant-loop-b : goal.invariant-loop-b
invariant-loop-b l =
    record { digits : figures (drop l.b-index l.b-items) ≡ figures l.b-items; counted : value l.value (drop l.b-index l.b-items) ≡ value 0 l.b-items }
