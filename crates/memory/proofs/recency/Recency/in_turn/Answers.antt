use Rattle.std.proofs.Common.{◌∙◌, rules}
use Rattle.std.proofs.lemmas.List.{map-id}
use Rattle.std.proofs.lemmas.List.FromFn.{fill_by_all}
use Rattle.protocol.specs.World.{in_turn}
use Rattle.memory.proofs.recency.Recency.in_turn.Goals as goal

pub returns : goal.returns
unfolding in_turn
returns c =
    let made = c.from_fn.ensures.items in
    fill_by_all (λ slot. slot) c.from_fn.result 16 0 made.long (λ k h. let at = made.at k 0 h in search rules) ∙ map-id _
