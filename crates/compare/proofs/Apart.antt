-- Two nodes that both went on from one generation are a split brain.
use Rattle.std.proofs.Common.{◌≡◌, true, false, None, Ok, Err, refl, ap, arith, ne_eqb}
use Rattle.std.proofs.lemmas.Bool.Decides.{nat_tests}
use Rattle.refusal.specs.declared.Refusal.TheVariants.{Split}
use Rattle.compare.specs.declared.side.Side.{Side}
use Rattle.compare.specs.declared.rule.Rule.TheVariants.{SameBitmap}
use Rattle.compare.specs.declared.Node.{Node}
use Rattle.compare.specs.declared.Word.TheVariants.{NoOne}
use Rattle.compare.specs.Sides.{blank, same_current, tracks, remembers, same_bitmap}
use Rattle.compare.specs.Rules.{rule_finds, deciding_rule}
use Rattle.compare.specs.Meeting.{tested, settled, answer_to, onward, comparison}
use Rattle.compare.specs.Laws.{BothWentOn}

decided_by_bitmap : (m p : Side) → BothWentOn m p → deciding_rule m p ≡ SameBitmap
decided_by_bitmap m p h =
    let mine-begun : blank m ≡ false = ne_eqb _ _ h.mine_unseen.begun in
    let peer-begun : blank p ≡ false = ne_eqb _ _ h.peer_unseen.begun in
    let current : same_current m p ≡ false = ne_eqb _ _ h.mine_unseen.not_current in
    let mine-tracks : tracks m p ≡ false = ne_eqb _ _ h.peer_unseen.not_bitmap in
    let peer-tracks : tracks p m ≡ false = ne_eqb _ _ h.mine_unseen.not_bitmap in
    let mine-remembers : remembers m p ≡ false = grind (arith, nat_tests, h.peer_unseen.not_recent, h.peer_unseen.not_older) in
    let peer-remembers : remembers p m ≡ false = grind (arith, nat_tests, h.mine_unseen.not_recent, h.mine_unseen.not_older) in
    let bitmap : same_bitmap m p ≡ true = grind (arith, nat_tests, h.one_generation, h.not_none) in
    rw (mine-begun, peer-begun, current, mine-tracks, peer-tracks, mine-remembers, peer-remembers, bitmap) refl

pub went_on_apart : (m p : Side) (asking : Node) → BothWentOn m p → comparison m p asking NoOne ≡ Err Split
went_on_apart m p asking h = ap (λ r. onward (onward (onward (rule_finds r m p) (tested m p)) (λ f. Ok (settled None m p f))) answer_to) (decided_by_bitmap m p h)
