use Rattle.std.proofs.Common.{ℕ, ◌+◌, List, drop, sym, ap, ◌∙◌, arith}
use Rattle.bitmap.specs.declared.Bitmap.{Bitmap}
use Rattle.bitmap.specs.Bits.{bit, with_extent}
use Rattle.card.specs.Activities.{marked}
use Rattle.card.proofs.Activities.{marked_none, marked_empty, marked_extent, marked_bits}
use Rattle.card.proofs.activity.Activity.mark.Goals as goal
use Rattle.card.proofs.activity.Activity.mark.Goals.{in-Some, in_default}

pub loop-number-preserved : goal.loop-number-preserved
loop-number-preserved c =
    let slots = c.args.self.now.slots in
    let next = marked c.args.blocks (drop (c.loop-number.number-index + 1) slots) in
    elim c.match-checked_sub.branch [
      | in-Some w ↦
          let k = w.in-Some.ensures in
          c.loop-number.invariant ∙ marked_extent c.args.blocks slots c.loop-number.map.bytes c.loop-number.number-index (omega arith) (λ e. absurd (omega (arith, k.0, e)))
          ∙ ap (λ (z : ℕ). next (with_extent c.loop-number.map.bytes z c.args.blocks)) (sym k.1)
          ∙ ap next (sym (ap (λ (z : Bitmap). z.bytes) w.map-is ∙ w.mark_extent.ensures))
      | in_default w ↦
          c.loop-number.invariant ∙ marked_empty c.args.blocks slots c.loop-number.map.bytes c.loop-number.number-index (omega arith) (omega (arith, w.in_default.ensures))
          ∙ ap next (sym (ap (λ (z : Bitmap). z.bytes) w.map-is))
    ]

pub returns : goal.returns
returns c =
    let e = sym (c.loop-number.invariant ∙ marked_none c.args.blocks c.args.self.now.slots c.loop-number.map.bytes c.loop-number.number-index (omega arith)) in
    record {
      bytes = e;
      bits = λ j h. ap (λ (z : List ℕ). bit z j) e ∙ marked_bits c.args.blocks c.args.self.now.slots c.args.map.now.bytes j h;
    }
