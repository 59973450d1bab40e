use Rattle.std.proofs.Common.{◌-◌, ◌^◌, ltb, rules, arith}
use Rattle.bitmap.proofs.Rows.{share, remade, makes_first}
use Rattle.bitmap.proofs.Bitmap.mark_all.Goals as goal

pub returns : goal.returns
returns c = (remade _ 512 _ c.from_fn-self.result (λ k. 2 ^ share c.args.blocks k - 1) (λ j. ltb j c.args.blocks) c.from_fn-self.ensures.items (λ k y q e. search rules) (makes_first c.args.blocks)).0

pub invariant_of-self : goal.invariant_of-self
invariant_of-self c = record { whole = omega arith; octets = (remade _ 512 _ c.from_fn-self.result (λ k. 2 ^ share c.args.blocks k - 1) (λ j. ltb j c.args.blocks) c.from_fn-self.ensures.items (λ k y q e. search rules) (makes_first c.args.blocks)).1 }
