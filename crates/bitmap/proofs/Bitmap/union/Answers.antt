use Rattle.std.proofs.Common.{◌||◌, get_or, rules, arith}
use lib.Bits.{bit_or}
use Rattle.bitmap.specs.Bits.{bit}
use Rattle.bitmap.proofs.Rows.{remade, makes_union}
use Rattle.bitmap.proofs.Bitmap.union.Goals as goal

pub returns : goal.returns
returns c = (remade _ 512 _ c.from_fn-self.result (λ k. bit_or (get_or c.args.self.now.bytes k 0) (get_or c.args.other.now.bytes k 0)) (λ j. bit c.args.self.now.bytes j || bit c.args.other.now.bytes j) c.from_fn-self.ensures.items (λ k y q e. search rules) (makes_union c.args.self.now.bytes c.args.other.now.bytes c.args.self.now.octets c.args.other.now.octets)).0

pub invariant_of-self : goal.invariant_of-self
invariant_of-self c = record { whole = omega arith; octets = (remade _ 512 _ c.from_fn-self.result (λ k. bit_or (get_or c.args.self.now.bytes k 0) (get_or c.args.other.now.bytes k 0)) (λ j. bit c.args.self.now.bytes j || bit c.args.other.now.bytes j) c.from_fn-self.ensures.items (λ k y q e. search rules) (makes_union c.args.self.now.bytes c.args.other.now.bytes c.args.self.now.octets c.args.other.now.octets)).1 }
