use Rattle.std.proofs.Common.{◌≡◌, get_or, refl, arith, rules}
use Rattle.message.specs.Frames.{shape_of, decode_answer}
use Rattle.message.proofs.Decoding.{by_shape}
use Rattle.message.proofs.decoder.decode.Goals as goal

pub returns-in-A : goal.returns-in-A
unfolding shape_of
returns-in-A c = let a = c.alone.ensures 65 refl in grind (arith, by_shape)

pub returns-in-F : goal.returns-in-F
unfolding shape_of
returns-in-F c = let a = c.alone-in-F.ensures 70 refl in grind (arith, by_shape)

pub returns-in-W : goal.returns-in-W
unfolding shape_of
returns-in-W c = let a = c.alone-in-W.ensures 87 refl in grind (arith, by_shape)

pub returns-in_default : goal.returns-in_default
unfolding shape_of decode_answer
returns-in_default c = let l : get_or c.args.frame.now 0 0 ≡ c.in_ok-letter.field-0.now = grind arith in rw l (search rules)
