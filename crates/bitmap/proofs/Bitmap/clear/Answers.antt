use Rattle.std.proofs.Common.{◌≡◌, ℕ, ◌-◌, ◌/◌, length, get_or, set, ap, ◌∙◌, arith}
use lib.Bits.{bit_and}
use Rattle.bitmap.proofs.Packing.{clears, clears_none}
use Rattle.bitmap.proofs.Bitmap.clear.Goals as goal

pub returns-then-i-lt-BITS : goal.returns-then-i-lt-BITS
returns-then-i-lt-BITS c =
    let self = c.args.self.now in
    let i = c.args.i in
    let l : length self.bytes ≡ 512 = omega arith in
    ap (λ (m : ℕ). set self.bytes (i / 8) (bit_and (get_or self.bytes (i / 8) 0) (255 - m))) c.mask.ensures ∙ clears 512 self.bytes i l self.octets (omega arith)

pub returns-else-i-lt-BITS : goal.returns-else-i-lt-BITS
returns-else-i-lt-BITS c =
    let self = c.args.self.now in let l : length self.bytes ≡ 512 = omega arith in clears_none 512 self.bytes c.args.i l self.octets c.if-i-lt-BITS.false
