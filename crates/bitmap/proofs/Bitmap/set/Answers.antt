use Rattle.std.proofs.Common.{◌≡◌, ℕ, ◌/◌, length, get_or, set, ap, ◌∙◌, arith}
use Rattle.std.proofs.lemmas.List.{length-set}
use lib.Bits.{bit_or, or_lt}
use Rattle.bitmap.proofs.Packing.{sets, sets_none, octets_set}
use Rattle.bitmap.proofs.Bitmap.set.Goals as goal

pub returns-then-i-lt-BITS : goal.returns-then-i-lt-BITS
returns-then-i-lt-BITS c =
    let self = c.args.self.now in
    let i = c.args.i in
    let l : length self.bytes ≡ 512 = omega arith in
    ap (λ (m : ℕ). set self.bytes (i / 8) (bit_or (get_or self.bytes (i / 8) 0) m)) c.mask.ensures ∙ sets 512 self.bytes i l self.octets (omega arith)

pub returns-else-i-lt-BITS : goal.returns-else-i-lt-BITS
returns-else-i-lt-BITS c =
    let self = c.args.self.now in let l : length self.bytes ≡ 512 = omega arith in sets_none 512 self.bytes c.args.i l self.octets c.if-i-lt-BITS.false

pub invariant_of-self : goal.invariant_of-self
invariant_of-self c =
    let self = c.args.self.now in
    record { whole = length-set self.bytes _ _ ∙ self.whole; octets = octets_set self.bytes (c.args.i / 8) _ self.octets (or_lt 8 _ _ (self.octets (c.args.i / 8)) c.mask.type_inv) }
