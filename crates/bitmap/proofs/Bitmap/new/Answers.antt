use Rattle.std.proofs.Common.{arith}
use Rattle.bitmap.proofs.Packing.{packed_none, zeros_octets}
use Rattle.bitmap.proofs.Bitmap.new.Goals as goal

pub returns : goal.returns
returns c = packed_none 512

pub invariant_of-result : goal.invariant_of-result
invariant_of-result c = record { whole = omega arith; octets = zeros_octets 512 }
