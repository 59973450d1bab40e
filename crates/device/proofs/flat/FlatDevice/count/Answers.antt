use Rattle.std.proofs.Common.{sym, refl}
use Rattle.device.proofs.Areas.{length-parts}
use Rattle.device.proofs.flat.FlatDevice.count.Goals as goal

pub returns : goal.returns
returns c = record { meant = sym (length-parts 512 _ _); whole = refl }
