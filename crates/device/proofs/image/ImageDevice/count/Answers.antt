use Rattle.std.proofs.Common.{◌≡◌, ◌/◌, min, length, sym, ◌∙◌, arith}
use Rattle.device.proofs.Overlays.{imaged_count}
use Rattle.device.proofs.image.ImageDevice.count.Goals as goal

pub returns : goal.returns
returns c =
    let s = c.args.self.now in
    let m : c.min.result ≡ min (length s.factory.now / 512) (length s.area.now / 513) = omega arith in
    record { meant = m ∙ sym (imaged_count s.factory.now s.area.now 0); whole = m }
