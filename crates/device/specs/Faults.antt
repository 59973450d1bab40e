-- The refusal that a device's fault is told as: a block past the end, a write that power did not carry, a buffer that is not one block long.
use Rattle.refusal.specs.declared.Refusal.{Refusal}
use Rattle.refusal.specs.declared.Refusal.TheVariants.{Block, Died, Measure}
use Rattle.device.specs.declared.DeviceFault.{DeviceFault}
use Rattle.device.specs.declared.DeviceFault.TheVariants as fault

abbrev pub refusal_of : DeviceFault → Refusal
refusal_of fault.Range = Block
refusal_of fault.Died = Died
refusal_of fault.Measure = Measure
