-- Reading one block of a disk.
use Rattle.std.proofs.Common.{◌≡◌, ℕ, List, [], length, get_or, Ok, Result, sym, ap, ◌∙◌}
use Rattle.device.specs.Disk as device
use Rattle.device.specs.Disk.{Disk, read_into}
use Rattle.device.specs.Faults as device-faults
use Rattle.card.specs.Reading.{unless, block_answer}

onward : {A B E F : Type 0} (told : E → F) (r : Result A E) (next : A → Result B F) (a : A) → Ok a ≡ r → unless told r next ≡ next a
onward told r next a h = ap (λ z. unless told z next) (sym h)

pub block_read : (d : Disk) (i : ℕ) (old b : List ℕ) (u : Unit {0}) → length old ≡ 512 → Ok u ≡ device.read_answer d i (length old) → b ≡ read_into d i old
    → block_answer d i ≡ Ok b
unfolding block_answer read_into
block_read d i old b u l h e =
    let t : device.read_answer d i (length old) ≡ Ok u = sym h in
    let k : b ≡ get_or d.blocks i [] = e ∙ (rw t) in
    onward device-faults.refusal_of (device.read_answer d i 512) _ u (h ∙ ap (device.read_answer d i) l) ∙ ap Ok (sym k)
