-- The cases of a read and of a write, over any disk.
use Rattle.std.proofs.Common.{◌≡◌, ℕ, ◌<◌, false, eqb, List, [], length, get_or, set, Ok, Err, Result, sym, ap, ◌∙◌, lt-ltb, eq-eqb}
use Rattle.device.specs.declared.DeviceFault.{DeviceFault}
use Rattle.device.specs.Disk.{Disk, spent, readable, writable, read_answer, read_into, write_answer, written}

-- a refusal f that a test of n blocks gave as e, and that is handed on as r
pub read_refused : (d : Disk) (i : ℕ) (old : List ℕ) (n : ℕ) (e f : DeviceFault) (r : Result (Unit {0}) DeviceFault) → n ≡ length d.blocks
    → Err e ≡ readable n i (length old) → f ≡ e → r ≡ Err f → (r ≡ read_answer d i (length old)) × (old ≡ read_into d i old)
unfolding read_answer read_into
read_refused d i old n e f r m h g k =
    let t : Err e ≡ readable (length d.blocks) i (length old) = rw (sym m) h in
    (k ∙ ap Err g ∙ t, rw (sym t))

pub read_done : (d : Disk) (i : ℕ) (old : List ℕ) → i < length d.blocks → length old ≡ 512
    → (Ok tt ≡ read_answer d i (length old)) × (get_or d.blocks i [] ≡ read_into d i old)
unfolding read_answer read_into
read_done d i old h n = let e = lt-ltb i (length d.blocks) h in let m = eq-eqb (length old) 512 n in (simp (e, m), simp (e, m))

pub write_refused : (d : Disk) (i : ℕ) (b : List ℕ) (n : ℕ) (e f : DeviceFault) (r : Result (Unit {0}) DeviceFault) → n ≡ length d.blocks
    → Err e ≡ writable n d.supply i (length b) → f ≡ e → r ≡ Err f → (r ≡ write_answer d i b) × (d ≡ written d i b)
unfolding write_answer written
write_refused d i b n e f r m h g k =
    let t : Err e ≡ writable (length d.blocks) d.supply i (length b) = rw (sym m) h in
    (k ∙ ap Err g ∙ t, rw (sym t))

pub write_done : (d : Disk) (i : ℕ) (b : List ℕ) → i < length d.blocks → eqb d.supply 0 ≡ false → length b ≡ 512
    → (Ok tt ≡ write_answer d i b) × (record { blocks = set d.blocks i b; supply = spent d.supply } ≡ written d i b)
unfolding write_answer written
write_done d i b h p n = let e = lt-ltb i (length d.blocks) h in let m = eq-eqb (length b) 512 n in (simp (e, p, m), simp (e, p, m))
