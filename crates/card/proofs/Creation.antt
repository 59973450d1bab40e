-- Making a card: how far the writes have come.
use Rattle.std.proofs.Common.{◌≡◌, ℕ, ◌+◌, List, [], ◌∷◌, length, Ok, Err, Result, sym, ap, ◌∙◌}
use Rattle.refusal.specs.declared.Refusal.{Refusal}
use Rattle.device.specs.declared.DeviceFault.{DeviceFault}
use Rattle.device.specs.Disk.{Disk, write_answer, written}
use Rattle.device.specs.Faults.{refusal_of}
use Rattle.card.specs.Creation.{data_blocks, slots_in_use, writes_answer, writes_after, blocks_of, create_answer, created}

-- what the code answers, and the disk that it leaves
abbrev pub Creates : Disk → ℕ → Result (Unit {0}) Refusal → Disk → Type 0
Creates d slots r d' = (r ≡ create_answer d slots) × (d' ≡ created d slots)

-- at the disk `at` the blocks from i on are left to write
pub record Stage (d : Disk) (slots : ℕ) (at : Disk) (i : ℕ) (rest : List (List ℕ)) : Type 0 where
  pub answer : create_answer d slots ≡ writes_answer at i rest
  pub after : created d slots ≡ writes_after at i rest

pub begun : (d : Disk) (slots count used blocks : ℕ) → count ≡ length d.blocks → Ok blocks ≡ data_blocks count → Ok used ≡ slots_in_use slots
    → Stage d slots d 0 (blocks_of used blocks)
unfolding create_answer created
begun d slots count used blocks c b u =
    let t : data_blocks (length d.blocks) ≡ Ok blocks = ap data_blocks (sym c) ∙ sym b in
    let s : slots_in_use slots ≡ Ok used = sym u in
    record { answer = rw (s, t); after = rw (s, t) }

pub wrote : (d : Disk) (slots : ℕ) (at : Disk) (i : ℕ) (b b' : List ℕ) (rest : List (List ℕ)) (next : Disk) (u : Unit {0}) → b' ≡ b → Stage d slots at i (b ∷ rest)
    → Ok u ≡ write_answer at i b' → next ≡ written at i b' → Stage d slots next (i + 1) rest
unfolding writes_answer writes_after
wrote d slots at i b b' rest next u e s a n =
    let t : write_answer at i b ≡ Ok u = ap (write_answer at i) (sym e) ∙ sym a in
    let m : written at i b ≡ next = ap (written at i) (sym e) ∙ sym n in
    record { answer = s.answer ∙ (rw (t, m)); after = s.after ∙ (rw (t, m)) }

pub died : (d : Disk) (slots : ℕ) (at : Disk) (i : ℕ) (b b' : List ℕ) (rest : List (List ℕ)) (next : Disk) (f : DeviceFault) (r : Result (Unit {0}) Refusal) → b' ≡ b
    → Stage d slots at i (b ∷ rest) → Err f ≡ write_answer at i b' → next ≡ written at i b' → r ≡ Err (refusal_of f) → Creates d slots r next
unfolding writes_answer writes_after written
died d slots at i b b' rest next f r e s a n k =
    let t : write_answer at i b ≡ Err f = ap (write_answer at i) (sym e) ∙ sym a in
    let t' : write_answer at i b' ≡ Err f = sym a in
    let m : next ≡ at = n ∙ (rw t') in
    (k ∙ sym (s.answer ∙ (rw t)), m ∙ sym (s.after ∙ (rw t)))

pub finished : (d : Disk) (slots : ℕ) (at : Disk) (i : ℕ) → Stage d slots at i [] → Creates d slots (Ok tt) at
unfolding writes_answer writes_after
finished d slots at i s = (sym s.answer, sym s.after)
