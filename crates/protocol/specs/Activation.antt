-- The activity log: the extents that may hold unfinished writes. A write needs its extent in a slot.
use Rattle.std.specs.Prelude.{ℕ, ◌/◌, min, Bool, true, false, cond, not, ◌&&◌, ◌||◌, List, [], ◌∷◌, ◌++◌, length, take, drop, Some, None, Option, ◌==◌, nat_eq, nat_lt, slice_index}
use Rattle.bitmap.specs.Bits.{next, with}
use Rattle.card.specs.Activities.{extent_in}
use Rattle.protocol.specs.declared.Standing.TheVariants.{Alone}
use Rattle.protocol.specs.declared.WriteRecord.{WriteRecord}
use Rattle.protocol.specs.declared.Placement.{Placement}
use Rattle.protocol.specs.declared.Placement.TheVariants.{Active, Vacant, GivenUp}
use Rattle.protocol.specs.Words.{waits}
use Rattle.protocol.specs.World.{Memory}

abbrev pub extent_of : ℕ → ℕ
extent_of block = block / 64

-- ---- write records

unfoldable pub any_of : (WriteRecord → Bool) → List WriteRecord → Bool
any_of test [] = false
any_of test (r ∷ rs) = test r || any_of test rs

abbrev pub waiting : WriteRecord → Bool
waiting r = waits r.standing

abbrev pub waiting_in : ℕ → WriteRecord → Bool
waiting_in extent r = waits r.standing && extent_of r.block == extent

-- a waiting write is finished on its own card alone
abbrev pub ended : WriteRecord → WriteRecord
ended r = record { number = r.number; block = r.block; standing = cond (waits r.standing) Alone r.standing }

-- the bits of the blocks of all waiting writes are set
unfoldable pub marking : List WriteRecord → List ℕ → List ℕ
marking [] bits = bits
marking (r ∷ rs) bits = marking rs (cond (waits r.standing) (with bits r.block) bits)

-- at most eight records are kept
abbrev pub eight : List WriteRecord → Bool
eight rs = not (nat_lt (length rs) 8)

abbrev pub with_record : WriteRecord → List WriteRecord → List WriteRecord
with_record r rs = cond (nat_lt (length rs) 8) (rs ++ r ∷ []) rs

-- ---- slots, each 0 while it is vacant and else 1 plus its extent; `count` of the sixteen are in use

abbrev pub count_of : Memory → ℕ
count_of m = min m.generation.slots 16

abbrev pub holds : ℕ → Option ℕ → Bool
holds extent None = false
holds extent (Some held) = held == extent

abbrev pub vacant : Option ℕ → Bool
vacant None = true
vacant (Some held) = false

unfoldable pub slot_of : List ℕ → ℕ → Option ℕ
slot_of slots extent = next (λ s. holds extent (extent_in slots s)) 0 16

unfoldable pub vacant_slot : List ℕ → ℕ → Option ℕ
vacant_slot slots count = next (λ s. vacant (extent_in slots s)) 0 count

-- no write waits in the extent
abbrev pub idle : List WriteRecord → Option ℕ → Bool
idle records None = true
idle records (Some extent) = not (any_of (waiting_in extent) records)

-- the first place in the order of use, the least recent first, whose slot is in use and idle
unfoldable pub idle_place : List ℕ → ℕ → List ℕ → List WriteRecord → Option ℕ
idle_place slots count order records = next (λ p. nat_lt (slice_index order p) count && idle records (extent_in slots (slice_index order p))) 0 16

abbrev pub or_else : {A : Type 0} → Option A → Option A → Option A
or_else (Some a) other = Some a
or_else None other = other

abbrev pub placed : (ℕ → Placement) → Option ℕ → Option Placement
placed made (Some slot) = Some (made slot)
placed made None = None

-- where an extent's slot is, or is to be: none where each has a waiting write
abbrev pub placement_of : Memory → ℕ → Option Placement
placement_of m extent =
    or_else (placed Active (slot_of m.slots extent))
    (or_else (placed Vacant (vacant_slot m.slots (count_of m)))
    (placed (λ p. GivenUp (slice_index m.order p)) (idle_place m.slots (count_of m) m.order m.records)))

-- ---- recency

-- the one at a place goes to the end
abbrev pub moved_from : List ℕ → Option ℕ → List ℕ
moved_from order None = order
moved_from order (Some p) = take p order ++ (drop 1 (drop p order) ++ take 1 (drop p order))

-- a slot that is used becomes the most recent
unfoldable pub touched : List ℕ → ℕ → List ℕ
touched order slot = moved_from order (next (λ p. nat_eq (slice_index order p) slot) 0 16)

-- the memory with an extent in a slot that is now the most recent
abbrev pub activated : List ℕ → ℕ → Memory → Memory
activated slots slot m =
    record {
      state = m.state;
      role = m.role;
      generation = m.generation;
      bits = m.bits;
      slots = slots;
      order = touched m.order slot;
      records = m.records;
      number = m.number;
      copied = m.copied;
      full = m.full;
    }
