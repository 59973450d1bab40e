-- The generation record, a card's block 0.
use Rattle.std.specs.Prelude.{◌≡◌, ℕ, ◌+◌, ◌*◌, Bool, true, false, cond, ◌&&◌, List, [], ◌∷◌, Some, None, Ok, Err, Option, Result, ◌==◌, nat_lt, slice_index}
use Rattle.field.specs.declared.FieldFault.{FieldFault}
use Rattle.row.specs.declared.Limit.{Limit}
use Rattle.row.specs.Rows.{within}
use Rattle.row.specs.Records.{row_of, record_answer}
use Rattle.card.specs.declared.generation.Generation.{Generation}
use Rattle.card.specs.declared.fault.RecordFault.{RecordFault}
use Rattle.card.specs.Faults.{in_generation}

abbrev pub fresh_of : ℕ → ℕ → Generation
fresh_of slots blocks =
    record {
      current = 0;
      bitmap = 0;
      history_1 = 0;
      history_2 = 0;
      serial = 0;
      consistent = false;
      primary = false;
      slots = slots;
      blocks = blocks;
    }

-- ---- writing

-- the nine fields in their order
abbrev pub numbers_of : Generation → List ℕ
numbers_of g =
    g.current ∷ g.bitmap ∷ g.history_1 ∷ g.history_2 ∷ g.serial ∷ cond g.consistent 1 0 ∷ cond g.primary 1 0 ∷ g.slots ∷ g.blocks ∷ []

abbrev pub bytes_of : Generation → List ℕ
bytes_of g = row_of 512 (numbers_of g)

-- ---- reading

abbrev pub between : ℕ → ℕ → Limit
between least most = record { least = least; most = most }

-- the least and the most that each field may hold, on a card of so many data blocks
abbrev pub limits_at : ℕ → List Limit
limits_at blocks =
    between 0 1999999999 ∷ between 0 1999999999 ∷ between 0 1999999999 ∷ between 0 1999999999 ∷ between 0 999999999 ∷ between 0 1 ∷ between 0 1 ∷ between 4 16
    ∷ between blocks blocks ∷ []

abbrev pub generation_of : List ℕ → Generation
generation_of ns =
    record {
      current = slice_index ns 0;
      bitmap = slice_index ns 1;
      history_1 = slice_index ns 2;
      history_2 = slice_index ns 3;
      serial = slice_index ns 4;
      consistent = (slice_index ns 5 == 1);
      primary = (slice_index ns 6 == 1);
      slots = slice_index ns 7;
      blocks = slice_index ns 8;
    }

abbrev pub told : Result (List ℕ) FieldFault → Result Generation (RecordFault 0)
told (Ok numbers) = Ok (generation_of numbers)
told (Err fault) = Err (in_generation fault)

abbrev pub read_answer : List ℕ → ℕ → Result Generation (RecordFault 0)
read_answer block blocks = told (record_answer block (limits_at blocks) false)

-- ---- the law of both: every record written reads back as itself, and no other bytes read as it

abbrev pub in_range : ℕ → Generation → Bool
in_range blocks g = within false [] (limits_at blocks) (numbers_of g)

pub record RoundTrip (block : List ℕ) (blocks : ℕ) (answer : Result Generation (RecordFault 0)) : Type 0 where
  pub sound : (g : Generation) → answer ≡ Ok g → (in_range blocks g ≡ true) × (block ≡ bytes_of g)
  pub complete : (g : Generation) → in_range blocks g ≡ true → block ≡ bytes_of g → answer ≡ Ok g

-- ---- a new identifier, while there are serial numbers left

abbrev pub can_name : Generation → ℕ → Bool
can_name g node = nat_lt node 2 && nat_lt g.serial 999999999

abbrev pub next_identifier : Generation → ℕ → Option ℕ
next_identifier g node = cond (can_name g node) (Some (2 * (g.serial + 1) + node)) None

abbrev pub with_serial : Generation → ℕ → Generation
with_serial g serial =
    record {
      current = g.current;
      bitmap = g.bitmap;
      history_1 = g.history_1;
      history_2 = g.history_2;
      serial = serial;
      consistent = g.consistent;
      primary = g.primary;
      slots = g.slots;
      blocks = g.blocks;
    }

abbrev pub after_identifier : Generation → ℕ → Generation
after_identifier g node = cond (can_name g node) (with_serial g (g.serial + 1)) g
