-- A fault in a card's metadata on its way up, with the block, the byte and the node kept.
use Rattle.std.specs.Prelude.{ℕ}
use Rattle.refusal.specs.declared.Refusal.{Refusal}
use Rattle.refusal.specs.declared.Refusal.TheVariants.{Meta}
use Rattle.field.specs.declared.FieldFault.{FieldFault}
use Rattle.bitmap.specs.declared.BitmapFault.{BitmapFault}
use Rattle.card.specs.declared.fault.RecordFault.{RecordFault}
use Rattle.card.specs.declared.fault.MetaFault.{MetaFault}
use Rattle.card.specs.declared.fault.NodeFault.{NodeFault}

-- the record of a block
abbrev pub in_record : (block : ℕ) → FieldFault → RecordFault block
in_record block fault = record { byte = fault.at }

abbrev pub of_record : (block : ℕ) → RecordFault block → MetaFault
of_record block fault = record { block = block; byte = fault.byte }

abbrev pub in_generation : FieldFault → RecordFault 0
in_generation = in_record 0

abbrev pub in_activity : FieldFault → RecordFault 1
in_activity = in_record 1

abbrev pub of_generation : RecordFault 0 → MetaFault
of_generation = of_record 0

abbrev pub of_activity : RecordFault 1 → MetaFault
of_activity = of_record 1

abbrev pub of_bitmap : BitmapFault → MetaFault
of_bitmap fault = record { block = 2; byte = fault.byte }

abbrev pub at_node : ℕ → MetaFault → NodeFault
at_node node fault = record { node = node; block = fault.block; byte = fault.byte }

abbrev pub refusal_of : NodeFault → Refusal
refusal_of fault = Meta fault.node fault.block fault.byte
