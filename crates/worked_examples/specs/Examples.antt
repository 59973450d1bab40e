-- The rules at work: what two nodes that meet are told, and where a data block's bit stands.
use Rattle.std.specs.Prelude.{◌≡◌, ℕ, Bool, true, false, pos, negsuc, Ok, Err, slice_index_or}
use Rattle.refusal.specs.declared.Refusal.TheVariants.{Split, Unrelated, Blank}
use Rattle.compare.specs.declared.side.Side.{Side}
use Rattle.compare.specs.declared.side.Role.TheVariants.{Secondary}
use Rattle.compare.specs.declared.Node.{Node}
use Rattle.compare.specs.declared.Word.TheVariants.{NoOne}
use Rattle.compare.specs.Meeting.{comparison}
use Rattle.bitmap.specs.Bits.{bit, empty, with, with_extent}

-- a consistent Secondary: its current generation, its bitmap's and its two older ones
abbrev pub resting : ℕ → ℕ → ℕ → ℕ → Bool → Side
resting c b h1 h2 was_primary = record { current = c; bitmap = b; recent = h1; older = h2; consistent = true; primary = was_primary; role = Secondary; bits = 0 }

abbrev pub node : ℕ → ℕ → Side
node c b = resting c b 0 0 false

pub record WorkedExamples : Type 0 where
  pub two_blank_cards : (n : Node) → comparison (node 0 0) (node 0 0) n NoOne ≡ Err Blank
  pub went_on_alone : (n : Node) → comparison (node 4 2) (node 2 0) n NoOne ≡ Ok (pos 1)
  pub was_left_behind : (n : Node) → comparison (node 2 0) (node 4 2) n NoOne ≡ Ok (negsuc 0)
  pub both_went_on : (n : Node) → comparison (node 4 2) (node 3 2) n NoOne ≡ Err Split
  pub was_primary : (n : Node) → comparison (resting 2 0 0 0 true) (node 2 0) n NoOne ≡ Ok (pos 1)
  pub strangers : (n : Node) → comparison (node 2 0) (node 3 0) n NoOne ≡ Err Unrelated
  pub long_away : (n : Node) → comparison (resting 8 6 4 2 false) (node 2 0) n NoOne ≡ Ok (pos 2)
  pub block_9_alone : slice_index_or (with empty 9) 1 0 ≡ 2
  pub block_63_in_extent_0 : (bit (with_extent empty 0 4096) 63 ≡ true) × (bit (with_extent empty 1 4096) 63 ≡ false)
  pub block_64_in_extent_1 : (bit (with_extent empty 1 4096) 64 ≡ true) × (bit (with_extent empty 0 4096) 64 ≡ false)
