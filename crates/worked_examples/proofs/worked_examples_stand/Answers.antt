use Rattle.std.proofs.Common.{refl, arith}
use Rattle.worked_examples.proofs.Places.{nine_alone, extent_alone}
use Rattle.worked_examples.proofs.worked_examples_stand.Goals as goal

pub returns : goal.returns
returns c =
    record {
      two_blank_cards = λ n. refl;
      went_on_alone = λ n. refl;
      was_left_behind = λ n. refl;
      both_went_on = λ n. refl;
      was_primary = λ n. refl;
      strangers = λ n. refl;
      long_away = λ n. refl;
      block_9_alone = nine_alone;
      block_63_in_extent_0 = (extent_alone 0 63 (omega arith), extent_alone 1 63 (omega arith));
      block_64_in_extent_1 = (extent_alone 1 64 (omega arith), extent_alone 0 64 (omega arith));
    }
