-- What the self-test answers and leaves, over every link.
use Rattle.std.specs.Prelude.{ℕ, Bool, true, cond, List, Ok, Err, Result}
use Rattle.refusal.specs.declared.Refusal.{Refusal}
use Rattle.refusal.specs.declared.Refusal.TheVariants.{Measure}
use Rattle.link.specs.declared.Way.{Way}
use Rattle.link.specs.Channel.{Channel, is_frame, holding, emptied, nothing, one_more}

abbrev pub test_answer : List ℕ → List ℕ → Result Bool Refusal
test_answer f g = cond (is_frame f) (cond (is_frame g) (Ok true) (Err Measure)) (Err Measure)

-- the link is open and empty, but for a first frame whose second was refused
abbrev pub tested : Channel → Way → List ℕ → List ℕ → Channel
tested c y f g =
    cond (is_frame f) (cond (is_frame g) (emptied c true) (holding (emptied c true) (one_more nothing y f))) (emptied c true)
