use Rattle.std.proofs.Common.{arith}
use Rattle.card.proofs.Generations.{all_fit_lem}
use Rattle.card.proofs.generation.Generation.numbers.Goals as goal

pub returns-clause-fit : goal.returns-clause-fit
returns-clause-fit c =
    all_fit_lem c.args.self.now
    (record { current = omega arith; bitmap = omega arith; recent = omega arith; older = omega arith; serial = omega arith; slots = omega arith; blocks = omega arith })
