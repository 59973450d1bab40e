use Rattle.std.proofs.Common.{rules}
use Rattle.compare.proofs.Mirror.{comparison_mirror}
use Rattle.compare.proofs.Harm.{comparison_sound}
use Rattle.compare.proofs.compare.Goals as goal

pub returns-in_err-finds-clause-mirrored : goal.returns-in_err-finds-clause-mirrored
returns-in_err-finds-clause-mirrored c = comparison_mirror c.args.mine c.args.peer c.args.asking c.args.word _ (search rules)

pub returns-in_err-tested-clause-mirrored : goal.returns-in_err-tested-clause-mirrored
returns-in_err-tested-clause-mirrored c = comparison_mirror c.args.mine c.args.peer c.args.asking c.args.word _ (search rules)

pub returns-clause-mirrored : goal.returns-clause-mirrored
returns-clause-mirrored c = comparison_mirror c.args.mine c.args.peer c.args.asking c.args.word _ (search rules)

pub returns-clause-sound : goal.returns-clause-sound
returns-clause-sound c = comparison_sound c.args.mine c.args.peer c.args.asking c.args.word _ (search rules)
