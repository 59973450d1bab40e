use Rattle.std.proofs.Common.{ap, ◌∙◌, lit≤}
use Rattle.row.specs.Records.{written_as}
use Rattle.row.proofs.Writing.{block_fitting}
use Rattle.card.specs.Generations.{numbers_of}
use Rattle.card.proofs.generation.Generation.to_block.Goals as goal

pub returns : goal.returns
returns c =
    c.to_block.ensures ∙ ap written_as c.numbers.ensures.fields ∙ block_fitting (numbers_of c.args.self.now) (lit≤ tt) c.numbers.ensures.fit
