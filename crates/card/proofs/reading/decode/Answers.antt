use Rattle.std.proofs.Common.{rules}
use Rattle.card.specs.Reading.{decode_answer}
use Rattle.card.proofs.reading.decode.Goals as goal

pub returns-in_err-generation : goal.returns-in_err-generation
unfolding decode_answer
returns-in_err-generation c = search rules

pub returns-in_err-activity : goal.returns-in_err-activity
unfolding decode_answer
returns-in_err-activity c = search rules

pub returns-in_err-bitmap : goal.returns-in_err-bitmap
unfolding decode_answer
returns-in_err-bitmap c = search rules

pub returns : goal.returns
unfolding decode_answer
returns c = search rules
