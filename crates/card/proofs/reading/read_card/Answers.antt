use Rattle.std.proofs.Common.{rules}
use Rattle.card.specs.Reading.{card_answer}
use Rattle.card.proofs.reading.read_card.Goals as goal

pub returns-in_err-blocks : goal.returns-in_err-blocks
unfolding card_answer
returns-in_err-blocks g c = search rules

pub returns-in_err-zero : goal.returns-in_err-zero
unfolding card_answer
returns-in_err-zero g c = search rules

pub returns-in_err-one : goal.returns-in_err-one
unfolding card_answer
returns-in_err-one g c = search rules

pub returns-in_err-two : goal.returns-in_err-two
unfolding card_answer
returns-in_err-two g c = search rules

pub returns-in_err-card : goal.returns-in_err-card
unfolding card_answer
returns-in_err-card g c = search rules

pub returns : goal.returns
unfolding card_answer
returns g c = search rules
