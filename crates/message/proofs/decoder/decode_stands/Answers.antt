use Rattle.message.proofs.Laws.{round_trip}
use Rattle.message.proofs.decoder.decode_stands.Goals as goal

pub returns : goal.returns
returns c = round_trip
