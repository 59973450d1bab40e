use Rattle.std.proofs.Common.{◌≡◌, length, sum_by, ◌∙◌, rules, tests, arith}
use lib.Count.{ones}
use Rattle.std.proofs.iter.runs.Made.{chains}
use Rattle.std.proofs.lemmas.Iterator.{YieldsList-from_slice}
use Rattle.std.proofs.lemmas.Iterator.Adapters.{fits_from_length, at_most_from_yields_List}
use Rattle.bitmap.proofs.Counting.{counts_all}
use Rattle.bitmap.proofs.Bitmap.count.Goals as goal

pub sum-requires-clause-fits : goal.sum-requires-clause-fits
sum-requires-clause-fits c = fits_from_length _ _ 512 _ (at_most_from_yields_List (YieldsList-from_slice c.args.self.now.bytes cc) (grind arith)) c.map.ensures.closure (omega arith) (λ x r q k. search (rules, tests))

pub returns : goal.returns
returns c =
    let self = c.args.self.now in
    let s : c.sum.result ≡ sum_by ones self.bytes = search (rules, chains) in
    let l : length self.bytes ≡ 512 = omega arith in
    s ∙ counts_all 512 self.bytes l self.octets
