use Rattle.std.proofs.Common.{ℕ, length, ap, ◌∙◌, arith, rules}
use borrow.Author.Tests.{tests}
use Rattle.std.specs.List.{slice_get}
use Rattle.std.proofs.lemmas.Iterator.{YieldsList-from_range}
use Rattle.std.proofs.lemmas.Iterator.Search.{any_from_yields_List}
use Rattle.protocol.specs.Activation.{waiting}
use Rattle.records.specs.Kept.{kept}
use Rattle.records.proofs.Scans.{passes, any_at}
use Rattle.records.proofs.Records.any_waiting.Goals as goal

pub returns : goal.returns
returns c =
    let rs = kept c.args.self.now in
    let all = YieldsList-from_range 0 (length rs) (length rs) (ap (λ (n : ℕ). record { start = 0; end = n }) c.count.ensures) (omega arith) in
    any_from_yields_List (λ i. passes waiting (slice_get rs i)) _ _ _ c.any.ensures.ran all (λ x b q k. search (rules, tests)) ∙ any_at waiting rs
