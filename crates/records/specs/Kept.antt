-- What write records mean: a list, the oldest first.
use Rattle.std.specs.Prelude.{◌≡◌, false, List, ◌++◌}
use Rattle.std.specs.declared.iter.Chain.{Chain}
use Rattle.std.specs.declared.slice.Iter.{Iter}
use Rattle.std.specs.Iterator.Adapters.{chain_first, chain_second, chain_first_done, chain_second_done}
use Rattle.std.specs.Slice.Iter.{iter_rest}
use Rattle.queue.specs.Queue.{contents}
use Rattle.protocol.specs.declared.WriteRecord.{WriteRecord}
use Rattle.records.specs.declared.Records.{Records}

-- the writes that were accepted and not collected
abbrev pub kept : Records → List WriteRecord
kept r = contents r.places r.ring

-- what two slices, one after the other, have yet to give
pub record Gives (it : Chain (Iter WriteRecord) (Iter WriteRecord)) (rs : List WriteRecord) : Type 0 where
  pub rest : iter_rest (chain_first it) ++ iter_rest (chain_second it) ≡ rs
  pub first_goes : chain_first_done it ≡ false
  pub second_goes : chain_second_done it ≡ false
