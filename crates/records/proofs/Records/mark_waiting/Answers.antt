use Rattle.std.proofs.Common.{sym, ◌∙◌, true, false, refl}
use Rattle.records.proofs.Scans.{list_given, marking_turn, marking_end}
use Rattle.records.proofs.Records.mark_waiting.Goals as goal

pub loop-record-preserved-then-is_waiting : goal.loop-record-preserved-then-is_waiting
loop-record-preserved-then-is_waiting c =
    let e = list_given _ _ _ c.into_iter-record-iterator.ensures.into_iter_gives c.iter-record-items.ensures in
    c.loop-record.invariant
    ∙ marking_turn _ _ e _ c.in-Some.record c.loop-record.yielded_by c.in-Some.is c.next.ensures.steps _ _ true c.if-is_waiting.ensures c.set.ensures

pub loop-record-preserved : goal.loop-record-preserved
loop-record-preserved c =
    let e = list_given _ _ _ c.into_iter-record-iterator.ensures.into_iter_gives c.iter-record-items.ensures in
    c.loop-record.invariant ∙ marking_turn _ _ e _ c.in-Some.record c.loop-record.yielded_by c.in-Some.is c.next.ensures.steps _ _ false c.if-is_waiting.ensures refl

pub returns : goal.returns
returns c =
    let e = list_given _ _ _ c.into_iter-record-iterator.ensures.into_iter_gives c.iter-record-items.ensures in
    sym (c.loop-record.invariant ∙ marking_end _ _ e _ c.loop-record.yielded_by c.in-None.is c.next.ensures.steps c.loop-record.map.bytes)
