use Rattle.std.proofs.Common.{Err, ap, ◌∙◌, rules}
use Rattle.std.proofs.lemmas.Result.{err_from_is_err_and}
use Rattle.device.specs.Disk.{written}
use Rattle.card.specs.Rows.{row_of}
use Rattle.card.specs.Generations.{bytes_of}
use Rattle.card.specs.Creation.{writes_answer, writes_after, create_answer, created}
use Rattle.card.proofs.Creation.{begun, wrote, died, finished}
use Rattle.card.proofs.making.create.Goals as goal

pub returns-in_err-blocks-clause-answer : goal.returns-in_err-blocks-clause-answer
unfolding create_answer
returns-in_err-blocks-clause-answer g c = search rules

pub returns-in_err-blocks-clause-after : goal.returns-in_err-blocks-clause-after
unfolding created
returns-in_err-blocks-clause-after g c = search rules

pub returns-in_err-used-clause-answer : goal.returns-in_err-used-clause-answer
unfolding create_answer
returns-in_err-used-clause-answer g c = search rules

pub returns-in_err-used-clause-after : goal.returns-in_err-used-clause-after
unfolding created
returns-in_err-used-clause-after g c = search rules

pub returns-in_err-write-clause-answer : goal.returns-in_err-write-clause-answer
unfolding create_answer writes_answer
returns-in_err-write-clause-answer g c = search rules

pub returns-in_err-write-clause-after : goal.returns-in_err-write-clause-after
unfolding created writes_after written
returns-in_err-write-clause-after g c = search rules

pub returns-in_err-write-2 : goal.returns-in_err-write-2
returns-in_err-write-2 g c =
    let s =
    begun (g.D.Device.means c.args.device.now).disk c.args.slots c.count.result c.in_ok-used.used c.in_ok-blocks.blocks c.count.ensures
    c.in_ok-blocks.ensures c.in_ok-used.ensures
    in
    let b = c.in_ok-write.ensures in
    let s₁ = wrote _ c.args.slots _ _ _ _ _ _ c.in_ok-write.field-0 (c.to_block-generation.ensures ∙ ap bytes_of c.fresh.ensures) s b.answer b.after in
    let p = err_from_is_err_and c.from_residual-in_err-write-2.result c.from_residual-in_err-write-2.ensures.1 in
    let f = c.in_err-write-2.ensures in
    let h =
    died _ c.args.slots _ _ _ _ _ _ c.in_err-write-2.field-0.0 c.from_residual-in_err-write-2.result (c.to_block-activity.ensures ∙ ap (row_of 512) c.empty.ensures) s₁ f.answer f.after
    (p.1 ∙ ap Err p.2)
    in
    record { answer = h.0; after = h.1 }

pub returns-in_err-write-3 : goal.returns-in_err-write-3
returns-in_err-write-3 g c =
    let s =
    begun (g.D.Device.means c.args.device.now).disk c.args.slots c.count.result c.in_ok-used.used c.in_ok-blocks.blocks c.count.ensures
    c.in_ok-blocks.ensures c.in_ok-used.ensures
    in
    let b = c.in_ok-write.ensures in
    let s₁ = wrote _ c.args.slots _ _ _ _ _ _ c.in_ok-write.field-0 (c.to_block-generation.ensures ∙ ap bytes_of c.fresh.ensures) s b.answer b.after in
    let b2 = c.in_ok-write-2.ensures in
    let s₂ = wrote _ c.args.slots _ _ _ _ _ _ c.in_ok-write-2.field-0 (c.to_block-activity.ensures ∙ ap (row_of 512) c.empty.ensures) s₁ b2.answer b2.after in
    let p = err_from_is_err_and c.from_residual-in_err-write-3.result c.from_residual-in_err-write-3.ensures.1 in
    let f = c.in_err-write-3.ensures in
    let h =
    died _ c.args.slots _ _ _ _ _ _ c.in_err-write-3.field-0.0 c.from_residual-in_err-write-3.result (c.as_bytes.ensures ∙ c.new-map.ensures) s₂ f.answer f.after
    (p.1 ∙ ap Err p.2)
    in
    record { answer = h.0; after = h.1 }

pub returns : goal.returns
returns g c =
    let s =
    begun (g.D.Device.means c.args.device.now).disk c.args.slots c.count.result c.in_ok-used.used c.in_ok-blocks.blocks c.count.ensures
    c.in_ok-blocks.ensures c.in_ok-used.ensures
    in
    let b = c.in_ok-write.ensures in
    let s₁ = wrote _ c.args.slots _ _ _ _ _ _ c.in_ok-write.field-0 (c.to_block-generation.ensures ∙ ap bytes_of c.fresh.ensures) s b.answer b.after in
    let b2 = c.in_ok-write-2.ensures in
    let s₂ = wrote _ c.args.slots _ _ _ _ _ _ c.in_ok-write-2.field-0 (c.to_block-activity.ensures ∙ ap (row_of 512) c.empty.ensures) s₁ b2.answer b2.after in
    let b3 = c.in_ok-write-3.ensures in
    let s₃ = wrote _ c.args.slots _ _ _ _ _ _ c.in_ok-write-3.field-0 (c.as_bytes.ensures ∙ c.new-map.ensures) s₂ b3.answer b3.after in
    let h = finished _ c.args.slots _ _ s₃ in
    record { answer = h.0; after = h.1 }
