use Rattle.std.proofs.Common.{◌∙◌}
use Rattle.message.specs.Frames.{shape_of}
use Rattle.message.proofs.encoder.encode.Goals as goal

pub returns-in-Report : goal.returns-in-Report
unfolding shape_of
returns-in-Report c =
    let e = c.in-Report.is in
    let l = c.report_limits.ensures in
    let n = c.report_numbers.ensures in
    let w = c.write_row.ensures in
    record { answer = w.answer ∙ rw (e, l, n); after = w.after ∙ rw (e, l, n) }

pub returns-in-Bits : goal.returns-in-Bits
unfolding shape_of
returns-in-Bits c =
    let e = c.in-Bits.is in
    let w = c.write_bits.ensures in
    record { answer = w.answer ∙ rw e; after = w.after ∙ rw e }

pub returns-in-Data : goal.returns-in-Data
unfolding shape_of
returns-in-Data c =
    let e = c.in-Data.is in
    let l = c.data_limits.ensures in
    let w = c.write_block.ensures in
    record { answer = w.answer ∙ rw (e, l); after = w.after ∙ rw (e, l) }

pub returns-in-Copy : goal.returns-in-Copy
unfolding shape_of
returns-in-Copy c =
    let e = c.in-Copy.is in
    let l = c.block_limits.ensures in
    let w = c.write_block-in-Copy.ensures in
    record { answer = w.answer ∙ rw (e, l); after = w.after ∙ rw (e, l) }

pub returns-in-Landed : goal.returns-in-Landed
unfolding shape_of
returns-in-Landed c =
    let e = c.in-Landed.is in
    let l = c.block_limits-in-Landed.ensures in
    let w = c.write_row-in-Landed.ensures in
    record { answer = w.answer ∙ rw (e, l); after = w.after ∙ rw (e, l) }
