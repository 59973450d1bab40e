use Rattle.std.proofs.Common.{◌≡◌, length, Some, None, refl, sym, ◌∙◌, arith, rules}
use Rattle.message.specs.Frames.{plain}
use Rattle.message.specs.Messages.{says}
use Rattle.message.proofs.Encoding.{Writes, refused_room, refused_limits, placed, lettered, written_frame, bytes_placed}
use Rattle.message.proofs.encoder.write.Goals as goal
use Rattle.message.proofs.encoder.write.Goals.{then-out-end-via-then-out-end, then-out-end-via-else-out-end+then-not-all_within}

pub returns-then-out-end : goal.returns-then-out-end
returns-then-out-end g c =
    let said = says c.args.letter c.args.numbers c.args.bytes.now in
    let n : length c.args.numbers ≡ g.row.N = search rules in
    let r : Writes (Some (plain c.args.limits (length c.args.bytes.now))) said c.args.out.now None c.args.out.now = elim c.then-out-end.branch [
      | then-out-end-via-then-out-end w ↦ refused_room c.args.limits (length c.args.bytes.now) said c.args.out.now g.row.N n refl (omega arith)
      | then-out-end-via-else-out-end+then-not-all_within w ↦ refused_limits c.args.limits (length c.args.bytes.now) said c.args.out.now (sym w.all_within.ensures ∙ w.if-not-all_within.true)
    ] in
    record { answer = r.answer_is; after = r.after_is }

pub returns : goal.returns
returns g c =
    let n : length c.args.numbers ≡ g.row.N = search rules in
    let said = says c.args.letter c.args.numbers c.args.bytes.now in
    let w = sym c.all_within.ensures ∙ c.if-not-all_within.false in
    let p = placed c.args.limits c.args.numbers c.args.out.now w (omega arith) in
    let m = lettered c.args.out.now c.put_row.new.bytes c.args.letter c.args.numbers (omega arith) p c.put_row.ensures.after in
    let e = bytes_placed said c.args.out.now _ c.copy_from_slice.new.self g.row.N (length c.args.bytes.now) (rw n at m) n c.copy_from_slice.ensures.after in
    let r = written_frame c.args.limits (length c.args.bytes.now) said c.args.out.now _ g.row.N n refl c.if-out-end.false w e in
    record { answer = r.answer_is; after = r.after_is }
