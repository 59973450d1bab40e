use Rattle.std.proofs.Common.{refl, sym, ◌∙◌, arith}
use Rattle.row.proofs.Writing.{all_fit-below, partly_none, partly_more, never_refused, no_room, too_large, put_all}
use Rattle.row.proofs.put_row.Goals as goal
use Rattle.row.proofs.put_row.Goals.{then-not-has_room-via-then-not-has_room, then-not-has_room-via-else-not-has_room+then-not-all_fit}

pub returns-then-not-has_room : goal.returns-then-not-has_room
returns-then-not-has_room c =
    elim c.then-not-has_room.branch [
      | then-not-has_room-via-then-not-has_room w ↦
          let h = no_room c.args.bytes.now c.args.at c.args.numbers.now (sym c.has_room.ensures ∙ w.if-not-has_room.true) in
          record { answer = h.0; after = h.1 }
      | then-not-has_room-via-else-not-has_room+then-not-all_fit w ↦
          let s = sym (all_fit-below c.args.numbers.now) ∙ sym w.all_fit.ensures ∙ w.if-not-all_fit.true in
          let h = too_large c.args.bytes.now c.args.at c.args.numbers.now s in
          record { answer = h.0; after = h.1 }
    ]

pub loop-i-init : goal.loop-i-init
loop-i-init c =
    let s = sym (all_fit-below c.args.numbers.now) ∙ sym c.all_fit.ensures ∙ c.if-not-all_fit.false in
    (record { roomy = sym c.has_room.ensures ∙ c.if-not-has_room.false; small = s }, partly_none c.args.bytes.now c.args.at c.args.numbers.now)

pub returns-in_err-put_at : goal.returns-in_err-put_at
returns-in_err-put_at c =
    let i = c.loop-i.invariant in
    never_refused c.args.bytes.now c.loop-i.bytes c.args.at c.args.numbers.now c.loop-i.i _ c.in_err-put_at.field-0.0 i.1 c.loop-i-test.true i.0 refl c.in_err-put_at.ensures.answer

pub loop-i-preserved : goal.loop-i-preserved
loop-i-preserved c =
    let i = c.loop-i.invariant in
    (i.0, c.put_at.ensures.after ∙ partly_more c.args.bytes.now c.loop-i.bytes c.args.at c.args.numbers.now c.loop-i.i i.1 c.loop-i-test.true i.0)

pub returns : goal.returns
returns c =
    let i = c.loop-i.invariant in
    let h = put_all c.args.bytes.now c.loop-i.bytes c.args.at c.args.numbers.now c.loop-i.i i.1 (omega arith) i.0 in
    record { answer = h.0; after = h.1 }
