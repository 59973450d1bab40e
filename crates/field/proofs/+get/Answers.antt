use Rattle.std.proofs.Common.{refl, sym, ◌∙◌, arith}
use Rattle.std.proofs.lemmas.Result.{err_from_is_err_and}
use Rattle.field.proofs.Exits.{blank, not_blank, refuses_empty, refuses_byte, refuses_digit, refuses_limit, refuses_left, refuses_zero, accepts_digit, accepts_more}
use Rattle.field.proofs.+get.Goals as goal

pub returns-in_default : goal.returns-in_default
returns-in_default t c = let h = refuses_empty c.args.most c.args.bytes.now c.in_default.ensures.cases in record { answer = h.0; law = h.1 }

pub returns-then-not-is_ascii_digit : goal.returns-then-not-is_ascii_digit
returns-then-not-is_ascii_digit t c =
    let h = refuses_byte c.args.most c.args.bytes.now _ _ c.in-Some.ensures.cases.0 c.if-not-is_ascii_digit.ensures.cases in
    record { answer = h.0; law = h.1 }

pub returns-then-digit-most : goal.returns-then-digit-most
returns-then-digit-most t c =
    let b = c.if-not-is_ascii_digit.ensures.cases in
    let h = refuses_digit c.args.most c.args.bytes.now _ c.in-Some.last.now c.from-digit.result c.in-Some.ensures.cases.0 (omega arith) c.if-digit-most.true in
    record { answer = h.0; law = h.1 }

pub returns-then-is_blank : goal.returns-then-is_blank
returns-then-is_blank t c =
    let b = c.if-not-is_ascii_digit.ensures.cases in
    let h =
    accepts_digit c.args.most c.args.bytes.now _ c.in-Some.last.now c.from-digit.result c.in-Some.ensures.cases.0 (omega arith) (omega arith) c.if-digit-most.false
    (blank _ (sym c.is_blank.ensures ∙ c.if-is_blank.true))
    in
    record { answer = h.0; law = h.1 }

pub returns-then-limit-eq0 : goal.returns-then-limit-eq0
returns-then-limit-eq0 t c =
    let b = c.if-not-is_ascii_digit.ensures.cases in
    let h =
    refuses_limit c.args.most c.args.bytes.now _ c.in-Some.last.now c.from-digit.result c.in-Some.ensures.cases.0 (omega arith)
    (not_blank _ (sym c.is_blank.ensures ∙ c.if-is_blank.false)) c.if-limit-eq0.true
    in
    record { answer = h.0; law = h.1 }

pub returns-in_err-number : goal.returns-in_err-number
returns-in_err-number t c =
    let b = c.if-not-is_ascii_digit.ensures.cases in
    let q = err_from_is_err_and c.from_residual.result c.from_residual.ensures.1 in
    let a = c.in_err-number.ensures in
    let h =
    refuses_left c.args.most c.args.bytes.now _ c.in-Some.last.now c.from-digit.result c.in_err-number.field-0.0 c.from_residual.result c.in-Some.ensures.cases.0 (omega arith)
    (not_blank _ (sym c.is_blank.ensures ∙ c.if-is_blank.false)) (a.answer, a.law) (q.1 ∙ (cc q.2))
    in
    record { answer = h.0; law = h.1 }

pub returns-in-0 : goal.returns-in-0
returns-in-0 t c =
    let b = c.if-not-is_ascii_digit.ensures.cases in
    let h =
    refuses_zero c.args.most c.args.bytes.now _ c.in-Some.last.now c.from-digit.result c.in_ok-number.number c.in-Some.ensures.cases.0 (omega arith)
    (not_blank _ (sym c.is_blank.ensures ∙ c.if-is_blank.false)) c.in-0.is c.in_ok-number.ensures.law
    in
    record { answer = h.0; law = h.1 }

pub returns-in_default-2 : goal.returns-in_default-2
returns-in_default-2 t c =
    let b = c.if-not-is_ascii_digit.ensures.cases in
    let h =
    accepts_more c.args.most c.args.bytes.now _ c.in-Some.last.now c.from-digit.result c.in_ok-number.number c.in-Some.ensures.cases.0 (omega arith) (omega arith) c.if-digit-most.false
    (λ e. omega arith) c.in_ok-number.ensures.law
    in
    record { answer = h.0; law = h.1 }

pub overflow_mul-result : goal.overflow_mul-result
overflow_mul-result t c = let s = (c.in_ok-number.ensures.law.sound _ refl).small in let q = c.ranges.most.fits in omega arith

pub overflow_add-result : goal.overflow_add-result
overflow_add-result t c = let s = (c.in_ok-number.ensures.law.sound _ refl).small in let q = c.ranges.most.fits in omega arith
