use Rattle.std.proofs.Common.{◌+◌, ◌<◌, length, take, drop, sym, subst, arith}
use Rattle.std.proofs.lemmas.List.{take_more_set}
use Rattle.aud_json.proofs.Strings.{Passed, passed_copy, passed_end, passed_step, passed_valid, step_quote}
use Rattle.aud_json.proofs.unescape.unescape.Goals as goal

pub whole-preserved-in_default : goal.whole-preserved-in_default
whole-preserved-in_default c =
    let l = c.whole in
    record {
      passed = passed_copy c.as_bytes-bytes.result.now l.room c.copy_plain.new.room l.from l.to 16 l.invariant.passed c.in_default.ensures.copied;
      behind = omega (arith, l.invariant.behind);
      within = omega arith;
    }

pub whole-preserved-then-from_be_bytes-eq-ESCAPED_QUOTE : goal.whole-preserved-then-from_be_bytes-eq-ESCAPED_QUOTE
whole-preserved-then-from_be_bytes-eq-ESCAPED_QUOTE c =
    let bytes = c.as_bytes-bytes.result.now in
    let l = c.whole in
    let run = c.in-Some.run' in
    let room = c.copy_plain.new.room in
    let passed = passed_copy bytes l.room room l.from l.to run l.invariant.passed c.in-Some.ensures.copied.0 in
    let fits : l.to + run < length room = grind arith in
    let read = step_quote bytes (l.from + run) c.from_be_bytes.result (omega (arith, c.in-Some.ensures.copied.1)) (c.type_inv.bytes (l.from + run)).fits (c.type_inv.bytes (l.from + run + 1)).fits c.from_be_bytes.ensures (grind arith) in
    record {
      passed = subst (λ f. Passed bytes f (drop (l.from + run + 2) bytes)) (sym (take_more_set room (l.to + run) 34 fits)) (passed_step bytes (take (l.to + run) room) (l.from + run) 34 (l.from + run + 2) passed read);
      behind = omega (arith, l.invariant.behind);
      within = omega (arith, c.in-Some.ensures.copied.1);
    }

pub returns-then-bytes-from-eq34-clause-read : goal.returns-then-bytes-from-eq34-clause-read
returns-then-bytes-from-eq34-clause-read c =
    let bytes = c.as_bytes-bytes.result.now in
    let l = c.whole in
    let run = c.in-Some.run' in
    let found = take (l.to + run) c.copy_plain.new.room in
    let at = l.from + run in
    let passed = passed_copy bytes l.room c.copy_plain.new.room l.from l.to run l.invariant.passed c.in-Some.ensures.copied.0 in
    let text : Passed c.args.text.now found (drop at c.args.text.now) = subst (λ t. Passed t found (drop at t)) c.as_bytes-bytes.ensures.value passed in
    passed_end c.args.text.now found at text (grind arith) (grind arith)

pub returns-then-bytes-from-eq34-clause-text : goal.returns-then-bytes-from-eq34-clause-text
returns-then-bytes-from-eq34-clause-text c =
    let bytes = c.as_bytes-bytes.result.now in
    let l = c.whole in
    let run = c.in-Some.run' in
    let found = take (l.to + run) c.copy_plain.new.room in
    let at = l.from + run in
    let passed = passed_copy bytes l.room c.copy_plain.new.room l.from l.to run l.invariant.passed c.in-Some.ensures.copied.0 in
    let text : Passed c.args.text.now found (drop at c.args.text.now) = subst (λ t. Passed t found (drop at t)) c.as_bytes-bytes.ensures.value passed in
    passed_valid c.args.text.now found at text (grind arith) (grind arith) c.utf8.text

pub whole-preserved : goal.whole-preserved
whole-preserved c =
    let bytes = c.as_bytes-bytes.result.now in
    let l = c.whole in
    let run = c.in-Some.run' in
    let to = l.to + run in
    let room = c.copy_plain.new.room in
    let passed = passed_copy bytes l.room room l.from l.to run l.invariant.passed c.in-Some.ensures.copied.0 in
    let fits : to < length room = grind arith in
    let next = c.in_ok-byte in
    record {
      passed = subst (λ f. Passed bytes f (drop next.next bytes)) (sym (take_more_set room to next.byte fits)) (passed_step bytes (take to room) (l.from + run) next.byte next.next passed next.ensures.read);
      behind = grind arith;
      within = grind arith;
    }

pub returns-then-bytes-from-eq34-2-clause-read : goal.returns-then-bytes-from-eq34-2-clause-read
returns-then-bytes-from-eq34-2-clause-read c =
    let l = c.rest in
    let found = take l.to l.room in
    let text : Passed c.args.text.now found (drop l.from c.args.text.now) = subst (λ t. Passed t found (drop l.from t)) c.as_bytes-bytes.ensures.value l.invariant.passed in
    passed_end c.args.text.now found l.from text (grind arith) (grind arith)

pub returns-then-bytes-from-eq34-2-clause-text : goal.returns-then-bytes-from-eq34-2-clause-text
returns-then-bytes-from-eq34-2-clause-text c =
    let l = c.rest in
    let found = take l.to l.room in
    let text : Passed c.args.text.now found (drop l.from c.args.text.now) = subst (λ t. Passed t found (drop l.from t)) c.as_bytes-bytes.ensures.value l.invariant.passed in
    passed_valid c.args.text.now found l.from text (grind arith) (grind arith) c.utf8.text

pub rest-preserved : goal.rest-preserved
rest-preserved c =
    let bytes = c.as_bytes-bytes.result.now in
    let l = c.rest in
    let next = c.in_ok-byte-2 in
    let fits : l.to < length l.room = grind arith in
    record {
      passed = subst (λ f. Passed bytes f (drop next.next bytes)) (sym (take_more_set l.room l.to next.byte fits)) (passed_step bytes (take l.to l.room) l.from next.byte next.next l.invariant.passed next.ensures.read);
      behind = grind arith;
      within = grind arith;
    }
