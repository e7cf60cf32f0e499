use Rattle.std.proofs.Common.{◌+◌, ◌∙◌, ◌&&◌, ap, cond, get_or, max, sym, true, nat_eq, nat_lt, take}
use Rattle.std.proofs.lemmas.List.{take_all}
use Rattle.std.specs.HashSet as hash
use Rattle.aud_findings.specs.Also.{is_late, times}
use Rattle.aud_findings.specs.Received.{greatest}
use Rattle.aud_findings.proofs.Counts.{greatest_more, has_times, late_more, late_step, once_step, times_more, twice_step}
use Rattle.aud_findings.proofs.others.seen_in.Goals as goal

pub loop-position-preserved : goal.loop-position-preserved
loop-position-preserved c =
    let xs = c.args.positions.now in
    let i = c.loop-position.position-index in (
      λ q. once_step (nat_eq (get_or xs i 0) q) (times (take i xs) q) (times (take (i + 1) xs) q) _ _
          (times_more xs i q c.loop-position-test.true) (c.loop-position.invariant.0 q) (c.in_ok-note.ensures.once q),
      λ q. twice_step (nat_eq (get_or xs i 0) q) (times (take i xs) q) (times (take (i + 1) xs) q) _ _ _
          (times_more xs i q c.loop-position-test.true) (c.loop-position.invariant.0 q) (c.loop-position.invariant.1 q) (c.in_ok-note.ensures.twice q),
      λ q. late_step (nat_eq (get_or xs i 0) q && nat_lt q (greatest (take i xs))) (is_late (take i xs) q) _ _ _
          (c.loop-position.invariant.2 q) (c.in_ok-note_late.ensures q ∙ ap (λ g. cond (nat_eq (get_or xs i 0) q && nat_lt q g) true (hash.contains nat_eq c.loop-position.late q)) c.loop-position.invariant.3)
          (late_more xs i q c.loop-position-test.true),
      c.max-last.ensures ∙ ap (max (get_or xs i 0)) c.loop-position.invariant.3 ∙ sym (greatest_more xs i c.loop-position-test.true),
    )

pub returns : goal.returns
returns c =
    let all = take_all c.loop-position.position-index c.args.positions.now c.loop-position-test.false in
    record {
      once = λ q. c.loop-position.invariant.0 q ∙ ap (λ xs. nat_lt 0 (times xs q)) all ∙ sym (has_times c.args.positions.now q);
      twice = λ q. c.loop-position.invariant.1 q ∙ ap (λ xs. nat_lt 1 (times xs q)) all;
      late = λ q. c.loop-position.invariant.2 q ∙ ap (λ xs. is_late xs q) all;
      last = c.loop-position.invariant.3 ∙ ap greatest all;
    }
