use Rattle.std.proofs.Common.{not, ◌++◌, ℕ, List, [], map, option_copied, refl, sym, ap, ◌∙◌, Some, arith, cond, bytes_eq, flat_map, take}
use Rattle.std.specs.List.{list_any}
use Rattle.std.proofs.lemmas.List.{get_or_default}
use Rattle.aud_base.specs.FirstTexts.{with_text, with_texts}
use Rattle.aud_base.proofs.FirstTexts.{with_texts-one}
use Rattle.aud_explain_app.specs.Chosen.{left_out_of, session_of, within_of}
use Rattle.aud_explain_app.specs.Output.{pids_in}
use Rattle.aud_explain_app.specs.Strangers.{has_pid, pids_of}
use Rattle.aud_explain_app.proofs.Missing.{first_here, has_found, none_more, same_fault, same_number}
use Rattle.aud_explain_app.proofs.Once.{flat_once}
use Rattle.aud_explain_app.proofs.chosen.named.Goals as goal

pub returns-in_default-clause-missing : goal.returns-in_default-clause-missing
returns-in_default-clause-missing c =
    let known = pids_of c.args.sessions.now in
    let here = ap (has_pid known) (sym c.index-pids-number.is ∙ sym c.as_str-text.ensures) ∙ has_found c.args.sessions.now c.as_str-text.result.now c.session_of.result _ c.session_of.ensures c.in_default.is in
    λ number is.
    first_here (λ pid. not (has_pid known pid)) c.args.pids.now c.loop-number.number c.index-pids-number.result (omega arith) c.loop-number.invariant.none_missing (ap not here)
    ∙ ap Some (same_number c.loop-number.number number (same_fault _ _ _ refl is))

pub loop-number-preserved : goal.loop-number-preserved
loop-number-preserved c =
    let known = pids_of c.args.sessions.now in
    let pids = c.args.pids.now in
    let text = c.as_str-text.result.now in
    let pid = c.as_str-text.ensures ∙ c.index-pids-number.is in
    let there = sym (ap option_copied c.in-Some.is) ∙ c.session_of.ensures in
    let here = ap (has_pid known) (sym pid) ∙ has_found c.args.sessions.now text c.session_of.result _ c.session_of.ensures c.in-Some.is in
    let before = c.loop-number.invariant in
    let seen = with_texts [] (take c.loop-number.number pids) in
    let read = pid ∙ get_or_default pids c.loop-number.number c.index-pids-number.result text (omega arith) in
    let more = with_texts-one [] pids c.loop-number.number text (omega arith) read in
    record {
      seen = c.in_ok-push_once.ensures.seen ∙ ap (λ texts. with_text texts text) before.seen ∙ more;
      named = λ cluster asked.
          let f = λ (p : List ℕ). within_of cluster c.args.only (session_of c.args.sessions.now p) in
          c.in_ok-push_once.ensures.found cluster asked
          ∙ ap (λ texts. map (λ session. session.now) c.loop-number.found.shown.items ++ cond (list_any (bytes_eq text) texts) [] (within_of cluster c.args.only (Some c.in-Some.session.now))) before.seen
          ∙ ap (λ s. map (λ session. session.now) c.loop-number.found.shown.items ++ cond (list_any (bytes_eq text) seen) [] (within_of cluster c.args.only s)) there
          ∙ ap (λ sessions. sessions ++ cond (list_any (bytes_eq text) seen) [] (f text)) (before.named cluster asked)
          ∙ sym (flat_once f seen text)
          ∙ ap (flat_map f) more;
      left_out = λ cluster asked.
          let f = λ (p : List ℕ). left_out_of cluster c.args.only p (session_of c.args.sessions.now p) in
          c.in_ok-push_once.ensures.left_out cluster asked
          ∙ ap (λ texts. pids_in c.loop-number.found.left_out.items ++ cond (list_any (bytes_eq text) texts) [] (left_out_of cluster c.args.only text (Some c.in-Some.session.now))) before.seen
          ∙ ap (λ s. pids_in c.loop-number.found.left_out.items ++ cond (list_any (bytes_eq text) seen) [] (left_out_of cluster c.args.only text s)) there
          ∙ ap (λ pids. pids ++ cond (list_any (bytes_eq text) seen) [] (f text)) (before.left_out cluster asked)
          ∙ sym (flat_once f seen text)
          ∙ ap (flat_map f) more;
      none_missing = none_more (λ p. not (has_pid known p)) pids c.loop-number.number c.index-pids-number.result (omega arith) before.none_missing (ap not here);
    }
