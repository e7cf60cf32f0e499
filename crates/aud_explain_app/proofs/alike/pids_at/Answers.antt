use Rattle.std.proofs.Common.{◌≡◌, ◌++◌, ◌∷◌, [], ℕ, List, Bor, append-nil, get_or, map, option_copied, slice_get, ap, sym, ◌∙◌, arith}
use Rattle.std.proofs.lemmas.Grind.{common_steps}
use Rattle.std.proofs.lemmas.List.{map-append}
use Rattle.std.proofs.lemmas.Option.{gets, slice_get-map}
use Rattle.aud_explain_app.specs.Alike.{pid_of}
use Rattle.aud_explain_app.proofs.Sharing.{lent}
use Rattle.aud_explain_app.proofs.Steps.{flat_item}
use Rattle.aud_explain_app.proofs.alike.pids_at.Goals.{in-Some+in_ok-push, in_default}
use Rattle.aud_explain_app.proofs.alike.pids_at.Goals as goal

-- pids that are borrowed
abbrev seen : List (Bor (List ℕ)) → List (List ℕ)
seen pids = map (λ pid. pid.now) pids

pub loop-number-preserved : goal.loop-number-preserved
loop-number-preserved c =
    let all = c.args.sessions.now in
    let pids = c.loop-number.pids.items in
    let before = seen pids in
    let number : ℕ = get_or c.args.numbers.now c.loop-number.number-index 0 in
    let got : option_copied c.get.result ≡ slice_get all number = grind (arith, common_steps, gets) in
    let at = ap option_copied got ∙ sym (slice_get-map (λ s. s.now) all number) in
    let more : seen c.match-get.pids.items ≡ before ++ pid_of (slice_get (lent all) number) = elim c.match-get.branch [
      | in-Some+in_ok-push w ↦ ap (λ v. seen v.items) w.pids-is ∙ ap seen w.in_ok-push.ensures.items ∙ map-append (λ pid. pid.now) pids (w.as_str.result ∷ [])
          ∙ ap (λ p. before ++ p ∷ []) w.as_str.ensures ∙ ap (λ o. before ++ pid_of o) (sym (ap (λ o. option_copied (option_copied o)) w.in-Some.is) ∙ at)
      | in_default w ↦ ap (λ v. seen v.items) w.pids-is ∙ sym (append-nil before)
          ∙ ap (λ o. before ++ pid_of o) (sym (ap (λ o. option_copied (option_copied o)) w.in_default.is) ∙ at)
    ] in
    flat_item (λ k. pid_of (slice_get (lent all) k)) c.args.numbers.now c.loop-number.number-index 0 _ _ c.loop-number-test.true c.loop-number.invariant more
