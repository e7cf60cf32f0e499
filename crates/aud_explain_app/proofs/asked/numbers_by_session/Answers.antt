use Rattle.std.proofs.Common.{◌≡◌, ℕ, List, Option, Bor, false, get_or, option_map, sym, ap, ◌∙◌}
use Rattle.std.specs.Option.{option_map_or}
use Rattle.aud_base.specs.Places.{noted, places_of}
use Rattle.aud_client.specs.Replies.{is_this}
use Rattle.aud_session_facts.specs.declared.asked.Recovery.{Recovery}
use Rattle.aud_explain_app.specs.Asked.{is_for}
use Rattle.aud_explain_app.proofs.Steps.{noted-get}
use Rattle.aud_explain_app.proofs.asked.numbers_by_session.Goals.{in-Some+in_ok-note, in_default}
use Rattle.aud_explain_app.proofs.asked.numbers_by_session.Goals as goal

-- what is read where there is no recovery
abbrev none : Recovery
none = record { client = 0; stay = 0; granted = false }

-- the pid that is borrowed
abbrev seen : Option (Bor (List ℕ)) → Option (List ℕ)
seen pid = option_map (λ p. p.now) pid

pub loop-number-preserved : goal.loop-number-preserved
loop-number-preserved c = λ q.
    let recording = c.args.recording.now in
    let number = c.loop-number.number in
    let old = places_of c.loop-number.numbers q in
    let asked = c.asked_pid.ensures in
    let new : places_of c.match-asked_pid.numbers q ≡ noted number (is_for recording q (get_or c.args.all.now number none)) old = elim c.match-asked_pid.branch [
      | in-Some+in_ok-note w ↦ ap (λ n. places_of n q) w.numbers-is ∙ w.in_ok-note.ensures.places q
          ∙ ap (λ o. noted number (is_this q o) old) (sym (ap seen w.in-Some.is) ∙ asked)
      | in_default w ↦ ap (λ n. places_of n q) w.numbers-is ∙ ap (λ o. noted number (is_this q o) old) (sym (ap seen w.in_default.is) ∙ asked)
    ] in
    noted-get (λ r. option_map_or (is_for recording q) r false) c.args.all.now number none old (places_of c.match-asked_pid.numbers q)
    c.loop-number-test.true (c.loop-number.invariant q) new
