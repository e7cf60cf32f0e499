use Rattle.std.proofs.Common.{◌≡◌, false, length, option_copied, slice_get, sym, ap, ◌∙◌, arith}
use Rattle.std.specs.Option.{option_map_or}
use Rattle.aud_base.specs.Places.{noted, places_of, places_where}
use Rattle.aud_base.proofs.NotedPlaces.{noted-at}
use Rattle.aud_client.specs.Replies.{is_this}
use Rattle.aud_explain_app.specs.Alike.{is_at}
use Rattle.aud_explain_app.proofs.Sharing.{numbers_lent}
use Rattle.aud_explain_app.proofs.alike.by_record.Goals.{in-Some+in_ok-note, in_default}
use Rattle.aud_explain_app.proofs.alike.by_record.Goals as goal

pub loop-number-preserved : goal.loop-number-preserved
loop-number-preserved c = λ spot.
    let recording = c.args.recording.now in
    let number = c.loop-number.number in
    let session = c.index-sessions-number.result in
    let before = places_of c.loop-number.index spot in
    let at = c.as_deref.ensures.value ∙ c.in_ok-at.ensures in
    let after : places_of c.match-as_deref.index spot ≡ noted number (is_at recording spot session.now) before = elim c.match-as_deref.branch [
      | in-Some+in_ok-note w ↦ ap (λ i. places_of i spot) w.index-is ∙ w.in_ok-note.ensures.places spot
          ∙ ap (λ o. noted number (is_this spot o) before) (sym (ap option_copied w.in-Some.is) ∙ at)
      | in_default w ↦ ap (λ i. places_of i spot) w.index-is ∙ ap (λ o. noted number (is_this spot o) before) (sym (ap option_copied w.in_default.is) ∙ at)
    ] in
    noted-at (λ o. option_map_or (λ s. is_at recording spot s.now) o false) c.args.sessions.now number session
    before (places_of c.match-as_deref.index spot) (omega arith) c.index-sessions-number.is (c.loop-number.invariant spot) after

pub returns : goal.returns
returns c = λ spot.
    let all : c.loop-number.number ≡ length c.args.sessions.now = omega arith in
    c.loop-number.invariant spot
    ∙ ap (places_where (λ k. option_map_or (λ s. is_at c.args.recording.now spot s.now) (slice_get c.args.sessions.now k) false)) all
    ∙ numbers_lent c.args.recording.now c.args.sessions.now spot
