use Rattle.std.proofs.Common.{◌≡◌, ap, ◌∙◌}
use Rattle.std.proofs.lemmas.Result.{IfOk-weaker}
use Rattle.aud_rooms.specs.Turns.{Who}
use Rattle.aud_rooms.specs.Spans.{due_by_spans, first_low}
use Rattle.aud_check.specs.Shown.{slices_at}
use Rattle.aud_check.proofs.AcceptedTurns.{all_accepted, lows, highs}
use Rattle.aud_check.proofs.due.shown_due.Goals as goal

pub returns : goal.returns
returns c =
    let C = c.args.logs.now in
    let turns = c.args.turns.now in
    let who = c.args.session.now in
    let spans = c.args.spans.now in
    let accepted = all_accepted C who.pid turns c.requires.accepted in
    let low = c.first_shown_low-birth.ensures ∙ lows C who.pid 0 turns accepted in
    let high = c.greatest_shown_high-high.ensures ∙ highs C who.pid 0 turns accepted in
    let nsp : c.session.inside.nsp.now ≡ who.nsp = ap (λ (w : Who). w.nsp) c.session.view_is in
    let is =
    ap (λ stream. due_by_spans spans stream c.session.inside.nsp.now c.first_shown_low-birth.result c.greatest_shown_high-high.result) c.stream.ensures
    ∙ ap (λ n. due_by_spans spans C.stream n c.first_shown_low-birth.result c.greatest_shown_high-high.result) nsp
    ∙ ap (λ n. due_by_spans spans C.stream who.nsp n c.greatest_shown_high-high.result) low
    ∙ ap (due_by_spans spans C.stream who.nsp (first_low (slices_at C turns))) high
    ∙ c.due_by_spans_of_turns.ensures C.stream who (slices_at C turns) spans c.requires.spans
    in
    IfOk-weaker c.due_of.result _ _ (λ due found. found ∙ is) c.due_of.ensures
