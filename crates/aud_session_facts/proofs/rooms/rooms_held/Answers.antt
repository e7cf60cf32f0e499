use Rattle.std.proofs.Common.{◌≡◌, ◌∙◌, Some, map, filter, ap, sym}
use Rattle.std.specs.FinSet as set
use Rattle.std.proofs.lemmas.List.{take_all}
use Rattle.aud_cert.specs.Certificate.{CertificateSeen}
use Rattle.aud_rooms.specs.Spans.{RoomSpan, is_within}
use Rattle.aud_session_facts.proofs.RoomsHeld.{held_there}
use Rattle.aud_session_facts.proofs.rooms.rooms_held.Goals as goal

pub returns-clause-held : goal.returns-clause-held
returns-clause-held c cluster made past within =
    let spans = c.as_slice-span-items.result.now in
    let same : spans ≡ c.args.cert.now.spans = c.as_slice-span-items.ensures.value ∙ ap (λ (x : CertificateSeen). x.spans) c.cert.view_is in
    let rooms = ap (λ ss. map (λ (s : RoomSpan). s.room) (filter (is_within c.args.position) ss)) (take_all c.loop-span.span-index spans c.loop-span-test.false ∙ same) in
    held_there cluster c.args.cert.now made c.args.position past within
    ∙ ap (λ rs. Some (set.from_list rs)) (sym (c.loop-span.invariant ∙ rooms))
