use Rattle.std.proofs.Common.{◌≡◌, false, length, slice_get, ap, ◌∙◌, arith}
use Rattle.std.specs.Option.{option_map_or}
use Rattle.aud_base.specs.Places.{places_of, places_where}
use Rattle.aud_base.proofs.NotedPlaces.{noted-at}
use Rattle.aud_client.specs.Received.{stay_names_pid}
use Rattle.aud_client.proofs.by_session.by_session.Goals as goal

pub loop-number-preserved : goal.loop-number-preserved
loop-number-preserved c = λ q.
    noted-at (λ stay. option_map_or (stay_names_pid q) stay false) c.args.stays.now c.loop-number.number c.index-stays-number.result
    (places_of c.loop-number.kept q) (places_of c.note_stay.new.naming q)
    (omega arith) c.index-stays-number.is (c.loop-number.invariant q) (c.in_ok-note_stay.ensures q)

pub returns : goal.returns
returns c = λ q.
    let stays = c.args.stays.now in
    let all : c.loop-number.number ≡ length stays = omega arith in
    c.loop-number.invariant q ∙ ap (places_where (λ k. option_map_or (stay_names_pid q) (slice_get stays k) false)) all
