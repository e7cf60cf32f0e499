use Rattle.aud_base.specs.Places.{places_of}
use Rattle.aud_base.proofs.NotedPlaces.{noted-item}
use Rattle.aud_client.specs.Received.{stay_names_pid}
use Rattle.aud_client.proofs.by_session.note_stays.Goals as goal

pub loop-stay-preserved : goal.loop-stay-preserved
loop-stay-preserved c = λ q.
    noted-item c.args.place (stay_names_pid q) c.args.stays.now c.loop-stay.stay-index c.stay-item.result
    (places_of c.args.naming.now q) (places_of c.loop-stay.naming q) (places_of c.note_stay.new.naming q)
    c.loop-stay-test.true c.stay-item.is (c.loop-stay.invariant q) (c.in_ok-note_stay.ensures q)
