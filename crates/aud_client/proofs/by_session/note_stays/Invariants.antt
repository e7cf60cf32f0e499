use Rattle.std.proofs.Common.{◌≡◌, take}
use Rattle.std.specs.List.{list_any}
use Rattle.aud_base.specs.Places.{noted, places_of}
use Rattle.aud_node.specs.Stream.{Text}
use Rattle.aud_client.specs.Received.{stay_names_pid}
use Rattle.aud_client.proofs.by_session.note_stays.Given as goal

abbrev pub invariant-loop-stay : goal.invariant-loop-stay
invariant-loop-stay l = (q : Text) → places_of l.naming q ≡ noted l.place (list_any (stay_names_pid q) (take l.stay-index l.stays)) (places_of l.fn.naming q)
