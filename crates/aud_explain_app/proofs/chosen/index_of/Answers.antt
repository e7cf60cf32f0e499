use Rattle.std.proofs.Common.{◌≡◌, false, subst, arith}
use Rattle.std.specs.Option.{option_map_or}
use Rattle.std.specs.Str.{bytes_eq}
use Rattle.aud_base.specs.Places.{noted, places_of}
use Rattle.aud_base.proofs.NotedPlaces.{noted-at}
use Rattle.aud_explain_app.specs.Chosen.{is_of}
use Rattle.aud_explain_app.proofs.chosen.index_of.Goals as goal

pub loop-number-preserved : goal.loop-number-preserved
loop-number-preserved c = λ q.
    noted-at (λ session. option_map_or (is_of q) session false) c.args.sessions.now c.loop-number.number c.index-sessions-number.result
    (places_of c.loop-number.index q) (places_of c.note.new.self q)
    (omega arith) c.index-sessions-number.is (c.loop-number.invariant q)
    (subst (λ pid. places_of c.note.new.self q ≡ noted c.loop-number.number (bytes_eq pid q) (places_of c.loop-number.index q)) c.as_str.ensures (c.in_ok-note.ensures.places q))
