use Rattle.std.proofs.Common.{◌≡◌, List, ℕ, map}
use Rattle.std.proofs.lemmas.Iterator.{YieldsList}
use Rattle.aud_eio.specs.Packet.{engine_view}
use Rattle.aud_eio.specs.Body.{engine_packets_of, packets_of_texts}
use Rattle.aud_eio.proofs.Bodies.{after}
use Rattle.aud_eio.proofs.body.decode_payload.Given as goal

abbrev pub invariant-loop-piece : goal.invariant-loop-piece
invariant-loop-piece l =
    (goal.iterator-loop-piece).can_next l.piece-iterator ×
    (goal.iterator-loop-piece).is_finite l.piece-iterator ×
    ((rest : List (List ℕ)) × YieldsList (goal.iterator-loop-piece).next_gives (λ piece. piece.now) l.piece-iterator rest
    × (engine_packets_of l.fn.body ≡ after (map engine_view l.packets.items) (packets_of_texts rest)))
