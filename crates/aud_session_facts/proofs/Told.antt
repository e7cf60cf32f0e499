-- What is told of the turns of a certificate.
use Rattle.std.proofs.Common.{◌≡◌, List, map, take, Some, option_map, slice_get, sym, ap, ◌∙◌}
use Rattle.std.specs.Option.{option_and_then, option_or}
use Rattle.std.proofs.lemmas.List.{take-map}
use Rattle.std.proofs.lemmas.Option.{slice_get-map}
use Rattle.aud_node.specs.Cluster.{Cluster}
use Rattle.aud_node.specs.Stream.{Text}
use Rattle.aud_rooms.specs.Turns.{Turn}
use Rattle.aud_cert.specs.Certificate.{TurnSeen, turn_at}
use Rattle.aud_session_facts.specs.declared.reach.Reach.{Reach}
use Rattle.aud_session_facts.specs.Changes.{last_change_in, last_change_over, turn_before, last_change_before}

-- the last change in the reach's turn, or else in the turns before it, is the last before the reach
pub change_told : (c : Cluster) (pid room : Text) (turns before : List TurnSeen) (reach : Reach) (t : TurnSeen) (cut : Turn)
    → slice_get turns reach.turn ≡ Some t → cut ≡ turn_before (turn_at c t) reach.number → before ≡ take reach.turn turns
    → option_or (last_change_in c pid room cut) (last_change_over c pid room (map (turn_at c) before)) ≡ last_change_before c pid room (map (turn_at c) turns) reach
change_told c pid room turns before reach t cut at cut_is before_is =
    ap (λ x. option_or (last_change_in c pid room x) (last_change_over c pid room (map (turn_at c) before))) cut_is
    ∙ ap (λ ts. option_or (last_change_in c pid room (turn_before (turn_at c t) reach.number)) (last_change_over c pid room ts)) (ap (map (turn_at c)) before_is ∙ sym (take-map (turn_at c) reach.turn turns))
    ∙ sym
    (ap
    (option_and_then
    (λ (x : Turn). option_or (last_change_in c pid room (turn_before x reach.number)) (last_change_over c pid room (take reach.turn (map (turn_at c) turns)))))
    (slice_get-map (turn_at c) turns reach.turn ∙ ap (option_map (turn_at c)) at))
