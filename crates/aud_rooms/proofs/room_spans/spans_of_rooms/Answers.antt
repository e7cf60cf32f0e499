use Rattle.std.specs.Map.Iter.{deref_pair}
use Rattle.std.proofs.lemmas.Map.Iter.{btree_map_turn}
use Rattle.aud_rooms.proofs.Kept.{by_room_total}
use Rattle.aud_rooms.proofs.room_spans.spans_of_rooms.Goals as goal

pub push_spans-requires : goal.push_spans-requires
push_spans-requires c =
    let gives = c.into_iter-room-iterator.ensures.into_iter_gives in
    let turn = btree_map_turn deref_pair c.loop-room.yielded c.into_iter-room-iterator.result c.loop-room.room-iterator c.next.new.self c.next.result
    (c.in-Some.room, c.in-Some.holding) c.loop-room.yielded_by c.in-Some.is c.next.ensures.steps by_room_total c.args.rooms.now gives.0 gives.5 in
    c.requires c.in-Some.room.now.now c.in-Some.holding.now turn.1
