-- What the fields of a record keep to, beside their types.
use Rattle.std.specs.Prelude.{ℕ, ◌&&◌, nat_le, List, length, Bool, true, Some, None}
use Rattle.aud_tap.specs.declared.records.Event.{Event}
use Rattle.aud_tap.specs.declared.records.StreamRec.{StreamRec}
use Rattle.aud_tap.specs.declared.records.StreamRec.TheVariants.{Ev, Other}
use Rattle.aud_tap.specs.declared.records.NodeRec.{NodeRec}
use Rattle.aud_tap.specs.declared.records.NodeRec.TheVariants.{Start, Take, Takes, Opened, Join, Leave, Broke, Back, Gone}
use Rattle.aud_tap.specs.declared.records.Rec.{Rec}
use Rattle.aud_tap.specs.declared.records.Rec.TheVariants.{Header, Stream, Node, Client}
use Rattle.aud_tap.specs.Limits.{fits, fit_rooms, max_id, max_offset, max_room, max_namespace, max_attachments, max_turn}
use Rattle.aud_tap.specs.Forms.{is_id, is_namespace}

-- an offset
abbrev pub is_offset : List ℕ → Bool
is_offset t = is_id t && fits max_offset t

-- a pid or a sid
abbrev pub is_session_id : List ℕ → Bool
is_session_id t = is_id t && fits max_id t

-- a room
abbrev pub is_room : List ℕ → Bool
is_room = fits max_room

-- a namespace
abbrev pub is_full_namespace : List ℕ → Bool
is_full_namespace t = is_namespace t && fits max_namespace t

-- an event of the stream
abbrev pub event_is_well_formed : Event → Bool
event_is_well_formed e =
    is_offset e.off && is_full_namespace e.nsp && fit_rooms e.rooms && fit_rooms e.except
    && nat_le (length e.bin) max_attachments

-- a record of the stream's tap
abbrev pub stream_is_well_formed : StreamRec → Bool
stream_is_well_formed (Ev e) = event_is_well_formed e
stream_is_well_formed (Other off) = is_offset off

-- a record of a node's tap
abbrev pub node_is_well_formed : NodeRec → Bool
node_is_well_formed (Start None) = true
node_is_well_formed (Start (Some off)) = is_offset off
node_is_well_formed (Take off) = is_offset off
node_is_well_formed (Takes off) = is_offset off
node_is_well_formed (Opened pid sid nsp) = is_session_id pid && is_session_id sid && is_full_namespace nsp
node_is_well_formed (Join pid room) = is_session_id pid && is_room room
node_is_well_formed (Leave pid room) = is_session_id pid && is_room room
node_is_well_formed (Broke pid turn) = is_session_id pid && nat_le turn max_turn
node_is_well_formed (Back pid turn) = is_session_id pid && nat_le turn max_turn
node_is_well_formed (Gone pid) = is_session_id pid

-- any record; of a client's the types say all
abbrev pub is_well_formed : Rec → Bool
is_well_formed (Header of v) = true
is_well_formed (Stream r) = stream_is_well_formed r
is_well_formed (Node r) = node_is_well_formed r
is_well_formed (Client r) = true
