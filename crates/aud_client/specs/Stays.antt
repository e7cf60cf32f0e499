-- The stays that the packets of one connection form, by the place of each packet.
use Rattle.std.specs.Prelude.{Bool, true, false, not, ◌&&◌, List, [], ◌∷◌, ◌++◌, if◌then◌else◌}
use Rattle.std.specs.List.{filter, list_any}
use Rattle.std.specs.Str.{bytes_eq}
use Rattle.aud_sio.specs.declared.kind.PacketKind.{PacketKind}
use Rattle.aud_sio.specs.declared.kind.PacketKind.TheVariants.{Disconnect}
use Rattle.aud_sio.specs.Packet.{PacketSeen}
use Rattle.aud_node.specs.Stream.{Text}
use Rattle.aud_client.specs.TapPackets.{TapPacket, FromServer, FromClient}
use Rattle.aud_client.specs.Replies.{is_connect_kind}

abbrev pub is_disconnect_kind : PacketKind → Bool
is_disconnect_kind Disconnect = true
is_disconnect_kind _ = false

-- the packet itself, without its attachments and its way
abbrev pub packet_in : TapPacket → PacketSeen
packet_in (FromServer whole) = whole.packet
packet_in (FromClient packet) = packet

abbrev pub is_from_server : TapPacket → Bool
is_from_server (FromServer whole) = true
is_from_server (FromClient packet) = false

abbrev pub namespace : TapPacket → Text
namespace p = (packet_in p).nsp

-- a CONNECT, in either direction
abbrev pub is_connect : TapPacket → Bool
is_connect p = is_connect_kind (packet_in p).kind

-- a DISCONNECT, in either direction
abbrev pub is_disconnect : TapPacket → Bool
is_disconnect p = is_disconnect_kind (packet_in p).kind

-- the server's CONNECT
abbrev pub is_reply : TapPacket → Bool
is_reply p = is_connect p && is_from_server p

-- the packets of the namespace
abbrev pub in_namespace : Text → List TapPacket → List TapPacket
in_namespace nsp packets = filter (λ p. bytes_eq (namespace p) nsp) packets

-- whether the packet goes on with a stay of these packets: not after a DISCONNECT, and no CONNECT where it has a reply
abbrev pub goes_on : List TapPacket → TapPacket → Bool
goes_on [] q = false
goes_on (p ∷ ps) q = not (list_any is_disconnect (p ∷ ps)) && not (is_connect q && list_any is_reply (p ∷ ps))

-- a stay of which these packets are the front, with what follows of it among the packets after, all of one namespace
abbrev pub whole_stay : List TapPacket → List TapPacket → List TapPacket
whole_stay stay [] = stay
whole_stay stay (q ∷ after) = if goes_on stay q then whole_stay (stay ++ q ∷ []) after else stay

-- the stay in which the packets end, all of one namespace, after a stay that stands open
abbrev pub last_stay : List TapPacket → List TapPacket → List TapPacket
last_stay stay [] = stay
last_stay stay (q ∷ after) = last_stay (if goes_on stay q then stay ++ q ∷ [] else q ∷ []) after

-- the stay in which the namespace's packets end
abbrev pub stay_after : Text → List TapPacket → List TapPacket
stay_after nsp packets = last_stay [] (in_namespace nsp packets)

-- the stay of the packet with these in front of it and these after it: those of its namespace alone count
abbrev pub stay_at : List TapPacket → TapPacket → List TapPacket → List TapPacket
stay_at before p after = whole_stay (stay_after (namespace p) (before ++ p ∷ [])) (in_namespace (namespace p) after)

-- whether the packet is the first one of its stay
abbrev pub begins_stay : List TapPacket → TapPacket → Bool
begins_stay before p = not (goes_on (stay_after (namespace p) before) p)

-- the stays that begin after these packets
abbrev pub stays_from : List TapPacket → List TapPacket → List (List TapPacket)
stays_from before [] = []
stays_from before (p ∷ after) =
    if begins_stay before p
    then stay_at before p after ∷ stays_from (before ++ p ∷ []) after
    else stays_from (before ++ p ∷ []) after

-- the stays of a connection's packets, in the order of their first packet
abbrev pub stays : List TapPacket → List (List TapPacket)
stays packets = stays_from [] packets
