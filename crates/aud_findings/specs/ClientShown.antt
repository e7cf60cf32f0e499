-- The client that had a session.
use Rattle.std.specs.Prelude.{ℕ, List, [], ◌∷◌, Option, Some, None, slice_get, if◌then◌else◌}
use Rattle.std.specs.Option.{option_map, option_and_then}
use Rattle.aud_tap.specs.declared.taps.Tap.{Tap}
use Rattle.aud_node.specs.Cluster.{Cluster}
use Rattle.aud_node.specs.Stream.{Text}
use Rattle.aud_client.specs.Received.{stays_naming}
use Rattle.aud_client.specs.Replies.{naming_places}
use Rattle.aud_client.specs.StaySeen.{StaySeen}
use Rattle.aud_explanation.specs.declared.client.Client.{Client}
use Rattle.aud_explanation.specs.LongRows.{is_fault}
use Rattle.aud_rows.specs.Seen.{RowSeen, SaysSeen, Asks, Reply, Got, Lost, NoPacket}
use Rattle.aud_rows.specs.StayRows.{stays_at}

-- a client: the name of its tap, the namespace of the session, and the connection on which the fault shows
pub record ClientSeen : Type 0 where
  pub tap : Text
  pub nsp : Text
  pub conn : Option ℕ

abbrev pub client_seen : Client → ClientSeen
client_seen client = record { tap = client.tap.now; nsp = client.nsp.now; conn = client.conn }

-- the connection that a record is of, if it is a client's
abbrev pub conn_in : SaysSeen → Option ℕ
conn_in (Asks conn pid off) = Some conn
conn_in (Reply conn sid pid) = Some conn
conn_in (Got conn position off) = Some conn
conn_in (Lost conn) = Some conn
conn_in (NoPacket conn) = Some conn
conn_in _ = None

-- the connection of the first of the rows at which the fault shows
abbrev pub fault_conn : List RowSeen → Option ℕ
fault_conn [] = None
fault_conn (row ∷ rows) = if is_fault row.role then conn_in row.says else fault_conn rows

-- the only place, if there is one alone
abbrev pub only_of : List ℕ → Option ℕ
only_of (place ∷ []) = Some place
only_of _ = None

-- the client of the tap at the place: the name of the tap, and the namespace of its first stay that names the session
abbrev pub client_at : Cluster → Text → List RowSeen → ℕ → Option ClientSeen
client_at c pid rows place =
    option_and_then
    (λ (tap : Tap). option_map (λ (stay : StaySeen). record { tap = tap.name; nsp = stay.nsp; conn = fault_conn rows }) (slice_get (stays_naming pid (stays_at c place)) 0))
    (slice_get c.taps place)

-- the client that had the session, where just one tap has a reply that names it
abbrev pub client_of : Cluster → Text → List RowSeen → Option ClientSeen
client_of c pid rows = option_and_then (client_at c pid rows) (only_of (naming_places c.taps pid))
