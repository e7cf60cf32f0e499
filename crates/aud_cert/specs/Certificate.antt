-- Certificates, as contracts see them, and the logs that they speak of.
use Rattle.std.specs.Prelude.{◌≡◌, ℕ, List, length, unwrap_or}
use Rattle.std.specs.List.{All}
use Rattle.aud_tap.specs.declared.records.NodeRec.{NodeRec}
use Rattle.aud_node.specs.Stream.{Text}
use Rattle.aud_node.specs.Lists.{between}
use Rattle.aud_node.specs.Names.{place_of}
use Rattle.aud_node.specs.Cluster.{Cluster, node_log}
use Rattle.aud_rooms.specs.Turns.{Turn}
use Rattle.aud_rooms.specs.Spans.{RoomSpan}

-- a turn: the node's tap by its name, the records from one number on and before another, and the node's cursor after
-- the first and after the last of them
pub record TurnSeen : Type 0 where
  pub node : Text
  pub from : ℕ
  pub to : ℕ
  pub low : ℕ
  pub high : ℕ
  pub recs : List NodeRec

-- a certificate: the session, the client's tap by its name, the turns, and the spans of the rooms
pub record CertificateSeen : Type 0 where
  pub pid : Text
  pub client : Text
  pub turns : List TurnSeen
  pub spans : List RoomSpan

-- the place of the tap with this name; the place after all taps where there is none
abbrev pub place_named : Cluster → Text → ℕ
place_named c name = unwrap_or (place_of c.taps name) (length c.taps)

-- where the turn stands in the logs
abbrev pub turn_at : Cluster → TurnSeen → Turn
turn_at c t = record { node = place_named c t.node; from = t.from; to = t.to }

-- the records of the node with this name; none where no tap with it is a node's
abbrev pub log_named : Cluster → Text → List NodeRec
log_named c name = node_log c (place_named c name)

-- of those, the records from one number on and before another
abbrev pub recs_named : Cluster → Text → ℕ → ℕ → List NodeRec
recs_named c name from to = between (log_named c name) from to

-- the turn's records are those that it names in these logs
abbrev pub IsTurnOver : Cluster → TurnSeen → Type 0
IsTurnOver c t = t.recs ≡ recs_named c t.node t.from t.to

-- the records of each turn are those that it names in these logs
abbrev pub IsOver : Cluster → CertificateSeen → Type 0
IsOver c cert = All (IsTurnOver c) cert.turns
