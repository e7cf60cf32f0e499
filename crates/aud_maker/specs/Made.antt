-- The certificate of a session.
use Rattle.std.specs.Prelude.{◌≡◌, ℕ, Bool, true, List, [], ◌∷◌, map, Option, Some, None, slice_get}
use Rattle.std.specs.List.{list_all}
use Rattle.aud_tap.specs.declared.taps.Tap.{Tap}
use Rattle.aud_node.specs.Stream.{Text}
use Rattle.aud_node.specs.Cluster.{Cluster, node_log}
use Rattle.aud_node.specs.Ordered.{is_ordered}
use Rattle.aud_client.specs.Replies.{naming_places}
use Rattle.aud_rooms.specs.Turns.{Who, Turn, slice_of, IsChain}
use Rattle.aud_rooms.specs.Spans.{AreSpansOfTurns}
use Rattle.aud_cert.specs.Certificate.{TurnSeen, CertificateSeen}

-- the name of a tap, and an empty one of none
abbrev pub tap_name : Option Tap → Text
tap_name None = []
tap_name (Some tap) = tap.name

-- the name of the tap at this place
abbrev pub name_at : Cluster → ℕ → Text
name_at c place = tap_name (slice_get c.taps place)

-- the turn with its node's name, its cursors and its records
abbrev pub turn_seen : Cluster → Turn → TurnSeen
turn_seen c t =
    record {
      node = name_at c t.node;
      from = t.from;
      to = t.to;
      low = (slice_of c t).low;
      high = (slice_of c t).high;
      recs = (slice_of c t).recs;
    }

-- the turn's node is ordered
abbrev pub is_turn_ordered : Cluster → Turn → Bool
is_turn_ordered c t = is_ordered c.stream (node_log c t.node)

-- the name is that of the one client tap that names the pid
pub record IsClient (c : Cluster) (pid client : Text) : Type 0 where
  pub place : ℕ
  pub only : naming_places c.taps pid ≡ place ∷ []
  pub name_is : client ≡ name_at c place

-- the certificate is that of the session with this pid and sid, of this client's tap, and of these turns
pub record IsCertificateOf (c : Cluster) (pid sid client : Text) (turns : List Turn) (cert : CertificateSeen) : Type 0 where
  pub pid_is : cert.pid ≡ pid
  pub client_is : cert.client ≡ client
  pub turns_are : cert.turns ≡ map (turn_seen c) turns
  pub spans_are : (nsp : Text) → AreSpansOfTurns c.stream (record { pid = pid; sid = sid; nsp = nsp }) (map (slice_of c) turns) cert.spans

-- the certificate has all turns of the session, whose nodes are ordered, the spans of its rooms, and the name of the
-- one client tap
pub record IsMade (c : Cluster) (pid : Text) (cert : CertificateSeen) : Type 0 where
  pub who : Who
  pub turns : List Turn
  pub names : who.pid ≡ pid
  pub chain : IsChain c who turns
  pub ordered : list_all (is_turn_ordered c) turns ≡ true
  pub client : IsClient c pid cert.client
  pub is : IsCertificateOf c pid who.sid cert.client turns cert
