-- The certificate that a text names over the logs.
use Rattle.std.specs.Prelude.{nat_le, nat_lt, ◌&&◌, List, [], ◌∷◌, length, Bool, true, false, is_some, option_and_then, Result, Ok}
use Rattle.std.specs.List.{list_all}
use Rattle.serde_json.specs.Data.{Data}
use Rattle.aud_tap.specs.Json.{json_or}
use Rattle.aud_tap.specs.TapName.{is_tap_name}
use Rattle.aud_tap.specs.WellFormed.{is_session_id}
use Rattle.aud_node.specs.Stream.{Text}
use Rattle.aud_node.specs.Names.{place_of}
use Rattle.aud_node.specs.NodeTaps.{node_at, client_at}
use Rattle.aud_node.specs.Cluster.{Cluster}
use Rattle.aud_rooms.specs.Spans.{RoomSpan}
use Rattle.aud_cert.specs.declared.text_fault.CertFault.{CertFault}
use Rattle.aud_cert.specs.declared.text_fault.CertFault.TheVariants.{Syntax, UnknownTap, Range}
use Rattle.aud_cert.specs.Certificate.{TurnSeen, CertificateSeen, log_named, recs_named}
use Rattle.aud_cert.specs.Steps.{◌>>=◌, guard, each}
use Rattle.aud_cert.specs.Parsed.{ParsedTurn, ParsedCertificate, parsed_certificate}

-- ---- K1: the text

-- the JSON value of a certificate's text, in UTF-8 (RFC 8259)
abbrev pub certificate_json : Text → Result Data CertFault
certificate_json = json_or Syntax

-- there is a turn
abbrev pub has_turns : List ParsedTurn → Bool
has_turns [] = false
has_turns (t ∷ ts) = true

-- at least one turn, and a pid and names of the bytes and the lengths that a bundle gives them
abbrev pub is_formed : ParsedCertificate → Bool
is_formed parsed =
    has_turns parsed.turns && is_session_id parsed.pid && is_tap_name parsed.client
    && list_all (λ (t : ParsedTurn). is_tap_name t.node) parsed.turns

-- ---- K2: the taps

-- the tap with this name is a node's
abbrev pub is_node : Cluster → Text → Bool
is_node c name = is_some (option_and_then (node_at c) (place_of c.taps name))

-- the tap with this name is a client's
abbrev pub is_client : Cluster → Text → Bool
is_client c name = is_some (option_and_then (client_at c) (place_of c.taps name))

-- the turn with its records
unfoldable pub turn_over : Cluster → ParsedTurn → Result TurnSeen CertFault
turn_over c t = do
  known ← guard UnknownTap (is_node c t.node)
  Ok (record { node = t.node; from = t.from; to = t.to; low = t.low; high = t.high; recs = recs_named c t.node t.from t.to })

-- the certificate with its records
unfoldable pub certificate_over : Cluster → ParsedCertificate → Result CertificateSeen CertFault
certificate_over c parsed = do
  known ← guard UnknownTap (is_client c parsed.client)
  turns ← each (turn_over c) parsed.turns
  Ok (record { pid = parsed.pid; client = parsed.client; turns = turns; spans = parsed.spans })

-- ---- K3: the numbers

-- some records, none past the log's end, and positions in order, none past the stream's end
abbrev pub is_turn_within : Cluster → TurnSeen → Bool
is_turn_within c t =
    nat_lt t.from t.to && nat_le t.to (length (log_named c t.node))
    && nat_le t.low t.high && nat_le t.high (length c.stream)

-- some positions, none past the stream's end
abbrev pub is_span_within : Cluster → RoomSpan → Bool
is_span_within c s = nat_le 1 s.first && nat_le s.first s.last && nat_le s.last (length c.stream)

-- so is each turn and each span
abbrev pub is_certificate_within : Cluster → CertificateSeen → Bool
is_certificate_within c cert = list_all (is_turn_within c) cert.turns && list_all (is_span_within c) cert.spans

-- ---- all of it

-- the certificate that JSON tells, or the first of `Syntax`, `UnknownTap` and `Range` that holds of all of it
abbrev pub certificate_in : Cluster → Data → Result CertificateSeen CertFault
certificate_in c d = do
  parsed ← parsed_certificate d
  formed ← guard Syntax (is_formed parsed)
  cert ← certificate_over c parsed
  within ← guard Range (is_certificate_within c cert)
  Ok cert

-- the certificate, or the first of `Syntax`, `UnknownTap` and `Range` that holds of the whole text
unfoldable pub certificate_of : Cluster → Text → Result CertificateSeen CertFault
certificate_of c text = do
  d ← certificate_json text
  certificate_in c d
