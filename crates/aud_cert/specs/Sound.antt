-- Certificates that come back from their text.
use Rattle.std.specs.Prelude.{◌≡◌, ◌&&◌, Bool, true, map}
use Rattle.std.specs.List.{list_all}
use Rattle.aud_node.specs.Cluster.{Cluster}
use Rattle.aud_cert.specs.Certificate.{TurnSeen, CertificateSeen, IsOver}
use Rattle.aud_cert.specs.Parsed.{ParsedTurn, ParsedCertificate}
use Rattle.aud_cert.specs.Reading.{is_formed, is_node, is_client, is_certificate_within}

-- the turn without its records
abbrev pub turn_without_records : TurnSeen → ParsedTurn
turn_without_records t = record { node = t.node; from = t.from; to = t.to; low = t.low; high = t.high }

-- the certificate without the records of its turns
abbrev pub without_records : CertificateSeen → ParsedCertificate
without_records cert = record { pid = cert.pid; client = cert.client; turns = map turn_without_records cert.turns; spans = cert.spans }

-- the client is a client tap's name, and each turn's node a node tap's
abbrev pub names_taps : Cluster → CertificateSeen → Bool
names_taps c cert = is_client c cert.client && list_all (λ (t : TurnSeen). is_node c t.node) cert.turns

-- nothing of it is refused over these logs, and its records are theirs
pub record IsSound (c : Cluster) (cert : CertificateSeen) : Type 0 where
  pub formed : is_formed (without_records cert) ≡ true
  pub taps : names_taps c cert ≡ true
  pub within : is_certificate_within c cert ≡ true
  pub over : IsOver c cert
