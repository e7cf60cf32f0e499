-- The session of a made certificate.
use Rattle.aud_node.specs.Cluster.{Cluster}
use Rattle.aud_cert.specs.Certificate.{CertificateSeen}
use Rattle.aud_maker.specs.Made.{IsMade}
use Rattle.aud_verdict.specs.Session.{SessionLogs}

-- the session that the certificate was made for, its turns, and the place of its client's tap
abbrev pub session_made : (c : Cluster) (cert : CertificateSeen) → IsMade c cert.pid cert → SessionLogs
session_made c cert made = record { who = made.who; turns = made.turns; client = made.client.place }
