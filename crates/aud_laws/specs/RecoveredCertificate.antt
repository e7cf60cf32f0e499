-- A certificate of the recovered session.
use Rattle.std.specs.Prelude.{[], ◌∷◌, codes}
use Rattle.aud_node.specs.Lists.{between}
use Rattle.aud_laws.specs.Recovery.{who, first_node, second_node}
use Rattle.aud_cert.specs.Certificate.{CertificateSeen}

-- both turns of the session, the tap of its client, and its two rooms, which it has at both positions
abbrev pub certificate : CertificateSeen
certificate =
    record {
      pid = who.pid;
      client = codes "c1";
      turns =
          record { node = codes "a"; from = 1; to = 5; low = 0; high = 1; recs = between first_node 1 5 }
          ∷ record { node = codes "b"; from = 3; to = 4; low = 2; high = 2; recs = between second_node 3 4 } ∷ [];
      spans = record { room = codes "r"; first = 1; last = 2 } ∷ record { room = codes "s1"; first = 1; last = 2 } ∷ [];
    }
