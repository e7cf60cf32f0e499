-- An entry is sent to the sessions that it is addressed to. Positions count from 1.
use Rattle.std.specs.Prelude.{ℕ, zero, suc, List, [], ◌∷◌, slice_get, slice_set}
use Rattle.std.specs.Option.{option_map_or}
use Rattle.aud_sim.specs.declared.client.Client.{Client}
use Rattle.aud_sim.specs.declared.entry.Entry.{Entry}
use Rattle.aud_sim.specs.declared.node.Guest.{Guest}
use Rattle.aud_sim.specs.Bundle.{Lines}
use Rattle.aud_sim.specs.Clients.{lines_sent, client_sent}
use Rattle.aud_sim.specs.Entries.{entry_at}

-- the lines so far, and a client
pub record Sent : Type 0 where
  pub lines : Lines
  pub client : Client

-- after the entry at a position was sent to the client, if it is addressed to its session
abbrev pub sent_to : List Entry → ℕ → Sent → Sent
sent_to entries position s = option_map_or
    (λ entry. record { lines = lines_sent entries entry s.client s.lines; client = client_sent position entry s.client })
    (entry_at entries position) s

-- after so many entries past a position were
abbrev pub replayed : List Entry → ℕ → ℕ → Sent → Sent
replayed entries from zero s = s
replayed entries from (suc count) s = replayed entries (suc from) count (sent_to entries (suc from) s)

-- the lines so far, and all clients
pub record SentToAll : Type 0 where
  pub lines : Lines
  pub clients : List Client

-- the client with this index is as it is after this
abbrev pub with_sent_client : List Client → ℕ → Sent → SentToAll
with_sent_client clients index s = record { lines = s.lines; clients = slice_set clients index s.client }

-- after the entry at a position was sent to the client of a session on the node, if it is addressed to the session
abbrev pub sent_to_guest : List Entry → ℕ → ℕ → SentToAll → SentToAll
sent_to_guest entries position index s = option_map_or
    (λ client. with_sent_client s.clients index (sent_to entries position (record { lines = s.lines; client = client })))
    (slice_get s.clients index) s

-- after it was sent to the sessions on the node that it is addressed to, in their order
abbrev pub sent_to_guests : List Entry → ℕ → List Guest → SentToAll → SentToAll
sent_to_guests entries position [] s = s
sent_to_guests entries position (guest ∷ guests) s = sent_to_guests entries position guests (sent_to_guest entries position guest.client s)
