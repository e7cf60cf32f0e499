-- The state of a simulated cluster.
use Rattle.std.specs.Prelude.{ℕ, zero, suc, List, [], ◌∷◌, ◌++◌, None, codes}
use Rattle.aud_tap.specs.declared.records.TapKind.TheVariants as of
use Rattle.aud_tap.specs.declared.records.NodeRec.TheVariants.{Start}
use Rattle.aud_tap.specs.declared.records.Version.TheVariants.{One}
use Rattle.aud_tap.specs.declared.records.Rec.{Rec}
use Rattle.aud_tap.specs.declared.records.Rec.TheVariants as rec
use Rattle.aud_sim.specs.declared.client.Client.{Client}
use Rattle.aud_sim.specs.declared.client.Injected.TheVariants.{Nothing}
use Rattle.aud_sim.specs.declared.cluster.Cluster.{Cluster}
use Rattle.aud_sim.specs.declared.entry.Entry.{Entry}
use Rattle.aud_sim.specs.Bundle.{Lines, no_lines, with_line}
use Rattle.aud_sim.specs.Nodes.{NodeState}
use Rattle.aud_sim.specs.Texts.{name_of, stream_name}

-- the lines so far, the entries of the stream, the nodes, the clients, and how many sessions were opened
pub record State : Type 0 where
  pub lines : Lines
  pub entries : List Entry
  pub nodes : List NodeState
  pub clients : List Client
  pub sessions : ℕ

-- the state that a cluster is in
abbrev pub seen : Cluster → State
seen cluster = record {
  lines = cluster.bundle;
  entries = cluster.entries.items;
  nodes = cluster.nodes.items;
  clients = cluster.clients.items;
  sessions = cluster.sessions;
}

-- ---- the first state

-- so many nodes, none of which has taken an entry, in the order of their numbers from 1
abbrev pub first_nodes : ℕ → List NodeState
first_nodes zero = []
first_nodes (suc count) = first_nodes count ++ record { name = name_of (codes "n") (suc count); cursor = 0; guests = [] } ∷ []

-- so many clients, none of which has a session, in the order of their numbers from 1
abbrev pub first_clients : ℕ → List Client
first_clients zero = []
first_clients (suc count) = first_clients count ++ record { name = name_of (codes "c") (suc count); connections = 0; injected = Nothing; session = None } ∷ []

-- this record in each of so many taps, which are named by this letter and their numbers from 1
abbrev pub with_each : List ℕ → Rec → ℕ → Lines → Lines
with_each letter of_each zero lines = lines
with_each letter of_each (suc count) lines = with_line (name_of letter (suc count)) of_each (with_each letter of_each count lines)

-- all headers, and then that each node begins at the stream's start
abbrev pub first_lines : ℕ → ℕ → Lines
first_lines nodes clients =
    with_each (codes "n") (rec.Node (Start None)) nodes
    (with_each (codes "c") (rec.Header of.Client One) clients
    (with_each (codes "n") (rec.Header of.Node One) nodes
    (with_line stream_name (rec.Header of.Stream One) no_lines)))

-- so many nodes and clients, before the first act
abbrev pub first_state : ℕ → ℕ → State
first_state nodes clients = record {
  lines = first_lines nodes clients;
  entries = [];
  nodes = first_nodes nodes;
  clients = first_clients clients;
  sessions = 0;
}
