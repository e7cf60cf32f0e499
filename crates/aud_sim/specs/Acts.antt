-- What an act does to the state, act by act. Nodes and clients are numbered from 1, their indices from 0.
use Rattle.std.specs.Prelude.{ℕ, ◌+◌, ◌-◌, List, [], ◌∷◌, ◌++◌, length, Option, Some, option_map, slice_get, slice_set}
use Rattle.std.specs.Option.{option_map_or}
use Rattle.aud_tap.specs.declared.records.ClientRec.TheVariants.{TextIn}
use Rattle.aud_tap.specs.declared.records.NodeRec.TheVariants as node
use Rattle.aud_tap.specs.declared.records.Rec.TheVariants as rec
use Rattle.aud_tap.specs.declared.records.StreamRec.TheVariants.{Ev}
use Rattle.aud_sim.specs.declared.act.Act.{Act}
use Rattle.aud_sim.specs.declared.act.Act.TheVariants.{Emit, Volatile, Take, Connect, ConnectUnanswered, ConnectMisnamed, Join, Leave, Cut, Recover, RecoverLagging, RecoverUnknown, RecoverUnanswered, Finish, DropNext, DoubleNext, HoldNext, AlterNext, GarbleNext, ShortenNext, LoseLine, RepeatLine}
use Rattle.aud_sim.specs.declared.bundle.LogFault.{LogFault}
use Rattle.aud_sim.specs.declared.bundle.LogFault.TheVariants as log
use Rattle.aud_sim.specs.declared.client.At.{At}
use Rattle.aud_sim.specs.declared.client.At.TheVariants as at
use Rattle.aud_sim.specs.declared.client.Injected.{Injected}
use Rattle.aud_sim.specs.declared.client.Injected.TheVariants as injected
use Rattle.aud_sim.specs.declared.client.Reply.{Reply}
use Rattle.aud_sim.specs.declared.client.Reply.TheVariants.{Own, OtherSid, Missing}
use Rattle.aud_sim.specs.declared.client.Asked.{Asked}
use Rattle.aud_sim.specs.declared.client.Asked.TheVariants.{LastReceived, Unknown}
use Rattle.aud_sim.specs.declared.client.Session.{Session}
use Rattle.aud_sim.specs.declared.client.Client.{Client}
use Rattle.aud_sim.specs.declared.entry.Entry.{Entry}
use Rattle.aud_sim.specs.Bundle.{Lines, with_line, with_log_fault}
use Rattle.aud_sim.specs.Clients.{next_number}
use Rattle.aud_sim.specs.Cluster.{State}
use Rattle.aud_sim.specs.Delivery.{Sent, replayed, sent_to_guests}
use Rattle.aud_sim.specs.Entries.{entry_of}
use Rattle.aud_sim.specs.Nodes.{NodeState, host, node_joined, nodes_left}
use Rattle.aud_sim.specs.Sessions.{with_opened, with_connection, with_reply, with_asking, with_left, with_change, first_session, session_joined, session_parted, session_back, client_cut, client_finished}
use Rattle.aud_sim.specs.Texts.{stream_name, message, volatile_text}

-- ---- the stream

-- an event is put into the stream, at the position after the last
abbrev pub emitted : List (List ℕ) → List (List ℕ) → List ℕ → List (List ℕ) → State → State
emitted rooms except word bin s =
    let entry = entry_of rooms except word bin (length s.entries + 1) in
    record s { lines = with_line stream_name (rec.Stream (Ev entry.event)) s.lines; entries = s.entries ++ entry ∷ [] }

-- the lines where a node takes its next entry, if there is one
abbrev pub lines_taken : List Entry → NodeState → Lines → Lines
lines_taken entries n lines = option_map_or (λ (entry : Entry). with_line n.name (rec.Node (node.Take entry.event.off)) lines) (slice_get entries n.cursor) lines

-- the node then
abbrev pub node_taken : List Entry → NodeState → NodeState
node_taken entries n = option_map_or (λ (entry : Entry). record n { cursor = n.cursor + 1 }) (slice_get entries n.cursor) n

-- the node with an index, if there is one, takes its next entry, and sends the entry at its cursor
abbrev pub taken : ℕ → State → State
taken index s = option_map_or
    (λ n.
    let n' = node_taken s.entries n in
    let all = sent_to_guests s.entries n'.cursor n'.guests (record { lines = lines_taken s.entries n s.lines; clients = s.clients }) in
    record s { lines = all.lines; nodes = slice_set s.nodes index n'; clients = all.clients })
    (slice_get s.nodes index) s

-- ---- sessions

-- the client opens this session on the node: `open`, `conn`, the reply
abbrev pub lines_opened : Reply → Client → NodeState → Session → Lines → Lines
lines_opened reply client n session lines =
    with_reply reply client.name session (with_connection client.name (next_number client.connections) (with_opened n.name session lines))

abbrev pub client_opened : Session → Client → Client
client_opened session client = record client { connections = next_number client.connections; session = Some session }

-- the lines where a client opens this session on a node, if there is such a node
abbrev pub lines_connected : Reply → Option NodeState → Session → Client → Lines → Lines
lines_connected reply host session client lines = option_map_or (λ n. lines_opened reply client n session lines) host lines

-- the client then
abbrev pub client_connected_to : Option NodeState → Session → Client → Client
client_connected_to host session client = option_map_or (λ n. client_opened session client) host client

-- the nodes, where the session of a number, of the client with an index, is on one of them from now on
abbrev pub nodes_joined : ℕ → ℕ → ℕ → List NodeState → List NodeState
nodes_joined session client index nodes = option_map_or (λ n. slice_set nodes index (node_joined (record { session = session; client = client }) n)) (slice_get nodes index) nodes

-- the client with an index opens the next session on the node with an index, and is told this of it
abbrev pub connected : Reply → ℕ → ℕ → State → State
connected reply client index s =
    let number = next_number s.sessions in
    option_map_or (λ c. record s {
      lines = lines_connected reply (slice_get s.nodes index) (first_session number index) c s.lines;
      nodes = nodes_joined number client index s.nodes;
      clients = slice_set s.clients client (client_connected_to (slice_get s.nodes index) (first_session number index) c);
      sessions = number;
    }) (slice_get s.clients client) s

-- ---- recoveries

-- `conn`, `out`, `back`; the session that comes back is the one after the break
abbrev pub lines_asked : Asked → Client → NodeState → Session → Lines → Lines
lines_asked asked client n session lines =
    with_line n.name (rec.Node (node.Back session.pid session.turn)) (with_asking asked client.name session (with_connection client.name (next_number client.connections) lines))

-- the cursor of the break
abbrev pub break_cursor : At → NodeState → ℕ
break_cursor (at.Away cursor) n = cursor
break_cursor (at.Node index) n = n.cursor

-- the reply, where there is one, after the replayed frames
abbrev pub replied : Reply → Sent → Lines
replied reply sent = option_map_or (λ (session : Session). with_reply reply sent.client.name session sent.lines) sent.client.session sent.lines

-- the entries past the cursor of the break up to the node's that are addressed to the session are replayed
abbrev pub replay : Asked → List Entry → Client → NodeState → Session → Session → Lines → Sent
replay asked entries client n before back lines =
    replayed entries (break_cursor before.at n) (n.cursor - break_cursor before.at n) (record { lines = lines_asked asked client n back lines; client = client_opened back client })

-- the session of the client, if it has one, is recovered on the node with an index
abbrev pub recovered_on : Asked → List Entry → ℕ → NodeState → Client → Lines → Sent
recovered_on asked entries index n client lines = option_map_or
    (λ session. replay asked entries client n session (session_back index session) lines)
    client.session (record { lines = lines; client = client })

-- the node then
abbrev pub node_recovered : ℕ → Client → NodeState → NodeState
node_recovered client_index client n = option_map_or (λ (session : Session). node_joined (record { session = session.number; client = client_index }) n) client.session n

-- the lines where it is recovered, if there is such a node
abbrev pub lines_recovered : Reply → Asked → List Entry → ℕ → List NodeState → Client → Lines → Lines
lines_recovered reply asked entries index nodes client lines = option_map_or (λ n. replied reply (recovered_on asked entries index n client lines)) (slice_get nodes index) lines

-- the client then
abbrev pub client_recovered : Asked → List Entry → ℕ → List NodeState → Client → Lines → Client
client_recovered asked entries index nodes client lines = option_map_or (λ n. (recovered_on asked entries index n client lines).client) (slice_get nodes index) client

-- the nodes then
abbrev pub nodes_recovered : ℕ → ℕ → Client → List NodeState → List NodeState
nodes_recovered client_index index client nodes = option_map_or (λ n. slice_set nodes index (node_recovered client_index client n)) (slice_get nodes index) nodes

-- the session of the client with an index, which asks so, is recovered on the node with an index, and the client is told
-- this of it
abbrev pub recovered : Reply → Asked → ℕ → ℕ → State → State
recovered reply asked client index s = option_map_or (λ c. record s {
  lines = lines_recovered reply asked s.entries index s.nodes c s.lines;
  nodes = nodes_recovered client index c s.nodes;
  clients = slice_set s.clients client (client_recovered asked s.entries index s.nodes c s.lines);
}) (slice_get s.clients client) s

-- ---- one client alone

-- the lines of a change of the client's session, where it has one
abbrev pub for_session : (Session → Lines → Lines) → Client → Lines → Lines
for_session change client lines = option_map_or (λ session. change session lines) client.session lines

abbrev pub lines_joined : List NodeState → List ℕ → Client → Lines → Lines
lines_joined nodes room = for_session (λ session. with_change (host nodes session.at) (node.Join session.pid room))

abbrev pub lines_parted : List NodeState → List ℕ → Client → Lines → Lines
lines_parted nodes room = for_session (λ session. with_change (host nodes session.at) (node.Leave session.pid room))

abbrev pub lines_cut : List NodeState → Client → Lines → Lines
lines_cut nodes client lines = for_session (λ session. with_left client.name (host nodes session.at) (node.Broke session.pid session.turn)) client lines

abbrev pub lines_finished : List NodeState → Client → Lines → Lines
lines_finished nodes client lines = for_session (λ session. with_left client.name (host nodes session.at) (node.Gone session.pid)) client lines

abbrev pub client_joined : List NodeState → List ℕ → Client → Client
client_joined nodes room client = record client { session = option_map (λ (session : Session). session_joined (host nodes session.at) room session) client.session }

abbrev pub client_parted : List NodeState → List ℕ → Client → Client
client_parted nodes room client = record client { session = option_map (λ (session : Session). session_parted (host nodes session.at) room session) client.session }

-- the nodes, where the client's session leaves the one that it is on
abbrev pub nodes_after_leaving : Client → List NodeState → List NodeState
nodes_after_leaving client nodes = option_map_or (λ (session : Session). nodes_left session.number session.at nodes) client.session nodes

-- the state with a client, and what else changed with it
abbrev pub with_client : ℕ → Client → List NodeState → Lines → State → State
with_client index client nodes lines s = record s { lines = lines; nodes = nodes; clients = slice_set s.clients index client }

-- a change of the client with an index, if there is one
abbrev pub for_client : ℕ → (Client → State → State) → State → State
for_client index change s = option_map_or (λ c. change c s) (slice_get s.clients index) s

-- an event of a word alone
abbrev pub volatile_sent : ℕ → List ℕ → State → State
volatile_sent index word s = option_map_or
    (λ (c : Client). record s { lines = with_line c.name (rec.Client (TextIn (message (volatile_text word)))) s.lines })
    (slice_get s.clients index) s

abbrev pub joined : ℕ → List ℕ → State → State
joined index room s = for_client index (λ c s. with_client index (client_joined s.nodes room c) s.nodes (lines_joined s.nodes room c s.lines) s) s

abbrev pub parted : ℕ → List ℕ → State → State
parted index room s = for_client index (λ c s. with_client index (client_parted s.nodes room c) s.nodes (lines_parted s.nodes room c s.lines) s) s

abbrev pub cut : ℕ → State → State
cut index s = for_client index (λ c s. with_client index (client_cut s.nodes c) (nodes_after_leaving c s.nodes) (lines_cut s.nodes c s.lines) s) s

abbrev pub finished : ℕ → State → State
finished index s = for_client index (λ c s. with_client index (client_finished c) (nodes_after_leaving c s.nodes) (lines_finished s.nodes c s.lines) s) s

-- a fault waits for the client's next frame
abbrev pub injected_in : ℕ → Injected → State → State
injected_in index fault s = option_map_or (λ c. record s { clients = slice_set s.clients index (record c { injected = fault }) }) (slice_get s.clients index) s

-- ---- the nodes' logs

-- a fault waits for the next line of a node's log
abbrev pub spoilt : LogFault → State → State
spoilt fault s = record s { lines = with_log_fault fault s.lines }

-- ---- the table

-- a fault waits, where the act says so
abbrev pub awaited : Act → State → State
awaited (DropNext client) s = injected_in (client - 1) injected.DropNext s
awaited (DoubleNext client) s = injected_in (client - 1) injected.DoubleNext s
awaited (HoldNext client) s = injected_in (client - 1) injected.HoldNext s
awaited (AlterNext client) s = injected_in (client - 1) injected.AlterNext s
awaited (GarbleNext client) s = injected_in (client - 1) injected.GarbleNext s
awaited (ShortenNext client) s = injected_in (client - 1) injected.ShortenNext s
awaited LoseLine s = spoilt log.LoseLine s
awaited RepeatLine s = spoilt log.RepeatLine s
awaited act s = s

-- the state after an act: what it does at once, or that a fault waits
abbrev pub after : Act → State → State
after (Emit rooms except word bin) s = emitted rooms except word bin s
after (Volatile client word) s = volatile_sent (client - 1) word s
after (Take n) s = taken (n - 1) s
after (Connect client n) s = connected Own (client - 1) (n - 1) s
after (ConnectUnanswered client n) s = connected Missing (client - 1) (n - 1) s
after (ConnectMisnamed client n) s = connected OtherSid (client - 1) (n - 1) s
after (Join client room) s = joined (client - 1) room s
after (Leave client room) s = parted (client - 1) room s
after (Cut client) s = cut (client - 1) s
after (Recover client n) s = recovered Own LastReceived (client - 1) (n - 1) s
after (RecoverLagging client n) s = recovered Own LastReceived (client - 1) (n - 1) s
after (RecoverUnknown client n) s = recovered Own Unknown (client - 1) (n - 1) s
after (RecoverUnanswered client n) s = recovered Missing LastReceived (client - 1) (n - 1) s
after (Finish client) s = finished (client - 1) s
after act s = awaited act s
