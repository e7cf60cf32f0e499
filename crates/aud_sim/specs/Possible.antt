-- Which acts are possible in a state, act by act. Nodes and clients are numbered from 1.
use Rattle.std.specs.Prelude.{ℕ, ◌-◌, ◌==◌, ◌&&◌, ◌||◌, nat_le, nat_lt, not, List, length, Bool, true, false, Option, Some, None, is_some, option_map, option_and_then, slice_get, if◌then◌else◌}
use Rattle.std.specs.List.{list_all}
use Rattle.std.specs.Option.{option_map_or}
use Rattle.aud_tap.specs.Limits.{max_turn}
use Rattle.aud_reader.specs.Bundle.{max_entries, max_pids}
use Rattle.aud_sim.specs.declared.act.Act.{Act}
use Rattle.aud_sim.specs.declared.act.Act.TheVariants.{Emit, Volatile, Take, Connect, ConnectUnanswered, ConnectMisnamed, Join, Leave, Cut, Recover, RecoverLagging, RecoverUnknown, RecoverUnanswered, Finish, DropNext, DoubleNext, HoldNext, AlterNext, GarbleNext, ShortenNext, LoseLine, RepeatLine}
use Rattle.aud_sim.specs.declared.client.At.{At}
use Rattle.aud_sim.specs.declared.client.At.TheVariants as at
use Rattle.aud_sim.specs.declared.client.Injected.{Injected}
use Rattle.aud_sim.specs.declared.client.Injected.TheVariants as injected
use Rattle.aud_sim.specs.declared.client.Session.{Session}
use Rattle.aud_sim.specs.declared.client.Client.{Client}
use Rattle.aud_sim.specs.Bundle.{is_sound}
use Rattle.aud_sim.specs.Cluster.{State}
use Rattle.aud_sim.specs.Nodes.{NodeState}

-- what has this number, from 1
abbrev pub numbered : {X : Type 0} → List X → ℕ → Option X
numbered xs number = if number == 0 then None else slice_get xs (number - 1)

-- 1 to 32 letters of ASCII
abbrev pub is_letter : ℕ → Bool
is_letter b = (nat_le 65 b && nat_le b 90) || (nat_le 97 b && nat_le b 122)

abbrev pub is_word : List ℕ → Bool
is_word word = nat_le 1 (length word) && nat_le (length word) 32 && list_all is_letter word

-- ---- clients

-- on a node, and not away
abbrev pub is_on_node : At → Bool
is_on_node (at.Node node) = true
is_on_node (at.Away cursor) = false

-- the client has a connection: it has a session, which is on a node
abbrev pub has_connection : Client → Bool
has_connection client = option_map_or (λ (session : Session). is_on_node session.at) client.session false

-- there is such a client, and it has a connection
abbrev pub is_connected : List Client → ℕ → Bool
is_connected clients number = option_map_or has_connection (numbered clients number) false

-- no fault waits for a frame, or holds one
abbrev pub is_nothing : Injected → Bool
is_nothing injected.Nothing = true
is_nothing fault = false

-- there is such a client, and no fault of it waits for a frame, or holds one
abbrev pub has_no_fault : List Client → ℕ → Bool
has_no_fault clients number = option_map_or (λ (client : Client). is_nothing client.injected) (numbered clients number) false

-- ---- recoveries

-- the cursor at which the session broke, where it is away, an offset was received in it, and it isn't in the last turn
-- that there may be
abbrev pub break_at : At → Session → Option ℕ
break_at (at.Node node) session = None
break_at (at.Away cursor) session = if is_some session.last && nat_lt session.turn max_turn then Some cursor else None

-- the same of the session of a client, where there is such a client and it has one
abbrev pub break_of : List Client → ℕ → Option ℕ
break_of clients number = option_and_then (λ (client : Client). option_and_then (λ (session : Session). break_at session.at session) client.session) (numbered clients number)

-- the node has taken less than that of the break had, where there is such a node and the client's session may be recovered
abbrev pub lag : State → ℕ → ℕ → Option Bool
lag s client node = option_and_then (λ cursor. option_map (λ (n : NodeState). nat_lt n.cursor cursor) (numbered s.nodes node)) (break_of s.clients client)

-- ---- the table

-- there is such a node, and an entry that it has not taken
abbrev pub can_take : State → ℕ → Bool
can_take s node = option_map_or (λ (n : NodeState). nat_lt n.cursor (length s.entries)) (numbered s.nodes node) false

-- there is such a client, without a connection, and such a node, and a session more may be opened
abbrev pub can_connect : State → ℕ → ℕ → Bool
can_connect s client node = option_map_or (λ c. not (has_connection c) && is_some (numbered s.nodes node) && nat_lt s.sessions max_pids) (numbered s.clients client) false

-- the state allows the act
abbrev pub can : Act → State → Bool
can (Emit rooms except word bin) s = is_word word && nat_lt (length s.entries) max_entries
can (Volatile client word) s = is_word word && is_connected s.clients client
can (Take node) s = can_take s node
can (Connect client node) s = can_connect s client node
can (ConnectUnanswered client node) s = can_connect s client node
can (ConnectMisnamed client node) s = can_connect s client node
can (Join client room) s = is_connected s.clients client
can (Leave client room) s = is_connected s.clients client
can (Cut client) s = is_connected s.clients client
can (Recover client node) s = option_map_or not (lag s client node) false
can (RecoverLagging client node) s = option_map_or (λ lags. lags) (lag s client node) false
can (RecoverUnknown client node) s = option_map_or not (lag s client node) false
can (RecoverUnanswered client node) s = option_map_or not (lag s client node) false
can (Finish client) s = is_connected s.clients client
can (DropNext client) s = has_no_fault s.clients client
can (DoubleNext client) s = has_no_fault s.clients client
can (HoldNext client) s = has_no_fault s.clients client
can (AlterNext client) s = has_no_fault s.clients client
can (GarbleNext client) s = has_no_fault s.clients client
can (ShortenNext client) s = has_no_fault s.clients client
can LoseLine s = is_sound s.lines.fault
can RepeatLine s = is_sound s.lines.fault
