-- A cluster of two nodes in which a session is recovered, and a run of it: examples/bundle_b.jsonl.
use Rattle.std.specs.Prelude.{ℕ, List, [], ◌∷◌, None, codes}
use Rattle.aud_tap.specs.declared.records.Version.TheVariants.{One}
use Rattle.aud_tap.specs.declared.records.StreamRec.{StreamRec}
use Rattle.aud_tap.specs.declared.records.StreamRec.TheVariants.{Ev}
use Rattle.aud_tap.specs.declared.records.NodeRec.{NodeRec}
use Rattle.aud_tap.specs.declared.records.NodeRec.TheVariants.{Start, Take, Opened, Join, Broke, Back}
use Rattle.aud_tap.specs.declared.records.ClientRec.{ClientRec}
use Rattle.aud_tap.specs.declared.records.ClientRec.TheVariants.{Conn, TextIn, TextOut, Lost}
use Rattle.aud_tap.specs.declared.taps.Tap.{Tap}
use Rattle.aud_tap.specs.declared.taps.Records.{Records}
use Rattle.aud_tap.specs.declared.taps.Records.TheVariants.{Stream, Node, Client}
use Rattle.aud_node.specs.Stream.{Text}
use Rattle.aud_node.specs.Cluster.{Cluster, cluster_of}
use Rattle.aud_rooms.specs.Turns.{Who, Turn}
use Rattle.aud_merge.specs.declared.step.Step.{Step}

-- the session, as its `open` names it
abbrev pub who : Who
who = record { pid = codes "P"; sid = codes "s1"; nsp = codes "/" }

-- an event for the room `r`
abbrev pub event : Text → Text → StreamRec
event off text = Ev (record { off = off; nsp = codes "/"; rooms = codes "r" ∷ []; except = []; text = text; bin = [] })

-- two of them
abbrev pub entries : List StreamRec
entries = event (codes "1-0") (codes "2[\"hi\",\"1-0\"]") ∷ event (codes "2-0") (codes "2[\"hi\",\"2-0\"]") ∷ []

-- the node on which the session opens, joins the room, is there as the first event is taken, and breaks
abbrev pub first_node : List NodeRec
first_node = Start None ∷ Opened who.pid who.sid who.nsp ∷ Join who.pid (codes "r") ∷ Take (codes "1-0") ∷ Broke who.pid 0 ∷ []

-- the node that has taken both events when the session is recovered there
abbrev pub second_node : List NodeRec
second_node = Start None ∷ Take (codes "1-0") ∷ Take (codes "2-0") ∷ Back who.pid 1 ∷ []

-- the session's client, which gets the second event as it comes back
abbrev pub client : List ClientRec
client =
    Conn 1
    ∷ TextIn (codes "40{\"sid\":\"s1\",\"pid\":\"P\"}")
    ∷ TextIn (codes "42[\"hi\",\"1-0\"]")
    ∷ Lost
    ∷ Conn 2
    ∷ TextOut (codes "40{\"pid\":\"P\",\"offset\":\"1-0\"}")
    ∷ TextIn (codes "42[\"hi\",\"2-0\"]")
    ∷ TextIn (codes "40{\"sid\":\"s1\",\"pid\":\"P\"}") ∷ []

-- the positions of the events that the client received, in its order
abbrev pub received_positions : List ℕ
received_positions = 1 ∷ 2 ∷ []

-- a tap of version 1, by its name and its records
abbrev pub tap : Text → Records → Tap
tap name records = record { name = name; version = One; records = records }

-- the stream, the two nodes, and the client, in the order of their places
abbrev pub logs : Cluster
logs = cluster_of (tap (codes "st") (Stream entries) ∷ tap (codes "a") (Node first_node) ∷ tap (codes "b") (Node second_node) ∷ tap (codes "c1") (Client client) ∷ [])

-- the session's turns: on the first node from its `open` through its `break`, and on the second its `back`
abbrev pub turns : List Turn
turns = record { node = 1; from = 1; to = 5 } ∷ record { node = 2; from = 3; to = 4 } ∷ []

-- the record of a log, each by its number
abbrev pub step : ℕ → ℕ → Step
step log index = record { log = log; index = index }

-- the first node's `take` of the first event
abbrev pub live_take : Step
live_take = step 1 3

-- the session's `back`
abbrev pub back : Step
back = step 2 3

-- all records of the stream and of the nodes, in an order in which they may have happened
abbrev pub run : List Step
run =
    step 1 0 ∷ step 1 1 ∷ step 1 2 ∷ step 0 0 ∷ live_take ∷ step 1 4 ∷ step 2 0 ∷ step 0 1 ∷ step 2 1 ∷ step 2 2 ∷ back ∷ []
