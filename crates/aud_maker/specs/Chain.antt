-- The turns of a session, if it has them.
use Rattle.std.specs.Prelude.{◌≡◌, List}
use Rattle.aud_node.specs.Stream.{Text}
use Rattle.aud_node.specs.Cluster.{Cluster}
use Rattle.aud_rooms.specs.Turns.{Who, Turn, IsChain}

-- the session's records are no chain of turns
abbrev pub HasNoChain : Cluster → Text → Type 0
HasNoChain c pid = (who : Who) (turns : List Turn) → who.pid ≡ pid → IsChain c who turns → ⊥
