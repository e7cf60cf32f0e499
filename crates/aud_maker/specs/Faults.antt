-- The faults of a session for which it has no certificate, and the first that holds.
use Rattle.std.specs.Prelude.{◌≡◌, ◌<◌, ℕ, false, List, length}
use Rattle.std.specs.List.{Contains}
use Rattle.aud_node.specs.Stream.{Text}
use Rattle.aud_node.specs.Cluster.{Cluster, node_log}
use Rattle.aud_node.specs.Ordered.{is_ordered}
use Rattle.aud_client.specs.Replies.{naming_places}
use Rattle.aud_rooms.specs.Turns.{Who, Turn, HasNoTurn, IsChain}
use Rattle.aud_cert.specs.declared.fault.Fault.{Fault}
use Rattle.aud_cert.specs.declared.fault.Fault.TheVariants.{NoLog, Chain, Order, Client}
use Rattle.aud_maker.specs.Chain.{HasNoChain}
use Rattle.aud_maker.specs.declared.maker.MakeFault.{MakeFault}
use Rattle.aud_maker.specs.declared.maker.MakeFault.TheVariants.{Fault as Because, Memory}

-- the session has turns, and the node of one of them isn't ordered
pub record HasUnordered (c : Cluster) (pid : Text) : Type 0 where
  pub who : Who
  pub turns : List Turn
  pub names : who.pid ≡ pid
  pub chain : IsChain c who turns
  pub turn : Turn
  pub among : Contains turns turn
  pub unordered : is_ordered c.stream (node_log c turn.node) ≡ false

-- where each of the maker's faults holds: no node has an `open` of the pid; its records are no chain of turns; the
-- node of a turn isn't ordered; not exactly one client tap has a reply that names the pid
abbrev pub HasMakeFault : Cluster → Text → Fault → Type 0
HasMakeFault c pid NoLog = HasNoTurn c pid 0
HasMakeFault c pid Chain = HasNoChain c pid
HasMakeFault c pid Order = HasUnordered c pid
HasMakeFault c pid Client = length (naming_places c.taps pid) ≡ 1 → ⊥
HasMakeFault c pid _ = ⊥

-- the order in which they are named
abbrev pub make_fault_rank : Fault → ℕ
make_fault_rank NoLog = 0
make_fault_rank Chain = 1
make_fault_rank Order = 2
make_fault_rank Client = 3
make_fault_rank _ = 4

-- of all of them this is the first that holds
pub record IsFirstMakeFault (c : Cluster) (pid : Text) (fault : Fault) : Type 0 where
  pub holds : HasMakeFault c pid fault
  pub none_before : (other : Fault) → make_fault_rank other < make_fault_rank fault → HasMakeFault c pid other → ⊥

-- none of them holds
abbrev pub HasNoMakeFault : Cluster → Text → Type 0
HasNoMakeFault c pid = (fault : Fault) → HasMakeFault c pid fault → ⊥

-- the fault is the first that holds; of running out of memory nothing is said
abbrev pub IsWhy : Cluster → Text → MakeFault → Type 0
IsWhy c pid (Because fault) = IsFirstMakeFault c pid fault
IsWhy c pid Memory = Unit {0}
