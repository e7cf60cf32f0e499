-- What a node has.
use Rattle.std.specs.Prelude.{ℕ, nat_lt, nat_eq, not, Bool, List, Option, None, count_by, slice_get, slice_set}
use Rattle.std.specs.List.{filter, insert}
use Rattle.std.specs.Option.{option_map_or}
use Rattle.aud_sim.specs.declared.node.Guest.{Guest}
use Rattle.aud_sim.specs.declared.client.At.{At}
use Rattle.aud_sim.specs.declared.client.At.TheVariants as at

-- a node: its tap's name, how many entries it has taken, and the sessions on it in order of opening
pub record NodeState : Type 0 where
  pub name : List ℕ
  pub cursor : ℕ
  pub guests : List Guest

-- the guest's session was opened before that of a number
abbrev pub opened_before : ℕ → Guest → Bool
opened_before session guest = nat_lt guest.session session

-- the session among the others, which are in order of opening: after those that were opened before it
abbrev pub with_guest : Guest → List Guest → List Guest
with_guest guest guests = insert guests (count_by (opened_before guest.session) guests) guest

-- the others without the session
abbrev pub without_session : ℕ → List Guest → List Guest
without_session session guests = filter (λ guest. not (nat_eq guest.session session)) guests

-- the node that a session is on
abbrev pub host : List NodeState → At → Option NodeState
host nodes (at.Node index) = slice_get nodes index
host nodes (at.Away cursor) = None

-- the node with the session among the others
abbrev pub node_joined : Guest → NodeState → NodeState
node_joined guest node = record node { guests = with_guest guest node.guests }

-- the node without the session
abbrev pub node_left : ℕ → NodeState → NodeState
node_left session node = record node { guests = without_session session node.guests }

-- the nodes, where the session leaves the one that it is on
abbrev pub nodes_left : ℕ → At → List NodeState → List NodeState
nodes_left session (at.Node index) nodes = option_map_or (λ node. slice_set nodes index (node_left session node)) (slice_get nodes index) nodes
nodes_left session (at.Away cursor) nodes = nodes

-- where the session is after a break: away, from the cursor of its node on
abbrev pub place_after_break : List NodeState → At → At
place_after_break nodes place = option_map_or (λ node. at.Away node.cursor) (host nodes place) place
