-- When rows show that a node on which a session was is out of order.
use Rattle.std.specs.Prelude.{◌≡◌, ◌∷◌, [], ℕ, zero, suc, List, Option, Some, None}
use Rattle.std.specs.List.{All, AllZip, Contains}
use Rattle.aud_node.specs.Cluster.{Cluster, node_log}
use Rattle.aud_node.specs.OwnPlaces.{own_places}
use Rattle.aud_node.specs.Stream.{Text}
use Rattle.aud_session_facts.specs.declared.place.RecordPlace.{RecordPlace}
use Rattle.aud_findings.specs.Order.{AreInOrder, IsFirstOutOfOrder}
use Rattle.aud_input.specs.TapLines.{TapLines}
use Rattle.aud_rows.specs.Seen.{RowSeen}
use Rattle.aud_rows.specs.declared.row.Role.TheVariants.{Earlier, Fault}
use Rattle.aud_session_facts.specs.declared.shown.node_records.NodeRecord.{NodeRecord}
use Rattle.aud_session_facts.specs.NodeRows.{node_rows}
use Rattle.aud_findings.specs.Prepared.{IsOrderRead}

-- ---- the nodes that are out of order

-- the first records out of order of these nodes, by their numbers, where there are such
abbrev pub places_in : List ℕ → List (Option ℕ) → List RecordPlace
places_in (node ∷ nodes) (Some number ∷ firsts) = record { node = node; number = number } ∷ places_in nodes firsts
places_in (node ∷ nodes) (None ∷ firsts) = places_in nodes firsts
places_in nodes firsts = []

-- of these nodes those whose logs are out of order, each with the first record that is
pub record AreOutOfOrder (c : Cluster) (nodes : List ℕ) (found : List RecordPlace) : Type 0 where
  pub firsts : List (Option ℕ)
  pub are_read : AllZip (IsOrderRead c) nodes firsts
  pub are_found : found ≡ places_in nodes firsts

-- ---- what is shown of the first

-- the node of the record has records of the session with this pid, and it is the first in its log that is out of order
abbrev pub IsUnordered : Cluster → Text → RecordPlace → Type 0
IsUnordered c pid at = Contains (own_places c pid) at.node × IsFirstOutOfOrder c.stream (node_log c at.node) at.number

-- the record before the one with this number of the node at this place, if there is one, and that one
abbrev pub order_records : ℕ → ℕ → List NodeRecord
order_records node zero = record { place = record { node = node; number = zero }; role = Fault } ∷ []
order_records node (suc number) =
    record { place = record { node = node; number = number }; role = Earlier }
    ∷ record { place = record { node = node; number = suc number }; role = Fault } ∷ []

-- there is such a record, and these are the rows of the record before, which tells the cursor, and of that one
pub record ShowsOrder (c : Cluster) (lines : List TapLines) (pid : Text) (rows : List RowSeen) : Type 0 where
  pub at : RecordPlace
  pub is_unordered : IsUnordered c pid at
  pub are_its_rows : rows ≡ node_rows c lines (order_records at.node at.number)

-- the log of each node that has records of the session is in order
abbrev pub AreOrdered : Cluster → Text → Type 0
AreOrdered c pid = All (λ node. AreInOrder c.stream (node_log c node)) (own_places c pid)
