-- Rows of records that are there, where a line is kept for each.
use Rattle.std.proofs.Common.{◌≡◌, ℕ, suc, true, List, [], ◌∷◌, ◌++◌, refl, sym, ap, ◌∙◌, subst, arith, Option, Some, None, is_some, slice_get}
use Rattle.std.specs.Option.{option_map, option_and_then}
use Rattle.std.proofs.lemmas.Option.{none-some, same_Some, slice_get-map}
use Rattle.aud_tap.specs.declared.records.Rec.{Rec}
use Rattle.aud_tap.specs.declared.records.Rec.TheVariants as rec
use Rattle.aud_tap.specs.declared.records.NodeRec.{NodeRec}
use Rattle.aud_tap.specs.declared.records.ClientRec.{ClientRec}
use Rattle.aud_tap.specs.declared.taps.Tap.{Tap}
use Rattle.aud_tap.specs.declared.taps.Records.{Records}
use Rattle.aud_tap.specs.declared.taps.Records.TheVariants.{Stream, Node, Client}
use Rattle.aud_reader.specs.OwnLines.{recs_in}
use Rattle.aud_node.specs.Cluster.{Cluster, node_log, node_recs}
use Rattle.aud_node.specs.NodeTaps.{client_at, client_recs, client_records}
use Rattle.aud_input.specs.TapLines.{TapLines, kept_line}
use Rattle.aud_rows.specs.declared.row.Role.TheVariants.{Fault}
use Rattle.aud_rows.specs.NodeSays.{node_says, session_at}
use Rattle.aud_node.specs.Cursors.{cursor_at}
use Rattle.aud_rows.specs.Rows.{row_of, node_row}
use Rattle.aud_rows.specs.Seen.{RowSeen, SaysSeen}
use Rattle.aud_session_facts.specs.RowLists.{row_and}
use Rattle.aud_explanation.specs.LongRows.{is_fault}
use Rattle.aud_laws.specs.FaultRows.{KnowsEachRecord, has_fault_row}

-- ---- a row among others

-- there is a row, and it is marked as that of the record at which the fault shows
abbrev pub Marked : Option RowSeen → Type 0
Marked None = ⊥
Marked (Some row) = is_fault row.role ≡ true

-- so one of the rows is
pub marked_and : (o : Option RowSeen) (rows : List RowSeen) → Marked o → has_fault_row (row_and o rows) ≡ true
marked_and None rows h = absurd h
marked_and (Some row) rows h = grind (arith, h)

-- one of those after it is
pub marked_after : (o : Option RowSeen) (rows : List RowSeen) → has_fault_row rows ≡ true → has_fault_row (row_and o rows) ≡ true
marked_after None rows h = h
marked_after (Some row) rows h = grind (arith, h)

-- one of those behind others is
pub marked_behind : (xs ys : List RowSeen) → has_fault_row ys ≡ true → has_fault_row (xs ++ ys) ≡ true
marked_behind [] ys h = h
marked_behind (x ∷ xs) ys h = grind (arith, marked_behind xs ys h)

-- one of those in front of others is
pub marked_in_front : (xs ys : List RowSeen) → has_fault_row xs ≡ true → has_fault_row (xs ++ ys) ≡ true
marked_in_front [] ys h = absurd (cc)
marked_in_front (x ∷ xs) ys h = grind (arith, h, marked_in_front xs ys)

-- ---- the row of a record

-- the records of a tap, each as a record of any tap
at-node : (recs : List NodeRec) (number : ℕ) (r : NodeRec) → slice_get recs number ≡ Some r → slice_get (recs_in (Node recs)) number ≡ Some (rec.Node r)
at-node recs number r at = slice_get-map rec.Node recs number ∙ ap (option_map rec.Node) at

at-client : (recs : List ClientRec) (number : ℕ) (r : ClientRec) → slice_get recs number ≡ Some r → slice_get (recs_in (Client recs)) number ≡ Some (rec.Client r)
at-client recs number r at = slice_get-map rec.Client recs number ∙ ap (option_map rec.Client) at

module _ (c : Cluster) (lines : List TapLines) (known : KnowsEachRecord c.taps lines) where
  -- of a record of a tap
  record_marked : (place number : ℕ) (says : SaysSeen) (tap : Tap) (r : Rec) → slice_get c.taps place ≡ Some tap → slice_get (recs_in tap.records) number ≡ Some r
      → Marked (row_of c lines place number Fault says)
  record_marked place number says tap r there at =
      subst (λ t. Marked (option_and_then (λ (tap : Tap). option_map (λ line. record { line = line; tap = tap.name; session = session_at tap.records number; says = says; role = Fault }) (kept_line lines place number)) t))
      (sym there) (go (kept_line lines place number) (known place number tap r there at))
    where
      go : (o : Option ℕ) → is_some o ≡ true
          → Marked (option_map (λ line. let row : RowSeen = record { line = line; tap = tap.name; session = session_at tap.records number; says = says; role = Fault } in row) o)
      go None is = absurd (cc)
      go (Some line) is = refl

  -- of a record of a node
  pub node_marked : (place number : ℕ) (r : NodeRec) → slice_get (node_log c place) number ≡ Some r → Marked (node_row c lines place number Fault)
  node_marked place number r at =
      subst (λ o. Marked (option_and_then (row_of c lines place number Fault) (option_map (node_says c.stream (cursor_at c.stream (node_log c place) (suc number))) o))) (sym at)
      (go (slice_get c.taps place) refl at (node_says c.stream (cursor_at c.stream (node_log c place) (suc number)) r))
    where
      of : (tap : Tap) → slice_get c.taps place ≡ Some tap → (rs : Records) → tap.records ≡ rs → slice_get (node_recs (Some rs)) number ≡ Some r → (says : SaysSeen)
          → Marked (row_of c lines place number Fault says)
      of tap there (Stream recs) is at says = absurd (none-some r at)
      of tap there (Node recs) is at says =
          record_marked place number says tap (rec.Node r) there (ap (λ rs. slice_get (recs_in rs) number) is ∙ at-node recs number r at)
      of tap there (Client recs) is at says = absurd (none-some r at)

      go : (t : Option Tap) → slice_get c.taps place ≡ t → slice_get (node_recs (option_map (λ (tap : Tap). tap.records) (slice_get c.taps place))) number ≡ Some r → (says : SaysSeen)
          → Marked (row_of c lines place number Fault says)
      go None there at says = absurd (none-some r (subst (λ t. slice_get (node_recs (option_map (λ (tap : Tap). tap.records) t)) number ≡ Some r) there at))
      go (Some tap) there at says = of tap there tap.records refl (subst (λ t. slice_get (node_recs (option_map (λ (tap : Tap). tap.records) t)) number ≡ Some r) there at) says

  -- of a record of a client's tap
  pub client_marked : (place number : ℕ) (recs : List ClientRec) (r : ClientRec) (says : SaysSeen) → client_at c place ≡ Some recs → slice_get recs number ≡ Some r
      → Marked (row_of c lines place number Fault says)
  client_marked place number recs r says is at = go (slice_get c.taps place) refl is
    where
      of : (tap : Tap) → slice_get c.taps place ≡ Some tap → (rs : Records) → tap.records ≡ rs → client_records rs ≡ Some recs → Marked (row_of c lines place number Fault says)
      of tap there (Stream others) is e = absurd (none-some recs e)
      of tap there (Node others) is e = absurd (none-some recs e)
      of tap there (Client others) is e =
          record_marked place number says tap (rec.Client r) there
          (ap (λ rs. slice_get (recs_in rs) number) is ∙ at-client others number r (ap (λ rs. slice_get rs number) (same_Some others recs e) ∙ at))

      go : (t : Option Tap) → slice_get c.taps place ≡ t → option_and_then client_recs (slice_get c.taps place) ≡ Some recs → Marked (row_of c lines place number Fault says)
      go None there e = absurd (none-some recs (subst (λ t. option_and_then client_recs t ≡ Some recs) there e))
      go (Some tap) there e = of tap there tap.records refl (subst (λ t. option_and_then client_recs t ≡ Some recs) there e)
