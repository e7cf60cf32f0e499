-- FRAME: the record that is no packet is among the rows.
use Rattle.std.proofs.Common.{◌≡◌, ℕ, true, List, [], refl, sym, ap, ◌∙◌, subst, inl, inr, Option, Some, None, is_some}
use Rattle.std.specs.Option.{option_and_then}
use Rattle.std.proofs.lemmas.Bool.{true≢false}
use Rattle.std.proofs.lemmas.Option.{none-some}
use Rattle.aud_tap.specs.declared.records.ClientRec.{ClientRec}
use Rattle.aud_node.specs.Cluster.{Cluster}
use Rattle.aud_node.specs.NodeTaps.{client_at}
use Rattle.aud_node.specs.Stream.{Text}
use Rattle.aud_client.specs.TapPackets.{tap_packets}
use Rattle.aud_verdict.specs.Session.{SessionLogs, IsSession, transcript}
use Rattle.aud_verdict.proofs.Sessions.{one_session}
use Rattle.aud_input.specs.TapLines.{TapLines}
use Rattle.aud_rows.specs.declared.row.Role.TheVariants.{Earlier, Fault}
use Rattle.aud_rows.specs.EndRows.{bad_row}
use Rattle.aud_rows.specs.Lacking.{lacking_row}
use Rattle.aud_rows.specs.Seen.{RowSeen}
use Rattle.aud_findings.specs.Evidence.{ShowsOr}
use Rattle.aud_findings.specs.ShowsFrame.{ShowsFrame, bad_number}
use Rattle.aud_laws.specs.FaultRows.{KnowsEachRecord, has_fault_row}
use Rattle.aud_session_facts.specs.RowLists.{row_and}
use Rattle.aud_laws.proofs.FaultRow.Rows.{Marked, marked_after, marked_and}
use Rattle.aud_laws.proofs.FaultRow.Sessions.{bad_at_client}
use Rattle.aud_laws.proofs.FaultRow.Stays.{bad_marked}

module _ (c : Cluster) (lines : List TapLines) (known : KnowsEachRecord c.taps lines) where
  number_marked : (place number : ℕ) → bad_number c place ≡ Some number → Marked (bad_row c lines place Fault)
  number_marked place number is = go (client_at c place) refl
    where
      go : (o : Option (List ClientRec)) → client_at c place ≡ o → Marked (bad_row c lines place Fault)
      go None there = absurd (none-some number (subst (λ o. option_and_then (λ (recs : List ClientRec). (tap_packets recs).bad) o ≡ Some number) there is))
      go (Some recs) there =
          bad_marked c lines known place recs number there (subst (λ o. option_and_then (λ (rs : List ClientRec). (tap_packets rs).bad) o ≡ Some number) there is)

  pub frame_shown : (pid : Text) (s t : SessionLogs) (rows : List RowSeen) → IsSession c pid s → is_some (transcript c s).bad ≡ true → IsSession c pid t
      → ShowsOr (ShowsFrame c lines t.client) (bad_number c t.client ≡ None) rows → has_fault_row rows ≡ true
  frame_shown pid s t rows is has it (inl shows) =
      ap has_fault_row shows.are_its_rows ∙ marked_after (lacking_row c lines t.client Earlier) (row_and (bad_row c lines t.client Fault) []) (marked_and (bad_row c lines t.client Fault) [] (number_marked t.client shows.number shows.is_bad))
  frame_shown pid s t rows is has it (inr (none, empty)) =
      absurd (true≢false (sym has ∙ ap is_some (bad_at_client c s ∙ ap (λ (u : SessionLogs). bad_number c u.client) (one_session c pid s t is it) ∙ none)))
