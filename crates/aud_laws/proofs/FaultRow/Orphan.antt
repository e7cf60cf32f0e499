-- ORPHAN: the event of which nobody knows the session is among the rows.
use Rattle.std.proofs.Common.{◌≡◌, ◌||◌, ℕ, suc, Bool, true, false, not, cond, List, [], ◌∷◌, refl, sym, ap, ◌∙◌, inl, inr, Option, Some, None, slice_get}
use Rattle.std.specs.List.{list_any}
use Rattle.std.specs.Option.{option_map}
use Rattle.std.proofs.lemmas.Bool.{and_parts, true≢false}
use Rattle.std.proofs.lemmas.Option.{none-some}
use Rattle.aud_node.specs.Cluster.{Cluster}
use Rattle.aud_node.specs.Lists.{first_index}
use Rattle.aud_node.specs.Stream.{Text}
use Rattle.aud_node.proofs.ListLemmas.{first_index-found}
use Rattle.aud_client.specs.Received.{is_orphan, has_frame, names_somebody}
use Rattle.aud_client.specs.StaySeen.{StaySeen, FrameSeen}
use Rattle.aud_verdict.specs.Session.{SessionLogs, IsSession, transcript}
use Rattle.aud_verdict.proofs.Sessions.{one_session}
use Rattle.aud_input.specs.TapLines.{TapLines}
use Rattle.aud_rows.specs.declared.row.Role.TheVariants.{Ask, Reply, Fault, Later}
use Rattle.aud_rows.specs.EndRows.{lost_row}
use Rattle.aud_rows.specs.Seen.{RowSeen}
use Rattle.aud_rows.specs.StayRows.{stays_at, ask_row, reply_row, frame_row}
use Rattle.aud_session_facts.specs.RowLists.{row_and}
use Rattle.aud_findings.specs.Evidence.{ShowsOr}
use Rattle.aud_findings.specs.ShowsOrphan.{ShowsOrphan}
use Rattle.aud_laws.specs.FaultRows.{KnowsEachRecord, has_fault_row}
use Rattle.aud_laws.proofs.FaultRow.Rows.{marked_and, marked_after}
use Rattle.aud_laws.proofs.FaultRow.Sessions.{told_at}
use Rattle.aud_laws.proofs.FaultRow.Stays.{frame_marked}

-- where no stay is the first that passes, none passes
none_passes : (p : StaySeen → Bool) (xs : List StaySeen) → first_index p xs ≡ None → list_any p xs ≡ false
none_passes p [] e = refl
none_passes p (x ∷ xs) e = go (p x) e (none_passes p xs)
  where
    none_of : (o : Option ℕ) → option_map suc o ≡ None → o ≡ None
    none_of None e = refl
    none_of (Some n) e = absurd (none-some (suc n) (sym e))

    go : (b : Bool) → cond b (Some 0) (option_map suc (first_index p xs)) ≡ None → (first_index p xs ≡ None → list_any p xs ≡ false) → (b || list_any p xs) ≡ false
    go true e rest = absurd (none-some 0 (sym e))
    go false e rest = rest (none_of (first_index p xs) e)

-- the first frame, where there is one
first_frame : (frames : List FrameSeen) → has_frame frames ≡ true → (frame : FrameSeen) × (slice_get frames 0 ≡ Some frame)
first_frame [] e = absurd (true≢false (sym e))
first_frame (frame ∷ frames) e = (frame, refl)

module _ (c : Cluster) (lines : List TapLines) (known : KnowsEachRecord c.taps lines) where
  orphan_marked : (place : ℕ) (rows : List RowSeen) → ShowsOrphan c lines place rows → has_fault_row rows ≡ true
  orphan_marked place rows shows =
      let (stay, at, orphan) = first_index-found is_orphan (stays_at c place) shows.stay shows.is_first in
      let (frame, there) = first_frame stay.frames (and_parts (not (names_somebody stay.reply)) (has_frame stay.frames) orphan).1 in
      let reply = reply_row c lines place shows.stay Reply in
      let event = frame_row c lines place shows.stay 0 Fault in
      let lost = row_and (lost_row c lines place shows.stay Later) [] in
      ap has_fault_row shows.are_its_rows
      ∙ marked_after (ask_row c lines place shows.stay Ask) (row_and reply (row_and event lost))
      (marked_after reply (row_and event lost) (marked_and event lost (frame_marked c lines known place shows.stay 0 stay frame at there)))

  pub orphan_shown : (pid : Text) (s t : SessionLogs) (rows : List RowSeen) → IsSession c pid s → (transcript c s).orphan ≡ true → IsSession c pid t
      → ShowsOr (ShowsOrphan c lines t.client) (first_index is_orphan (stays_at c t.client) ≡ None) rows → has_fault_row rows ≡ true
  orphan_shown pid s t rows is has it (inl shows) = orphan_marked t.client rows shows
  orphan_shown pid s t rows is has it (inr (none, empty)) =
      let orphan : list_any is_orphan (stays_at c t.client) ≡ true =
      sym (ap (list_any is_orphan) (told_at c s ∙ ap (λ (u : SessionLogs). stays_at c u.client) (one_session c pid s t is it))) ∙ has in
      absurd (true≢false (sym orphan ∙ none_passes is_orphan (stays_at c t.client) none))
