-- What is shown of a session by its account.
use Rattle.std.proofs.Common.{◌≡◌, ◌++◌, ℕ, Bool, true, false, cond, List, Option, Some, None, MatchOption, map, refl, sym, ap, subst, ◌∙◌, inl, inr, true≢false}
use Rattle.std.proofs.lemmas.Option.{none-some, same_Some}
use Rattle.std.specs.Global.{Vec}
use Rattle.aud_node.specs.Cluster.{Cluster}
use Rattle.aud_node.specs.Stream.{Text}
use Rattle.aud_client.specs.StaySeen.{StaySeen}
use Rattle.aud_cert.specs.declared.fault.Fault.{Fault}
use Rattle.aud_cert.specs.Certificate.{turn_at}
use Rattle.aud_maker.specs.Made.{IsMade}
use Rattle.aud_session_facts.specs.declared.account.Account.{Account}
use Rattle.aud_session_facts.specs.Account.{IsAccount, case_at, found_for, is_as, stays_of}
use Rattle.aud_session_facts.proofs.Differences.{difference_told}
use Rattle.aud_cert.specs.declared.fault.Fault.TheVariants as fault
use Rattle.aud_check.specs.declared.difference.Difference.{Difference}
use Rattle.aud_check.specs.declared.finding.Finding.{Finding}
use Rattle.aud_check.specs.declared.finding.Finding.TheVariants.{Frame, Orphan, Content, Delivery, Window}
use Rattle.aud_check.specs.Difference.{IsDifference}
use Rattle.aud_check.specs.Faults.{IsReceived}
use Rattle.aud_check.specs.Findings.{IsFinding, IsFirstFinding}
use Rattle.aud_check.specs.Window.{positions_received}
use Rattle.aud_input.specs.TapLines.{TapLines}
use Rattle.aud_rows.specs.declared.row.Row.{Row}
use Rattle.aud_rows.specs.Seen.{RowSeen, row_seen}
use Rattle.aud_session_facts.specs.declared.shown.session.ShownSession.{ShownSession}
use Rattle.aud_session_facts.specs.ContentRows.{altered_rows}
use Rattle.aud_session_facts.specs.DifferenceRows.{difference_rows}
use Rattle.aud_session_facts.specs.WindowRows.{window_rows}
use Rattle.aud_session_facts.specs.SessionRows.{session_of}
use Rattle.aud_session_facts.specs.ShowsAltered.{ShowsAltered}
use Rattle.aud_session_facts.specs.ShowsDifference.{ShowsDifference}
use Rattle.aud_session_facts.specs.ShowsWindow.{ShowsWindow}
use Rattle.aud_session_facts.proofs.Shows.{shows, shows-altered, shows-window}
use Rattle.aud_verdict.specs.Session.{own_stays, due_to}
use Rattle.aud_findings.specs.BesideRows.{beside_rows}
use Rattle.aud_findings.specs.Evidence.{IsOfSession, ShowsOr, ShowsTold, TellsNone}
use Rattle.aud_findings.specs.ShowsFound.{ShowsDelivery, ShowsFound}
use Rattle.aud_findings.specs.Private.Known.{IsShownBy, finding_rows, found_rows}

-- rows were found that show something, or there is nothing to show
pub shows_or : (Shows : List RowSeen → Type 0) (nothing : Type 0) (found : Option (Vec Row))
    → MatchOption found nothing (λ rows. Shows (map row_seen rows.items)) → ShowsOr Shows nothing (found_rows found)
shows_or Shows nothing None h = inr (h, refl)
shows_or Shows nothing (Some rows) h = inl h

-- what is told by the account's tap is told of the session
pub of_session : (c : Cluster) (lines : List TapLines) (pid : Text) (client : ℕ) (stays : List StaySeen) (due : List ℕ) → IsAccount c pid client stays due
    → (fault : Fault) (place : ℕ) → place ≡ client → (found : Option (Vec Row))
    → MatchOption found (TellsNone c pid place stays due fault) (λ rows. ShowsTold c lines pid place fault (map row_seen rows.items))
    → IsOfSession c lines pid fault (found_rows found)
of_session c lines pid client stays due account fault place at found told =
    let s = account.session in
    record {
      session = s;
      is_session = account.is_session;
      is_shown =
          subst (λ p. ShowsOr (ShowsTold c lines pid p fault) (TellsNone c pid p (own_stays c s) (due_to c s) fault) (found_rows found)) (at ∙ account.client_is)
          (subst (λ own. ShowsOr (ShowsTold c lines pid place fault) (TellsNone c pid place own (due_to c s) fault) (found_rows found)) account.stays_are
          (subst (λ owed. ShowsOr (ShowsTold c lines pid place fault) (TellsNone c pid place stays owed fault) (found_rows found)) account.due_is
          (shows_or (ShowsTold c lines pid place fault) (TellsNone c pid place stays due fault) found told)));
    }

-- what was found for a fault is what was found, and the fault is such a one
found_is : (fault : Fault) (o : Option Finding) (found : Finding) → found_for fault o ≡ Some found → (o ≡ Some found) × (is_as found fault ≡ true)
found_is fault None found e = absurd (none-some found e)
found_is fault (Some other) found e = go (is_as other fault) refl e
  where
    go : (b : Bool) → is_as other fault ≡ b → cond b (Some other) None ≡ Some found → (Some other ≡ Some found) × (is_as found fault ≡ true)
    go true is e = (e, ap (λ f. is_as f fault) (sym (same_Some other found e)) ∙ is)
    go false is e = absurd (none-some found e)

module _ (pid : Text) (a : Account) (s : ShownSession) (known : IsShownBy s.sheet.recording.now pid a s) (made : IsMade s.sheet.recording.now a.cert.pid a.cert) where
  abbrev here : Cluster
  here = s.sheet.recording.now

  abbrev lines : List TapLines
  lines = s.sheet.lines.now

  -- the session is that of the account's turns and client
  session_is : session_of s ≡ record { c = here; lines = lines; turns = map (turn_at here) a.cert.turns; client = a.client; numbers = s.numbers.now }
  session_is = λ i. record { c = here; lines = lines; turns = map (turn_at here) (known.turns i); client = known.client i; numbers = s.numbers.now }

  -- the rows of a difference, with those that tell how it comes
  delivered : (difference : Difference) → IsDifference (positions_received (stays_of a)) a.due.items difference → ShowsDelivery here lines pid (finding_rows (session_of s) a.cert made (stays_of a) (Delivery difference))
  delivered difference shown =
      let is = difference_told here pid a.client (stays_of a) a.due.items known.own.is difference shown in
      record {
        cert = a.cert;
        made = made;
        names = known.own.made.is.pid_is;
        session = known.own.is.session;
        is_session = known.own.is.is_session;
        difference = difference;
        is_difference = is;
        shown = difference_rows (session_of s) difference;
        shows =
            subst (λ over. ShowsDifference here lines pid (difference_rows over difference)) (sym session_is)
            (shows here lines pid a.cert a.client (stays_of a) a.due.items known.once known.own.made known.own.is s.numbers.now known.numbers difference is);
        are_its_rows = ap (λ own. beside_rows here lines a.cert made own difference ++ difference_rows (session_of s) difference) known.own.is.stays_are;
      }

  -- the rows of what was found show it, where the fault is such a one
  finding_shown : (found : Finding) (fault : Fault) → IsFinding (case_at here a.client (stays_of a) a.due.items) found → is_as found fault ≡ true
      → ShowsFound here lines pid fault (finding_rows (session_of s) a.cert made (stays_of a) found)
  finding_shown Frame fault shown is = absurd (true≢false (sym is))
  finding_shown Orphan fault shown is = absurd (true≢false (sym is))
  finding_shown (Content altered) (fault.Content off) shown is =
      subst (λ over. ShowsAltered here lines pid (altered_rows over altered)) (sym session_is)
      (shows-altered here lines pid a.cert a.client (stays_of a) a.due.items known.once known.own.made known.own.is s.numbers.now known.numbers altered shown)
  finding_shown (Content altered) _ shown is = absurd (true≢false (sym is))
  finding_shown (Delivery difference) (fault.Extra off) shown is = delivered difference shown
  finding_shown (Delivery difference) (fault.Doubled off) shown is = delivered difference shown
  finding_shown (Delivery difference) (fault.Swapped off) shown is = delivered difference shown
  finding_shown (Delivery difference) (fault.Lost off) shown is = delivered difference shown
  finding_shown (Delivery difference) _ shown is = absurd (true≢false (sym is))
  finding_shown (Window window) (fault.Window conn) shown is =
      subst (λ over. ShowsWindow here lines pid (window_rows over window)) (sym session_is)
      (shows-window here lines pid a.cert a.client (stays_of a) a.due.items known.once known.own.made known.own.is s.numbers.now known.numbers window shown)
  finding_shown (Window window) _ shown is = absurd (true≢false (sym is))

  -- so are those of what was found for the fault
  pub found_told : (fault : Fault) (found : Finding) → found_for fault a.found ≡ Some found → (rows : List RowSeen) → rows ≡ finding_rows (session_of s) a.cert made (stays_of a) found → ShowsFound here lines pid fault rows
  found_told fault found is rows are =
      let (found_at, alike) = found_is fault a.found found is in
      let first : IsFirstFinding (case_at here a.client (stays_of a) a.due.items) found =
      subst (λ o. MatchOption o (IsReceived (case_at here a.client (stays_of a) a.due.items)) (IsFirstFinding (case_at here a.client (stays_of a) a.due.items))) found_at known.own.found in
      subst (ShowsFound here lines pid fault) (sym are) (finding_shown found fault first.shown alike)
