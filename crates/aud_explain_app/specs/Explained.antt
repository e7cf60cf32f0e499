-- All that is told of a session.
use Rattle.std.specs.Prelude.{◌≡◌, All, List, MatchOption, is_some, map, Option}
use Rattle.std.specs.List.{AllZip, filter}
use Rattle.std.specs.Option.{option_map}
use Rattle.aud_node.specs.Cluster.{Cluster}
use Rattle.aud_node.specs.Stream.{Text}
use Rattle.aud_session_facts.specs.declared.account.Account.{Account}
use Rattle.aud_session_facts.specs.Account.{IsAccountOf}
use Rattle.aud_causes.specs.declared.causes.Noted.{Noted}
use Rattle.aud_causes.specs.declared.found.CauseFound.{CauseFound}
use Rattle.aud_causes.specs.Causes.{AreCauses, is_sure}
use Rattle.aud_explanation.specs.CauseState.{is_certain}
use Rattle.aud_cert.specs.declared.fault.Fault.{Fault}
use Rattle.aud_client.specs.Replies.{naming_places}
use Rattle.aud_findings.specs.Also.{IsAlsoShown, others_seen}
use Rattle.aud_findings.specs.ClientShown.{client_of, client_seen, only_of}
use Rattle.aud_findings.specs.Evidence.{IsEvidence}
use Rattle.aud_findings.specs.Received.{IsReceivedShown}
use Rattle.aud_input.specs.TapLines.{TapLines}
use Rattle.aud_maker.specs.Faults.{HasMakeFault}
use Rattle.aud_session_facts.specs.declared.asked.Recovery.{Recovery}
use Rattle.aud_session_facts.specs.Recoveries.{is_refused}
use Rattle.aud_verdict.specs.declared.verdict.Verdict.{Verdict}
use Rattle.aud_rows.specs.Seen.{row_seen}
use Rattle.aud_session_facts.specs.RowLists.{AreTrueRows}
use Rattle.aud_findings.specs.ShownTurn.{turn_seen}
use Rattle.aud_explain_app.specs.declared.explained.Explained.{Explained}
use Rattle.aud_explain_app.specs.Events.{AreEvents}
use Rattle.aud_explain_app.specs.Noted.{IsNoted}
use Rattle.aud_explain_app.specs.Refused.{IsRefusedTold}
use Rattle.aud_explain_app.specs.Turns.{turns_told}

-- the account of the session with this pid; none where its turns or its client are not known
abbrev pub IsAccountFound : Cluster → Text → Option Account → Type 0
IsAccountFound c pid account = MatchOption account ((fault : Fault) × HasMakeFault c pid fault) (IsAccountOf c pid)

-- what is told of the session with this pid is so: over these logs, where these are the lines of the input, this is the
-- verdict on the session, and for it these recoveries were asked
pub record IsExplained (c : Cluster) (lines : List TapLines) (pid : Text) (verdict : Verdict) (asked : List Recovery) (told : Explained) : Type 0 where
  pub account : Option Account
  pub is_account : IsAccountFound c pid account
  pub noted : Noted
  pub is_noted : IsNoted c pid verdict (option_map (λ (a : Account). a.client) account) noted
  -- each row of the evidence is a record of the bundle on its line, and together they show the fault
  pub rows_are_true : AreTrueRows c lines told.outcome.evidence.items
  pub evidence : IsEvidence c lines pid (is_some account) verdict (map row_seen told.outcome.evidence.items)
  pub client : option_map client_seen told.outcome.client ≡ client_of c pid (map row_seen told.outcome.evidence.items)
  pub received : IsReceivedShown c pid (is_some account) verdict told.outcome.account
  pub also : IsAlsoShown c lines pid (is_some account) verdict (others_seen told.outcome.also)
  pub turns : map turn_seen told.turns.items ≡ turns_told c lines pid account
  pub recoveries : AllZip (IsRefusedTold c lines) (filter is_refused asked) told.refused.items
  pub events : AreEvents c lines (only_of (naming_places c.taps pid)) pid asked told.events.items
  -- a cause is certain exactly where it is the only one, and the fault can have others
  pub causes : AreCauses c lines (only_of (naming_places c.taps pid)) pid noted account verdict told.causes.items
  pub sure : All (λ (cause : CauseFound). is_certain cause.state ≡ is_sure verdict told.causes.items) told.causes.items
