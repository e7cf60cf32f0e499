-- The recoveries of a session that were refused.
use Rattle.std.specs.Prelude.{◌≡◌, ◌∷◌, [], List, MatchOption, map, None, Some, true}
use Rattle.aud_node.specs.Cluster.{Cluster}
use Rattle.aud_causes.specs.Candidates.{refuted_of_refusal, text_of}
use Rattle.aud_causes.specs.Found.{cause_seen, shown_causes}
use Rattle.aud_causes.specs.Refusals.{refusal_causes}
use Rattle.aud_input.specs.TapLines.{TapLines}
use Rattle.aud_session_facts.specs.declared.asked.Recovery.{Recovery}
use Rattle.aud_session_facts.specs.Recoveries.{stays_at}
use Rattle.aud_rows.specs.declared.row.Role.TheVariants as role
use Rattle.aud_rows.specs.StayRows.{ask_row}
use Rattle.aud_rows.specs.TrueRow.{IsTrueRow}
use Rattle.aud_findings.specs.declared.timeline.refused.RefusedShown.{RefusedShown}
use Rattle.aud_findings.specs.Refused.{ShowsRefused, refused_seen}
use Rattle.aud_explain_app.specs.declared.refused_told.RefusedTold.{RefusedTold}

-- what is told of the recovery shows it, in true rows, or the line is not known on which it was asked for; and these
-- are the causes of the refusal, and the others that it can have were refuted
pub record IsRefusedTold (c : Cluster) (lines : List TapLines) (recovery : Recovery) (told : RefusedTold) : Type 0 where
  pub shows : MatchOption told.shown (ask_row c lines recovery.client recovery.stay role.Ask ≡ None)
      (λ (shown : RefusedShown). ShowsRefused c lines recovery.client recovery.stay (refused_seen shown))
  pub ask_is_true : MatchOption told.shown (Unit {0}) (λ (shown : RefusedShown). IsTrueRow c lines shown.ask)
  pub reply_is_true : MatchOption told.shown (Unit {0}) (λ (shown : RefusedShown). MatchOption shown.reply (Unit {0}) (IsTrueRow c lines))
  pub causes : map cause_seen told.causes.items
      ≡ shown_causes c lines (Some recovery.client) (recovery.stay ∷ []) true (refusal_causes c (stays_at c recovery.client) recovery.stay)
  pub refuted : map text_of told.refuted.items ≡ refuted_of_refusal told.causes.items
