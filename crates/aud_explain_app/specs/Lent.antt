-- What is told, as an explanation lends it.
use Rattle.std.specs.Prelude.{ℕ, Bool, not, List, flat_map, map, option_to_list, Option}
use Rattle.std.specs.Option.{option_copied, option_map}
use Rattle.aud_node.specs.Lists.{is_empty}
use Rattle.aud_node.specs.Stream.{Text}
use Rattle.aud_causes.specs.declared.found.CauseFound.{CauseFound}
use Rattle.aud_causes.specs.Candidates.{text_of}
use Rattle.aud_causes.specs.Found.{CauseSeen, cause_seen}
use Rattle.aud_explanation.specs.declared.also.Also.{Also}
use Rattle.aud_explanation.specs.declared.cause.Cause.{Cause}
use Rattle.aud_explanation.specs.declared.cause.CauseOf.{CauseOf}
use Rattle.aud_explanation.specs.declared.cause.CauseOf.TheVariants.{Refused}
use Rattle.aud_explanation.specs.declared.refused.RefusedRecovery.{RefusedRecovery}
use Rattle.aud_findings.specs.Also.{AlsoSeen}
use Rattle.aud_rows.specs.Seen.{row_seen}
use Rattle.aud_findings.specs.declared.timeline.refused.RefusedShown.{RefusedShown}
use Rattle.aud_findings.specs.Refused.{RefusedSeen, missed_seen, refused_seen}
use Rattle.aud_explain_app.specs.declared.refused_told.RefusedTold.{RefusedTold}

abbrev pub also_told : Also → AlsoSeen
also_told also = record { position = also.position; to = also.to; lines = also.lines.now }

-- what a cause is of, and the cause
abbrev pub cause_told : Cause → CauseOf × CauseSeen
cause_told cause = (cause.of, record { id = cause.id.now; state = cause.state; lines = cause.lines.now; why = cause.why.now; todo = cause.todo.now })

-- the same of one that was found of this
abbrev pub cause_of : CauseOf → CauseFound → CauseOf × CauseSeen
cause_of of cause = (of, cause_seen cause)

-- a refused recovery: what shows it, whether a cause of it is told, and the names of those that were refuted
pub record RecoveryTold : Type 0 where
  pub shown : RefusedSeen
  pub has_cause : Bool
  pub refuted : List Text

abbrev pub recovery_told : RefusedRecovery → RecoveryTold
recovery_told r =
    record {
      shown = record {
        ask = row_seen r.ask;
        reply = option_map row_seen r.reply;
        instead = option_map (λ pid. pid.now) r.instead;
        missed = option_map (λ missed. map missed_seen missed) (option_copied r.missed);
      };
      has_cause = r.has_cause;
      refuted = map text_of r.refuted.now;
    }

-- that of which this is told, where this shows it
abbrev pub recovery_of : RefusedTold → RefusedShown → RecoveryTold
recovery_of told shown = record { shown = refused_seen shown; has_cause = not (is_empty told.causes.items); refuted = map text_of told.refuted.items }

-- the recovery, if it is shown
abbrev pub shown_of : RefusedTold → List RecoveryTold
shown_of told = option_to_list (option_map (recovery_of told) told.shown)

-- the recoveries that are shown
abbrev pub recoveries_shown : List RefusedTold → List RecoveryTold
recoveries_shown refused = flat_map shown_of refused

-- the line of the ask, if the recovery is shown
abbrev pub ask_line : Option RefusedShown → Option ℕ
ask_line shown = option_map (λ (s : RefusedShown). s.ask.line) shown

-- the causes of a refusal, which are of the ask on that line
abbrev pub causes_of_refusal : RefusedTold → List (CauseOf × CauseSeen)
causes_of_refusal told = map (cause_of (Refused (ask_line told.shown))) told.causes.items

-- those of all of them
abbrev pub causes_of_refusals : List RefusedTold → List (CauseOf × CauseSeen)
causes_of_refusals refused = flat_map causes_of_refusal refused
