-- The first fault, by what was found before it.
use Rattle.std.proofs.Common.{◌≡◌, ◌<◌, ℕ, false, List, [], Some, None, map, sym, ap, subst, ◌∙◌, inl, inr, arith}
use Rattle.aud_tap.specs.declared.records.StreamRec.{StreamRec}
use Rattle.aud_client.specs.StaySeen.{StaySeen, FrameSeen}
use Rattle.aud_client.specs.Received.{TranscriptSeen}
use Rattle.aud_cert.specs.declared.fault.Fault.{Fault}
use Rattle.aud_check.specs.declared.difference.Difference.{Difference}
use Rattle.aud_check.specs.declared.finding.Finding.TheVariants.{Delivery, Window}
use Rattle.aud_check.specs.declared.window.BadWindow.{BadWindow}
use Rattle.aud_merge.specs.ByTurns.{IsPrefixOf}
use Rattle.aud_check.specs.Difference.{IsDifference, difference}
use Rattle.aud_check.specs.Frames.{AreEntries, frames_in, wrong_window}
use Rattle.aud_check.specs.Faults.{Case, HasFault, IsReceived, fault_of, fault_rank, positions_in}
use Rattle.aud_check.specs.Findings.{IsFirstFinding, by_stays}
use Rattle.aud_check.specs.Window.{IsBadWindow}
use Rattle.aud_check.proofs.Agreed.{difference-none}
use Rattle.aud_check.proofs.Cuts.{position_of}
use Rattle.aud_check.proofs.Different.{is_fault}
use Rattle.aud_check.proofs.Ranks.{not_different, what_is_left}

module _ (stream : List StreamRec) (tap : TranscriptSeen) (stays : List StaySeen) (due : List ℕ) (frames : List FrameSeen) (of_stays : frames ≡ frames_in stays) (decodes : tap.bad ≡ None)
    (has_no_orphan : tap.orphan ≡ false) where
  -- what the stays received, against what was due
  abbrev case : Case
  case = by_stays stream tap stays due

  module _ (positions : List ℕ) (of_frames : positions ≡ map position_of frames) (are_entries : AreEntries stream frames) where
    -- the positions are those of the case
    own : positions ≡ positions_in case
    own = of_frames ∙ ap (map position_of) of_stays

    -- what holds is a difference or a window
    left : (other : Fault) → fault_rank other < 4 → HasFault case other → (difference (positions_in case) due ≡ None → ⊥) × (fault_rank other ≡ 3)
    left other before h =
        elim (what_is_left case decodes has_no_orphan (subst (AreEntries stream) of_stays are_entries) other h) [
          | inl found ↦ ((λ none. not_different case none other found.0), found.1)
          | inr found ↦ let rank = found.1 in absurd (omega (arith, before, rank))
        ]

    -- each difference has the same rank
    rank_of : (d : Difference) → fault_rank (fault_of stream d) ≡ 3
    rank_of d = grind arith

    -- a difference comes first
    pub delivery_first : (d : Difference) → Some d ≡ difference positions due → IsDifference positions due d → IsFirstFinding case (Delivery d)
    delivery_first d found shown =
        record {
          shown = subst (λ ps. IsDifference ps due d) own shown;
          is_first =
              record {
                holds = is_fault case d (sym (found ∙ ap (λ ps. difference ps due) own));
                none_before = λ other before h. let rank = (left other (omega (arith, before, rank_of d)) h).1 in omega (arith, before, rank, rank_of d);
              };
        }

    -- where there is none, a window does
    pub window_first : IsPrefixOf positions due → (window : BadWindow) → IsBadWindow stream stays window → IsFirstFinding case (Window window)
    window_first prefix window shown =
        record {
          shown = shown;
          is_first =
              record {
                holds = shown.named;
                none_before = λ other before h. (left other before h).0 ((difference-none (positions_in case) due).1 (subst (λ ps. IsPrefixOf ps due) own prefix));
              };
        }

    -- where nothing is found all is received as it was due
    pub nothing_found : IsPrefixOf positions due → wrong_window stream [] stays ≡ None → IsReceived case
    nothing_found prefix none =
        record {
          decodes = decodes;
          has_no_orphan = has_no_orphan;
          are_entries = subst (AreEntries stream) of_stays are_entries;
          is_prefix = subst (λ ps. IsPrefixOf ps due) own prefix;
          has_no_window = none;
        }
