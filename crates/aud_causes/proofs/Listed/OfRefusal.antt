-- The causes of a refused recovery have names of its list.
use Rattle.std.proofs.Common.{◌≡◌, ◌∷◌, [], ℕ, Bool, true, List, Option, Some, None, map, option_to_list, refl, sym, ap, ◌∙◌, slice_get}
use Rattle.std.specs.List.{list_all}
use Rattle.std.proofs.lemmas.List.Folds.{list_all-map}
use Rattle.aud_node.specs.Cluster.{Cluster}
use Rattle.aud_node.specs.Stream.{Text, position}
use Rattle.aud_client.specs.StaySeen.{AskedSeen, StaySeen}
use Rattle.aud_input.specs.TapLines.{TapLines}
use Rattle.aud_session_facts.specs.declared.marks.TurnMark.{TurnMark}
use Rattle.aud_session_facts.specs.Marks.{turn_marks}
use Rattle.aud_causes.specs.declared.cause.Cause.{Cause}
use Rattle.aud_causes.specs.declared.found.CauseFound.{CauseFound}
use Rattle.aud_causes.specs.Candidates.{is_refusal_candidate}
use Rattle.aud_causes.specs.Delivery.{held}
use Rattle.aud_causes.specs.Found.{CauseSeen, cause_seen, shown_among, shown_causes}
use Rattle.aud_causes.specs.Refusals.{asked_too_early, causes_of_asked, got_of, marks_before, never_broken, node_ended, offset_cause, refusal_causes, session_over, stay_causes, unknown_offset}
use Rattle.aud_causes.specs.Table.{id_text}
use Rattle.aud_causes.proofs.Listed.Each.{parts}

-- the cause has a name of its list
abbrev in_refusal : Cause → Bool
in_refusal cause = is_refusal_candidate (id_text cause)

offset_listed : (c : Cluster) (off : Option Text) → list_all in_refusal (option_to_list (offset_cause c off)) ≡ true
offset_listed c None = refl
offset_listed c (Some off) = unknown (position c.stream off)
  where
    unknown : (p : Option ℕ) → list_all in_refusal (option_to_list (unknown_offset c off p)) ≡ true
    unknown None = search parts
    unknown (Some p) = refl

asked_listed : (c : Cluster) (marks before opening : List TurnMark) (off : Option Text)
    → list_all in_refusal
    (held (offset_cause c off ∷ session_over before ∷ node_ended c before ∷ never_broken before ∷ asked_too_early c marks opening ∷ [])) ≡ true
asked_listed c marks before opening off = search (offset_listed, parts) depth 14

refused_listed : (c : Cluster) (stays : List StaySeen) (number : ℕ) (got : Text) (asked : Option AskedSeen) → list_all in_refusal (causes_of_asked c stays number asked got) ≡ true
refused_listed c stays number got None = refl
refused_listed c stays number got (Some asked) =
    let marks = turn_marks c asked.pid in
    asked_listed c marks (marks_before marks stays number asked.pid) (turn_marks c got) asked.offset

refusal_listed : (c : Cluster) (stays : List StaySeen) (number : ℕ) → list_all in_refusal (refusal_causes c stays number) ≡ true
refusal_listed c stays number = go (slice_get stays number)
  where
    go : (o : Option StaySeen) → list_all in_refusal (stay_causes c stays number o) ≡ true
    go None = refl
    go (Some stay) = refused_listed c stays number (got_of stay.reply) stay.asked

-- as they are told
abbrev has_name : CauseSeen → Bool
has_name seen = is_refusal_candidate seen.id

pub refusal_told : (c : Cluster) (lines : List TapLines) (client : Option ℕ) (stays : List StaySeen) (number : ℕ) (causes : List CauseFound)
    → map cause_seen causes ≡ shown_causes c lines client (number ∷ []) true (refusal_causes c stays number)
    → list_all (λ (cause : CauseFound). is_refusal_candidate cause.id.now) causes ≡ true
refusal_told c lines client stays number causes told =
    let found = refusal_causes c stays number in
    sym (list_all-map has_name cause_seen causes)
    ∙ ap (list_all has_name) told
    ∙ list_all-map has_name (shown_among c lines client (number ∷ []) true found) found
    ∙ refusal_listed c stays number
