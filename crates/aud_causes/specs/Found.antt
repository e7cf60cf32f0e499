-- Causes that were found, as they are told.
use Rattle.std.specs.Prelude.{ℕ, Bool, ◌++◌, List, map, string_bytes, Option}
use Rattle.aud_node.specs.Cluster.{Cluster}
use Rattle.aud_node.specs.Stream.{Text}
use Rattle.aud_input.specs.TapLines.{TapLines}
use Rattle.aud_explanation.specs.declared.cause.CauseState.{CauseState}
use Rattle.aud_causes.specs.declared.cause.Cause.{Cause}
use Rattle.aud_causes.specs.declared.found.CauseFound.{CauseFound}
use Rattle.aud_causes.specs.Filled.{figure_text, filled}
use Rattle.aud_causes.specs.Table.{row_of, id_text}
use Rattle.aud_causes.specs.Records.{lines_at}
use Rattle.aud_causes.specs.State.{state_of}
use Rattle.aud_causes.specs.Texts.{texts_told}

-- what is told of a cause: its name, how it stands, the lines of the records that show it, what happened, with both
-- texts where they part, and what to do
pub record CauseSeen : Type 0 where
  pub id : Text
  pub state : CauseState
  pub lines : List ℕ
  pub why : Text
  pub todo : Text

abbrev pub cause_seen : CauseFound → CauseSeen
cause_seen f = record { id = f.id.now; state = f.state; lines = f.lines.items; why = string_bytes f.why; todo = f.todo.now }

-- what is told of this cause, where these are the lines of the input, this is the place of the session's client's tap,
-- if there is one, and these are the numbers of its stays there
abbrev pub shown_cause : Cluster → List TapLines → Option ℕ → List ℕ → CauseState → Cause → CauseSeen
shown_cause c lines client numbers state cause =
    record {
      id = id_text cause;
      state = state;
      lines = lines_at c lines client numbers (row_of cause).records;
      why = filled (row_of cause).why (map (figure_text c) (row_of cause).figures) ++ texts_told c client numbers cause;
      todo = (row_of cause).todo;
    }

-- what is told of it among these, which are all that hold, where there are others that were ruled out, or not
abbrev pub shown_among : Cluster → List TapLines → Option ℕ → List ℕ → Bool → List Cause → Cause → CauseSeen
shown_among c lines client numbers others found cause = shown_cause c lines client numbers (state_of others found cause) cause

-- of each of them
abbrev pub shown_causes : Cluster → List TapLines → Option ℕ → List ℕ → Bool → List Cause → List CauseSeen
shown_causes c lines client numbers others found = map (shown_among c lines client numbers others found) found
