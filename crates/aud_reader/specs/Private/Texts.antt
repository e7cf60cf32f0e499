-- Sets of texts, which the reader of a bundle keeps so that it looks for nothing among the records.
use Rattle.std.specs.Prelude.{◌≡◌, ℕ, ◌≤◌, List}
use Rattle.std.specs.List.{list_any}
use Rattle.std.specs.HashSet.{HashSet, contains}
use Rattle.std.specs.Set.{distinct_count}
use Rattle.aud_tap.specs.Forms.{is_text}
use Rattle.aud_reader.specs.Bundle.{max_pids}

-- a set of texts has those of a list
abbrev pub HasTexts : {S : Type 0} → HashSet (List ℕ) S → List (List ℕ) → Type 0
HasTexts set texts = (text : List ℕ) → contains is_text set text ≡ list_any (is_text text) texts

-- a set has these pids, and no more than may be
pub record HasPids {S : Type 0} (set : HashSet (List ℕ) S) (pids : List (List ℕ)) : Type 0 where
  pub texts : HasTexts set pids
  pub few : distinct_count is_text pids ≤ max_pids
