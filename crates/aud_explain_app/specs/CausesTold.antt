-- What the explanation of a session tells of causes.
use Rattle.std.specs.Prelude.{◌≡◌, ℕ, Bool, not, ◌&&◌, List, ◌++◌, flat_map, map}
use Rattle.aud_node.specs.Lists.{is_empty}
use Rattle.aud_node.specs.Stream.{Text}
use Rattle.aud_causes.specs.declared.found.CauseFound.{CauseFound}
use Rattle.aud_causes.specs.Candidates.{refuted}
use Rattle.aud_explain_app.specs.declared.summary.causes.CausesTold.{CausesTold}
use Rattle.aud_explain_app.specs.Summary.Causes.{name_of}
use Rattle.aud_verdict.specs.declared.verdict.Verdict.{Verdict}
use Rattle.aud_explain_app.specs.declared.explained.Explained.{Explained}
use Rattle.aud_explain_app.specs.declared.refused_told.RefusedTold.{RefusedTold}

-- the names of these causes
abbrev pub names_of : List CauseFound → List Text
names_of causes = map (λ (cause : CauseFound). cause.id.now) causes

-- those of the refusals
abbrev pub names_of_refusals : List RefusedTold → List Text
names_of_refusals refused = flat_map (λ (told : RefusedTold). names_of told.causes.items) refused

-- causes of the session's fault are known, and none of them holds: all were refuted
abbrev pub is_unknown : Verdict → List CauseFound → Bool
is_unknown verdict causes = is_empty causes && not (is_empty (refuted verdict causes))

-- what is told of causes where this is explained of a session, on which this is the verdict, and so many others are named:
-- the causes of the fault, and after them those of the refused recoveries
pub record AreCausesTold (verdict : Verdict) (others : ℕ) (explained : Explained) (told : CausesTold) : Type 0 where
  pub ids : map name_of told.ids.items ≡ names_of explained.causes.items ++ names_of_refusals explained.refused.items
  pub unknown : told.is_unknown ≡ is_unknown verdict explained.causes.items
  pub alike : told.others ≡ others
