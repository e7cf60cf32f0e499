use Rattle.std.proofs.Common.{◌≡◌, ◌++◌, drop, flat_map, map, option_to_list}
use Rattle.std.specs.Prelude.{string_bytes}
use denote.Shadow.{shadow}
use denote.Text.{Utf8}
use Rattle.aud_causes.specs.Filled.{figure_text, filled}
use Rattle.aud_causes.proofs.why.filled.Given as goal

-- the text so far, with the rest filled with the figures that are left, is the whole
abbrev pub invariant-loop-figure : goal.invariant-loop-figure
invariant-loop-figure l =
    shadow (Utf8 l.rest)
    × (string_bytes l.text ++ filled l.rest (map (figure_text l.logs) (flat_map option_to_list (drop l.figure-index l.figures)))
    ≡ filled l.words (map (figure_text l.logs) (flat_map option_to_list l.figures)))
