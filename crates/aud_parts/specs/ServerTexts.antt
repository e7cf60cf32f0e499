-- The lines of a part's taps of the stream and of the nodes, as they are written.
use Rattle.std.specs.Prelude.{◌≡◌, ℕ, true, List, [], Option, get_or, option_map, slice_get, unwrap_or}
use Rattle.std.specs.List.{All}
use Rattle.std.specs.Str.{bytes_eq}
use Rattle.aud_tap.specs.declared.taps.Tap.{Tap}
use Rattle.aud_tap.specs.Names.{first_index}
use Rattle.aud_tap.specs.TapName.{is_tap_name}
use Rattle.aud_input.specs.declared.line_runs.LineRun.{LineRun}
use Rattle.aud_input.specs.LineRuns.{lines_of_runs}
use Rattle.aud_writer.specs.WrittenBundle.{ended, line_texts, named_recs}

-- a tap by its name, with the text of its lines
pub record TapText : Type 0 where
  pub name : List ℕ
  pub text : List ℕ

-- the lines of a tap as a bundle has them: that of its header, and one for each record
abbrev pub tap_text : Tap → TapText
tap_text tap = record { name = tap.name; text = ended (line_texts (named_recs tap)) }

-- each of the taps has a tap's name
abbrev pub AreNamed : List Tap → Type 0
AreNamed taps = All (λ (tap : Tap). is_tap_name tap.name ≡ true) taps

-- the text of taps, the part of it that is that of each, and from which lines of the recording the lines of each come
pub record ServerTexts : Type 0 where
  pub text : List ℕ
  pub taps : List TapText
  pub lines : List (List LineRun)

-- the number of the tap of this name
abbrev pub number_named : List ℕ → ServerTexts → Option ℕ
number_named name servers = first_index (λ (tap : TapText). bytes_eq tap.name name) servers.taps

-- the text of the tap with this number; nothing where there is none
abbrev pub text_at : ServerTexts → ℕ → List ℕ
text_at servers number = unwrap_or (option_map (λ (tap : TapText). tap.text) (slice_get servers.taps number)) []

-- the lines of the recording that its lines come from
abbrev pub lines_from : ServerTexts → ℕ → List ℕ
lines_from servers number = lines_of_runs (get_or servers.lines number [])
