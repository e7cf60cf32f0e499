-- Help on a refused line.
use Rattle.std.specs.Prelude.{ℕ, List, [], codes, Option, Some, None}
use Rattle.serde_json.specs.Data.{Data}
use Rattle.aud_tap.specs.Limits.{max_line}
use Rattle.aud_reader.specs.declared.fault.InputCode.{InputCode}
use Rattle.aud_reader.specs.declared.fault.InputCode.TheVariants.{LineTooLong, NoTapName, NotJson, NoHeader, UnknownKind, Field, Limit, SecondStream, OffsetTwice, HeaderTwice, Version}
use Rattle.aud_refusals.specs.Opened.{opened}
use Rattle.aud_refusals.specs.TapName.{name_help}
use Rattle.aud_refusals.specs.JsonHelp.{json_help}
use Rattle.aud_refusals.specs.FieldHelp.{field_help}
use Rattle.aud_refusals.specs.LimitHelp.{at_most_text, limit_help}
use Rattle.aud_refusals.specs.KindHelp.{first_help, header_text, kind_help, offset_help, second_help, version_help}

-- help on the value of a line, where the line has a tap's name and JSON
abbrev pub value_help : InputCode → Option ℕ → Option Data → List ℕ
value_help code header None = []
value_help LineTooLong header (Some d) = []
value_help NoTapName header (Some d) = []
value_help NotJson header (Some d) = []
value_help NoHeader header (Some d) = first_help
value_help UnknownKind header (Some d) = kind_help d header
value_help Field header (Some d) = field_help d
value_help Limit header (Some d) = limit_help d
value_help SecondStream header (Some d) = second_help header
value_help OffsetTwice header (Some d) = offset_help d
value_help HeaderTwice header (Some d) = header_text header
value_help Version header (Some d) = version_help d

-- help on a line that is refused for this reason; of the header that stands already the line, where it is known
abbrev pub help_text : List ℕ → InputCode → Option ℕ → List ℕ
help_text line LineTooLong header = at_most_text (codes "A line") max_line (codes "bytes")
help_text line NoTapName header = name_help line
help_text line NotJson header = json_help line
help_text line NoHeader header = value_help NoHeader header (opened line)
help_text line UnknownKind header = value_help UnknownKind header (opened line)
help_text line Field header = value_help Field header (opened line)
help_text line Limit header = value_help Limit header (opened line)
help_text line SecondStream header = value_help SecondStream header (opened line)
help_text line OffsetTwice header = value_help OffsetTwice header (opened line)
help_text line HeaderTwice header = value_help HeaderTwice header (opened line)
help_text line Version header = value_help Version header (opened line)
