-- The names of refusals.
use Rattle.std.specs.Prelude.{ℕ, List, codes}
use Rattle.aud_reader.specs.declared.fault.InputCode.{InputCode}
use Rattle.aud_reader.specs.declared.fault.InputCode.TheVariants.{LineTooLong, NoTapName, NotJson, NoHeader, UnknownKind, Field, Limit, SecondStream, OffsetTwice, HeaderTwice, Version}

-- the name of a refusal
abbrev pub code_text : InputCode → List ℕ
code_text LineTooLong = codes "LineTooLong"
code_text NoTapName = codes "NoTapName"
code_text NotJson = codes "NotJson"
code_text NoHeader = codes "NoHeader"
code_text UnknownKind = codes "UnknownKind"
code_text Field = codes "Field"
code_text Limit = codes "Limit"
code_text SecondStream = codes "SecondStream"
code_text OffsetTwice = codes "OffsetTwice"
code_text HeaderTwice = codes "HeaderTwice"
code_text Version = codes "Version"
