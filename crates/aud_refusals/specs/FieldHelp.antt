-- Help on a line of which a field is missing, or of another type or form.
use Rattle.std.specs.Prelude.{ℕ, List, [], ◌++◌, codes, is_some, Option, Some, None, if◌then◌else◌}
use Rattle.serde_json.specs.Data.{Data}
use Rattle.serde_json.specs.Find.{get}
use Rattle.aud_tap.specs.Forms.{is_text}
use Rattle.aud_tap.specs.Json.{text_at}
use Rattle.aud_reader.specs.Record.{client_kinds, is_one_of}
use Rattle.aud_refusals.specs.declared.member.Member.{Member}
use Rattle.aud_refusals.specs.declared.member.Member.TheVariants as member
use Rattle.aud_refusals.specs.Members.{key_of, members_of, first_unformed}

-- what a member has to be
abbrev pub form_text : Member → List ℕ
form_text member.Kind = codes "a text"
form_text member.Version = codes "a whole number below 2^64, without sign, point or exponent"
form_text member.Of = codes "a text"
form_text member.Off = codes "a text of bytes 0x21 to 0x7e"
form_text member.OffOrNull = codes "null, or a text of bytes 0x21 to 0x7e"
form_text member.Nsp = codes "a text that begins with / and holds no comma"
form_text member.Text = codes "a text"
form_text member.Rooms = codes "a list of texts, if it is there"
form_text member.Except = codes "a list of texts, if it is there"
form_text member.Bin = codes "a list of texts in padded base64, if it is there"
form_text member.Pid = codes "a text of bytes 0x21 to 0x7e"
form_text member.Sid = codes "a text of bytes 0x21 to 0x7e"
form_text member.Room = codes "a text"
form_text member.Turn = codes "a whole number below 2^64, without sign, point or exponent"
form_text member.Connection = codes "a whole number below 2^64, without sign, point or exponent"
form_text member.Message = codes "a text"
form_text member.Bytes = codes "a text in padded base64"

-- whether a member is there, in words
abbrev pub found_text : Member → Data → List ℕ
found_text m d = if is_some (get (key_of m) d) then codes " is of another type or form: it has to be " else codes " is missing: it has to be "

-- a member that is missing, or of another type or form
abbrev pub unformed_text : Member → Data → List ℕ
unformed_text m d = codes "The field " ++ key_of m ++ found_text m d ++ form_text m ++ codes ".\n"

-- a record of a client whose fields are all of their forms, and that may not follow those before it
abbrev pub follow_text : List ℕ → List ℕ
follow_text kind =
    if is_one_of client_kinds kind then
    (if is_text kind (codes "conn") then codes "The field c has to be greater than that of the conn before it in this tap.\n"
    else codes "This record has to stand while a connection is open: after a conn of this tap, and before its lost.\n")
    else []

-- the first member of a record of this kind that is missing or not of its form, if there is one
abbrev pub named_text : List ℕ → Data → Option Member → List ℕ
named_text kind d None = follow_text kind
named_text kind d (Some m) = unformed_text m d

-- the same where the value says its kind
abbrev pub kind_text : Data → Option (List ℕ) → List ℕ
kind_text d None = unformed_text member.Kind d
kind_text d (Some kind) = named_text kind d (first_unformed (members_of kind) d)

-- help on the value of a line of which a field is missing, or of another type or form
abbrev pub field_help : Data → List ℕ
field_help d = kind_text d (text_at (codes "k") d)
