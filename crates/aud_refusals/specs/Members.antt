-- The members of a line's object: their keys and forms, and which a record has.
use Rattle.std.specs.Prelude.{ℕ, List, [], ◌∷◌, codes, find, Bool, not, is_some, Option, if◌then◌else◌}
use Rattle.serde_json.specs.Data.{Data}
use Rattle.aud_tap.specs.Forms.{is_text}
use Rattle.aud_tap.specs.Json.{text_at}
use Rattle.aud_reader.specs.Fields.{number_at, id_at, id_or_null_at, namespace_at, bytes_at, texts_at, blobs_at}
use Rattle.aud_refusals.specs.declared.member.Member.{Member}
use Rattle.aud_refusals.specs.declared.member.Member.TheVariants as member

-- the key of a member
abbrev pub key_of : Member → List ℕ
key_of member.Kind = codes "k"
key_of member.Version = codes "v"
key_of member.Of = codes "of"
key_of member.Off = codes "off"
key_of member.OffOrNull = codes "off"
key_of member.Nsp = codes "nsp"
key_of member.Text = codes "text"
key_of member.Rooms = codes "rooms"
key_of member.Except = codes "except"
key_of member.Bin = codes "bin"
key_of member.Pid = codes "pid"
key_of member.Sid = codes "sid"
key_of member.Room = codes "room"
key_of member.Turn = codes "turn"
key_of member.Connection = codes "c"
key_of member.Message = codes "t"
key_of member.Bytes = codes "b"

-- the value has this member, of its type and form, where a line is read
abbrev pub is_formed : Member → Data → Bool
is_formed member.Kind d = is_some (text_at (codes "k") d)
is_formed member.Version d = is_some (number_at (codes "v") d)
is_formed member.Of d = is_some (text_at (codes "of") d)
is_formed member.Off d = is_some (id_at (codes "off") d)
is_formed member.OffOrNull d = is_some (id_or_null_at (codes "off") d)
is_formed member.Nsp d = is_some (namespace_at (codes "nsp") d)
is_formed member.Text d = is_some (text_at (codes "text") d)
is_formed member.Rooms d = is_some (texts_at (codes "rooms") d)
is_formed member.Except d = is_some (texts_at (codes "except") d)
is_formed member.Bin d = is_some (blobs_at (codes "bin") d)
is_formed member.Pid d = is_some (id_at (codes "pid") d)
is_formed member.Sid d = is_some (id_at (codes "sid") d)
is_formed member.Room d = is_some (text_at (codes "room") d)
is_formed member.Turn d = is_some (number_at (codes "turn") d)
is_formed member.Connection d = is_some (number_at (codes "c") d)
is_formed member.Message d = is_some (text_at (codes "t") d)
is_formed member.Bytes d = is_some (bytes_at (codes "b") d)

-- the members of a line of this kind, in the order in which they are looked at; none of a kind that no tap has
abbrev pub members_of : List ℕ → List Member
members_of kind =
    if is_text kind (codes "tap") then member.Version ∷ member.Of ∷ []
    else (if is_text kind (codes "ev") then member.Off ∷ member.Nsp ∷ member.Text ∷ member.Rooms ∷ member.Except ∷ member.Bin ∷ []
    else (if is_text kind (codes "other") then member.Off ∷ []
    else (if is_text kind (codes "start") then member.OffOrNull ∷ []
    else (if is_text kind (codes "take") then member.Off ∷ []
    else (if is_text kind (codes "takes") then member.Off ∷ []
    else (if is_text kind (codes "open") then member.Pid ∷ member.Sid ∷ member.Nsp ∷ []
    else (if is_text kind (codes "join") then member.Pid ∷ member.Room ∷ []
    else (if is_text kind (codes "leave") then member.Pid ∷ member.Room ∷ []
    else (if is_text kind (codes "break") then member.Pid ∷ member.Turn ∷ []
    else (if is_text kind (codes "back") then member.Pid ∷ member.Turn ∷ []
    else (if is_text kind (codes "gone") then member.Pid ∷ []
    else (if is_text kind (codes "conn") then member.Connection ∷ []
    else (if is_text kind (codes "in") then member.Message ∷ []
    else (if is_text kind (codes "inb") then member.Bytes ∷ []
    else (if is_text kind (codes "poll") then member.Message ∷ []
    else (if is_text kind (codes "out") then member.Message ∷ []
    else []))))))))))))))))

-- the first of these members that is missing, or not of its type or form
abbrev pub first_unformed : List Member → Data → Option Member
first_unformed members d = find (λ m. not (is_formed m d)) members
