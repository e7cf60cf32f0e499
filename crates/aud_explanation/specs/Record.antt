-- What a record says, in words, and of which session. Names stand there as `Named.antt` has them.
use Rattle.std.specs.Prelude.{ℕ, List, ◌++◌, codes, decimal, if◌then◌else◌, Option, Some, None}
use Rattle.std.specs.Borrow.{Bor}
use Rattle.std.specs.Option.{option_copied}
use Rattle.std.specs.Str.{bytes_eq}
use Rattle.aud_explanation.specs.declared.name.Names.{Names}
use Rattle.aud_explanation.specs.Named.{name_words, named_words}
use Rattle.aud_rows.specs.declared.row.Says.{Says}
use Rattle.aud_rows.specs.declared.row.Says.TheVariants.{Entry, Start, Take, Takes, Open, Join, Leave, Break, Back, Gone, Asks, Reply, Got, Lost, Lacks, NoPacket}

-- what the record says, with long names whole or short
abbrev pub record_text : Names → Says → List ℕ
record_text names (Entry position off) = codes "entry " ++ decimal position ++ codes " " ++ name_words names off.now
record_text names (Start cursor) = codes "start, cursor " ++ decimal cursor
record_text names (Take position off) = codes "take " ++ decimal position ++ codes " " ++ name_words names off.now
record_text names (Takes position off) = codes "takes up to " ++ decimal position ++ codes " " ++ name_words names off.now
record_text names (Open sid nsp cursor) =
    codes "open, sid " ++ name_words names sid.now ++ codes ", namespace " ++ name_words names nsp.now ++ codes ", cursor " ++ decimal cursor
record_text names (Join room) = codes "join " ++ name_words names room.now
record_text names (Leave room) = codes "leave " ++ name_words names room.now
record_text names (Break turn cursor) = codes "break " ++ decimal turn ++ codes ", cursor " ++ decimal cursor
record_text names (Back turn cursor) = codes "back " ++ decimal turn ++ codes ", cursor " ++ decimal cursor
record_text names Gone = codes "gone"
record_text names (Asks conn pid off) =
    codes "conn " ++ decimal conn ++ codes " asks " ++ name_words names pid.now ++ named_words names (codes " after ") (option_copied off) (codes ", no offset")
record_text names (Reply conn sid pid) =
    codes "conn " ++ decimal conn ++ codes " reply, sid " ++ name_words names sid.now ++ named_words names (codes ", pid ") (option_copied pid) (codes ", no pid")
record_text names (Got conn position off) = codes "conn " ++ decimal conn ++ codes " got " ++ decimal position ++ codes " " ++ name_words names off.now
record_text names (Lost conn) = codes "conn " ++ decimal conn ++ codes " lost"
record_text names (Lacks conn missing) = codes "conn " ++ decimal conn ++ codes " packet, attachments missing: " ++ decimal missing
record_text names (NoPacket conn) = codes "conn " ++ decimal conn ++ codes " no packet"

-- the session that a record speaks of, where it isn't the one with this pid
abbrev pub other_session : List ℕ → Option (Bor (List ℕ)) → Option (List ℕ)
other_session pid (Some session) = if bytes_eq session.now pid then None else Some session.now
other_session pid None = None
