-- The stays whose reply names a session.
use Rattle.std.specs.Prelude.{Bool, false, ◌&&◌, not, List, Option, Some, None}
use Rattle.std.specs.List.{list_all}
use Rattle.std.specs.Str.{bytes_eq}
pub use Rattle.aud_node.specs.Lists.{is_empty}
use Rattle.aud_node.specs.Stream.{Text}
use Rattle.aud_client.specs.Replies.{ReplySeen}
use Rattle.aud_rooms.specs.Turns.{Who}
use Rattle.aud_client.specs.StaySeen.{StaySeen}

-- there is a reply, and it has this sid
abbrev pub has_sid : Text → Option ReplySeen → Bool
has_sid sid None = false
has_sid sid (Some reply) = bytes_eq reply.sid sid

-- the stay is of the session's namespace, and its reply has the session's sid
abbrev pub is_of_session : Who → StaySeen → Bool
is_of_session who stay = bytes_eq stay.nsp who.nsp && has_sid who.sid stay.reply

-- there are stays, and each is of the session
abbrev pub are_of_session : Who → List StaySeen → Bool
are_of_session who stays = not (is_empty stays) && list_all (is_of_session who) stays
