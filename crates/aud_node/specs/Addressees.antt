-- What the index of the stream by whom its entries are addressed to answers.
use Rattle.std.specs.Prelude.{ℕ, Bool, false, List, length, Option, Some, None, ◌&&◌, ◌==◌}
use Rattle.std.specs.List.{filter, list_any}
use Rattle.std.specs.Str.{bytes_eq}
use Rattle.aud_tap.specs.declared.records.StreamRec.{StreamRec}
use Rattle.aud_tap.specs.declared.records.StreamRec.TheVariants.{Ev, Other}
use Rattle.aud_node.specs.Stream.{Text, entry, positions_after}
use Rattle.aud_node.specs.Recoverable.{is_recoverable}

-- the entry is an event of the namespace, and the room is one of its rooms
abbrev pub names_room : StreamRec → Text → Text → Bool
names_room (Ev event) nsp room = bytes_eq event.nsp nsp && list_any (λ other. bytes_eq other room) event.rooms
names_room (Other off) nsp room = false

-- the entry is an event of the namespace, and has no rooms
abbrev pub names_no_room : StreamRec → Text → Bool
names_no_room (Ev event) nsp = bytes_eq event.nsp nsp && (length event.rooms == 0)
names_no_room (Other off) nsp = false

-- there is an entry, it is recoverable, and it names the room
abbrev pub is_to_room : Option StreamRec → Text → Text → Bool
is_to_room None nsp room = false
is_to_room (Some e) nsp room = is_recoverable e && names_room e nsp room

-- there is an entry, it is recoverable, and it is for the whole namespace
abbrev pub is_to_all : Option StreamRec → Text → Bool
is_to_all None nsp = false
is_to_all (Some e) nsp = is_recoverable e && names_no_room e nsp

-- the entry is an event, of any namespace, and the room is one that it excepts
abbrev pub excepts_room : StreamRec → Text → Bool
excepts_room (Ev event) room = list_any (λ other. bytes_eq other room) event.except
excepts_room (Other off) room = false

-- there is an entry, it is recoverable, and it excepts the room
abbrev pub is_excepting : Option StreamRec → Text → Bool
is_excepting None room = false
is_excepting (Some e) room = is_recoverable e && excepts_room e room

-- the positions, ascending, of the recoverable entries of the namespace that name the room
abbrev pub positions_to_room : List StreamRec → Text → Text → List ℕ
positions_to_room stream nsp room = filter (λ p. is_to_room (entry stream p) nsp room) (positions_after 0 (length stream))

-- the positions, ascending, of the recoverable entries for the whole namespace
abbrev pub positions_to_all : List StreamRec → Text → List ℕ
positions_to_all stream nsp = filter (λ p. is_to_all (entry stream p) nsp) (positions_after 0 (length stream))

-- the positions, ascending, of the recoverable entries, of any namespace, that except the room
abbrev pub positions_excepting : List StreamRec → Text → List ℕ
positions_excepting stream room = filter (λ p. is_excepting (entry stream p) room) (positions_after 0 (length stream))
