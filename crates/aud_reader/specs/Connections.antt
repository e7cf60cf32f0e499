-- The connections that the records of a client tap begin and end.
use Rattle.std.specs.Prelude.{ℕ, nat_lt, List, Bool, true, false, Option, Some, None, unwrap_or}
use Rattle.std.specs.List.{filter_map, last_or}
use Rattle.aud_tap.specs.declared.records.ClientRec.{ClientRec}
use Rattle.aud_tap.specs.declared.records.ClientRec.TheVariants.{Conn, Lost}

-- the number of a connection that begins
abbrev pub connection_begun : ClientRec → Option ℕ
connection_begun (Conn c) = Some c
connection_begun r = None

-- the number of the connection that began last
abbrev pub last_begun : List ClientRec → Option ℕ
last_begun recs = last_or None (filter_map connection_begun recs)

-- where a connection begins, one is open from there on; where it is lost, none is
abbrev pub opens : ClientRec → Option Bool
opens (Conn c) = Some true
opens Lost = Some false
opens r = None

-- a connection is open after these records
abbrev pub connection_is_open : List ClientRec → Bool
connection_is_open recs = unwrap_or (last_or None (filter_map opens recs)) false

abbrev pub is_above : Option ℕ → ℕ → Bool
is_above None c = true
is_above (Some last) c = nat_lt last c

-- a connection begins with a greater number than the one before; any other record stands in an open connection
abbrev pub may_follow : List ClientRec → ClientRec → Bool
may_follow recs (Conn c) = is_above (last_begun recs) c
may_follow recs r = connection_is_open recs
