-- The members of the client, and of what it received.
use Rattle.std.specs.Prelude.{codes, Option, Some, None}
use Rattle.serde_json.specs.Data.{null, string, Members, put}
use Rattle.aud_cert.specs.Text.{whole}
use Rattle.aud_verdict.specs.declared.verdict.Verdict.{Verdict}
use Rattle.aud_explanation.specs.declared.client.Client.{Client}
use Rattle.aud_explanation.specs.declared.client.Account.{Account}
use Rattle.aud_explanation.specs.ShownTail.{shown_tail}
use Rattle.aud_explanation.specs.JsonValue.{number_or_null}

-- the tap, the namespace, and the connection; `null` where there is no client
unfoldable pub with_client : Option Client → Members → Members
with_client (Some c) ms = put (codes "conn") (number_or_null c.conn) (put (codes "nsp") (string c.nsp.now) (put (codes "client") (string c.tap.now) ms))
with_client None ms = put (codes "conn") null (put (codes "nsp") null (put (codes "client") null ms))

-- what was received of what was due; `null` where the delivery was not judged, and the tail where it isn't shown
unfoldable pub with_account : Verdict → Option Account → Members → Members
with_account verdict (Some a) ms = put (codes "at_frame") (number_or_null a.at_frame) (put (codes "tail") (number_or_null (shown_tail verdict a.tail)) (put (codes "due") (whole a.due) (put (codes "got") (whole a.got) ms)))
with_account verdict None ms = put (codes "at_frame") null (put (codes "tail") null (put (codes "due") null (put (codes "got") null ms)))
