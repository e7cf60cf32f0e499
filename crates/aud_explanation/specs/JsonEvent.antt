-- What happened to the client as an object.
use Rattle.std.specs.Prelude.{ℕ, List, [], ◌∷◌, codes, Option, Some, None}
use Rattle.serde_json.specs.Data.{Data, string, array, object, no_members, member}
use Rattle.aud_cert.specs.Text.{items, whole}
use Rattle.aud_explanation.specs.declared.event.ClientEvent.{ClientEvent}
use Rattle.aud_explanation.specs.declared.event.Happens.{Happens}
use Rattle.aud_explanation.specs.declared.event.Happens.TheVariants.{Asks, Reply, Refused, Got, Lost}
use Rattle.aud_explanation.specs.JsonValue.{number_or_null}

-- what happens
abbrev pub happens_word : Happens → List ℕ
happens_word (Asks after) = codes "asks"
happens_word Reply = codes "reply"
happens_word Refused = codes "refused"
happens_word (Got from to) = codes "got"
happens_word Lost = codes "lost"

-- the position after which the client asks to go on
abbrev pub after_at : Happens → Option ℕ
after_at (Asks after) = after
after_at _ = None

-- the first position that it receives
abbrev pub from_at : Happens → Option ℕ
from_at (Got from to) = Some from
from_at _ = None

-- the last position that it receives
abbrev pub to_at : Happens → Option ℕ
to_at (Got from to) = Some to
to_at _ = None

-- `{"after":..,"from":..,"happens":..,"lines":[first,last],"to":..}`
abbrev pub event_data : ClientEvent → Data
event_data e =
    object (member (codes "after") (number_or_null (after_at e.happens))
    (member (codes "from") (number_or_null (from_at e.happens))
    (member (codes "happens") (string (happens_word e.happens))
    (member (codes "lines") (array (items whole (e.first ∷ e.last ∷ [])))
    (member (codes "to") (number_or_null (to_at e.happens)) no_members)))))
