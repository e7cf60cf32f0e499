-- The last event in stays.
use Rattle.std.specs.Prelude.{ℕ, List, Option, flat_map}
use Rattle.aud_client.specs.StaySeen.{StaySeen}
use Rattle.aud_session_facts.specs.Missed.{last_position}

-- the position of the last event in the stays
abbrev pub last_in_stays : List StaySeen → Option ℕ
last_in_stays stays = last_position (flat_map (λ (stay : StaySeen). stay.frames) stays)
