-- Which turn of a session a stay of its client is of.
use Rattle.std.specs.Prelude.{ℕ, suc, ◌-◌, Bool, true, false, not, ◌&&◌, List, [], ◌∷◌, length, max, Option, Some, None, if◌then◌else◌, nat_eq, nat_le, nat_lt, slice_get}
use Rattle.aud_tap.specs.declared.records.StreamRec.{StreamRec}
use Rattle.aud_client.specs.StaySeen.{StaySeen}
use Rattle.aud_client.specs.Received.{is_recovered}
use Rattle.aud_cert.specs.Certificate.{TurnSeen}
use Rattle.aud_check.specs.Frames.{asked_position}

-- the number of the stay in which the frame stands, over the frames of the stays, stay after stay; stays count on from
-- this number
abbrev pub stay_of_frame : List StaySeen → ℕ → ℕ → ℕ
stay_of_frame [] number frame = number
stay_of_frame (stay ∷ stays) number frame =
    if nat_lt frame (length stay.frames) then number else stay_of_frame stays (suc number) (frame - length stay.frames)

-- the position after which the client asked to go on in the stay, if that is a recovery
abbrev pub asked_after : List StreamRec → Option StaySeen → Option ℕ
asked_after stream None = None
asked_after stream (Some stay) = if is_recovered stay then asked_position stream stay.asked else None

-- the client asked to go on after no entry past this position
abbrev pub is_up_to : ℕ → Option ℕ → Bool
is_up_to high None = true
is_up_to high (Some after) = nat_le after high

-- there is a stay, and it begins as the turn with this number does: the first did not ask for the session, as turn 0
-- begins with an `open`; each later one did, as each later turn begins with a `back`, to go on after no entry past this
-- position
abbrev pub begins_as_turn : List StreamRec → ℕ → ℕ → Option StaySeen → Bool
begins_as_turn stream number high None = false
begins_as_turn stream number high (Some stay) =
    if nat_eq number 0 then not (is_recovered stay) else is_recovered stay && is_up_to high (asked_position stream stay.asked)

-- the stay with the number of each of these turns begins so, and asks for nothing past what the turns before it reached;
-- turns count on from this number, and those before reached up to this position
abbrev pub begin_as_turns : List StreamRec → List StaySeen → ℕ → ℕ → List TurnSeen → Bool
begin_as_turns stream stays high number [] = true
begin_as_turns stream stays high number (t ∷ later) =
    begins_as_turn stream number high (slice_get stays number) && begin_as_turns stream stays (max t.high high) (suc number) later

-- the stays match the turns one by one, though no record of the client names a turn: there are as many, and each begins
-- as its turn does
abbrev pub stays_match : List StreamRec → List TurnSeen → List StaySeen → Bool
stays_match stream turns stays = nat_eq (length turns) (length stays) && begin_as_turns stream stays 0 0 turns
