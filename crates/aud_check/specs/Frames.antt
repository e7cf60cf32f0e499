-- What is wrong with what a client received.
use Rattle.std.specs.Prelude.{◌≡◌, ℕ, Bool, false, not, ◌&&◌, ◌++◌, List, [], ◌∷◌, flat_map, nat_le, nat_lt, Option, Some, None, if◌then◌else◌}
use Rattle.std.specs.List.{list_all}
use Rattle.std.specs.Option.{option_and_then}
use Rattle.aud_tap.specs.declared.records.StreamRec.{StreamRec}
use Rattle.aud_tap.specs.declared.records.StreamRec.TheVariants.{Ev, Other}
use Rattle.aud_node.specs.Stream.{Text, entry, position, offset_of}
use Rattle.aud_client.specs.StaySeen.{AskedSeen, StaySeen, FrameSeen}
use Rattle.aud_client.specs.Received.{is_recovered}

-- the offset of the entry at the position; the empty text where there is none
abbrev pub offset_or_empty : Option StreamRec → Text
offset_or_empty None = []
offset_or_empty (Some entry) = offset_of entry

-- the offset of the entry at a position of the stream
abbrev pub offset_at : List StreamRec → ℕ → Text
offset_at stream p = offset_or_empty (entry stream p)

-- the frame is the entry, if there is one: its text and its attachments are the entry's, byte for byte
abbrev pub IsOf : FrameSeen → Option StreamRec → Type 0
IsOf frame None = ⊥
IsOf frame (Some (Ev event)) = (frame.text ≡ event.text) × (frame.bin ≡ event.bin)
IsOf frame (Some (Other off)) = ⊥

-- the frame is the entry at its position
abbrev pub IsEntry : List StreamRec → FrameSeen → Type 0
IsEntry stream frame = IsOf frame (entry stream frame.position)

-- each of the frames is the entry at its position
abbrev pub AreEntries : List StreamRec → List FrameSeen → Type 0
AreEntries stream [] = Unit {0}
AreEntries stream (frame ∷ frames) = IsEntry stream frame × AreEntries stream frames

-- the frames in front of this one are entries, and this one isn't
pub record IsFirstAltered (stream : List StreamRec) (frames : List FrameSeen) (altered : FrameSeen) : Type 0 where
  pub before : List FrameSeen
  pub after : List FrameSeen
  pub parts : frames ≡ before ++ altered ∷ after
  pub are_entries : AreEntries stream before
  pub is_altered : IsEntry stream altered → ⊥

-- ---- what a client asked for

-- the position after which the client asked to go on; none where it gave no offset, or one that isn't in the stream
abbrev pub asked_position : List StreamRec → Option AskedSeen → Option ℕ
asked_position stream None = None
asked_position stream (Some asked) = option_and_then (position stream) asked.offset

-- the frames in front are not past the position, and those from here on are
abbrev pub is_cut_at : List FrameSeen → List FrameSeen → Option ℕ → Bool
is_cut_at before onward None = false
is_cut_at before onward (Some q) =
    list_all (λ (frame : FrameSeen). nat_le frame.position q) before && list_all (λ (frame : FrameSeen). nat_lt q frame.position) onward

-- the frames of stays
abbrev pub frames_in : List StaySeen → List FrameSeen
frames_in stays = flat_map (λ (stay : StaySeen). stay.frames) stays

-- the stay is recovered, and was not asked to go on between the frames of the stays in front of it and those from it on
abbrev pub is_asked_wrongly : List StreamRec → List StaySeen → StaySeen → List StaySeen → Bool
is_asked_wrongly stream before stay after =
    is_recovered stay && not (is_cut_at (frames_in before) (frames_in (stay ∷ after)) (asked_position stream stay.asked))

-- the connection of the first stay after these that was asked so
abbrev pub wrong_window : List StreamRec → List StaySeen → List StaySeen → Option ℕ
wrong_window stream before [] = None
wrong_window stream before (stay ∷ after) =
    if is_asked_wrongly stream before stay after then Some stay.c else wrong_window stream (before ++ stay ∷ []) after
