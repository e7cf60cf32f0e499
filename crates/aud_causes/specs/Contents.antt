-- What an event that isn't its entry may come from.
use Rattle.std.specs.Prelude.{ℕ, Bool, true, false, not, ◌&&◌, ◌||◌, List, [], ◌∷◌, length, nat_eq, count_by, Option, Some, None, Ok, Err, slice_get}
use Rattle.std.specs.List.{list_all}
use Rattle.std.specs.Option.{option_map}
use Rattle.std.specs.Str.{bytes_eq}
use Rattle.serde_json.specs.Data.{Data, Items, no_items, item}
use Rattle.serde_json.specs.Find.{as_array}
use Rattle.serde_json.specs.View.{view}
use Rattle.aud_sio.specs.Packet.{packet_of}
use Rattle.aud_tap.specs.declared.records.Event.{Event}
use Rattle.aud_tap.specs.declared.records.StreamRec.{StreamRec}
use Rattle.aud_tap.specs.declared.records.StreamRec.TheVariants.{Ev}
use Rattle.aud_node.specs.Cluster.{Cluster}
use Rattle.aud_node.specs.Stream.{Text, entry}
use Rattle.aud_client.specs.Replies.{value_of}
use Rattle.aud_client.specs.StaySeen.{FrameSeen}
use Rattle.aud_check.specs.declared.content.Altered.{Altered as AlteredFrame}
use Rattle.aud_causes.specs.declared.cause.Cause.{Cause}
use Rattle.aud_causes.specs.declared.cause.Cause.TheVariants.{AnotherEncoder, AttachmentsReordered, AnotherEvent, Altered}
use Rattle.aud_causes.specs.declared.contents.Said.{Said}
use Rattle.aud_causes.specs.Delivery.{cause_if, held}
use Rattle.aud_causes.specs.SameJson.{same_value}
use Rattle.aud_causes.specs.Texts.{frame_of}

-- ---- what an event says

-- the namespace of an event, and the value of its payload
pub record SaidSeen : Type 0 where
  pub nsp : Text
  pub value : Data

-- what contracts see of it
abbrev pub said_view : Said → SaidSeen
said_view said = record { nsp = said.nsp.now; value = view said.value }

-- what the text of an event says
abbrev pub said_in : Text → Option SaidSeen
said_in text =
    elim (packet_of text) [
      | Ok packet ↦ option_map (λ value. record { nsp = packet.nsp; value = value }) (value_of packet.payload)
      | Err fault ↦ None
    ]

-- both are read, and this holds of them
abbrev pub of_both : (SaidSeen → SaidSeen → Bool) → Option SaidSeen → Option SaidSeen → Bool
of_both holds (Some one) (Some other) = holds one other
of_both holds _ _ = false

-- they say the same: in the same namespace the same JSON value
abbrev pub says_same : SaidSeen → SaidSeen → Bool
says_same one other = bytes_eq one.nsp other.nsp && same_value one.value other.value

-- ---- its name and its arguments

-- these items
abbrev pub listed : Items → List Data
listed no_items = []
listed (item d ds) = d ∷ listed ds

abbrev pub elements_in : Option Items → List Data
elements_in None = []
elements_in (Some items) = listed items

-- the elements of an array: of an event's payload its name and its arguments
abbrev pub elements : Data → List Data
elements value = elements_in (as_array value)

-- both are there and the same, or neither is there
abbrev pub same_name : Option Data → Option Data → Bool
same_name None None = true
same_name (Some one) (Some other) = same_value one other
same_name _ _ = false

-- an event has another name than the other, or another number of arguments
abbrev pub is_other_call : List Data → List Data → Bool
is_other_call one other = not (nat_eq (length one) (length other) && same_name (slice_get one 0) (slice_get other 0))

-- so it is of what they say, or they are of two namespaces
abbrev pub is_other_event : SaidSeen → SaidSeen → Bool
is_other_event one other = not (bytes_eq one.nsp other.nsp) || is_other_call (elements one.value) (elements other.value)

-- ---- its attachments

-- the attachments are the same, in the same order
abbrev pub are_same : List (List ℕ) → List (List ℕ) → Bool
are_same [] [] = true
are_same (one ∷ bin) (other ∷ others) = bytes_eq one other && are_same bin others
are_same _ _ = false

-- how many of the attachments are this one
abbrev pub times : List ℕ → List (List ℕ) → ℕ
times one bin = count_by (bytes_eq one) bin

-- this one is there as often as among the others
unfoldable pub is_as_often : List (List ℕ) → List (List ℕ) → List ℕ → Bool
is_as_often bin others one = nat_eq (times one bin) (times one others)

-- they are the others in some order: there are as many, and each of the others is there as often
abbrev pub are_same_in_any_order : List (List ℕ) → List (List ℕ) → Bool
are_same_in_any_order bin others = nat_eq (length bin) (length others) && list_all (is_as_often bin others) others

-- ---- the causes

-- the event says what its entry says
abbrev pub says_the_entry : FrameSeen → Event → Bool
says_the_entry frame event = of_both says_same (said_in frame.text) (said_in event.text)

-- those that hold of this frame, which parts from this entry so: it says what its entry says, and its attachments are the
-- entry's, so that only its text was written by another encoder; or they are the entry's in another order; it doesn't say
-- that, or its attachments aren't the entry's in any order, so that something altered it; it has another name than its
-- entry, or another number of arguments, or is of another namespace: an event of the application's own
abbrev pub event_causes : FrameSeen → Event → AlteredFrame → List Cause
event_causes frame event altered =
    held
    (cause_if (says_the_entry frame event && are_same frame.bin event.bin) (AnotherEncoder altered.frame altered.part)
    ∷ cause_if (says_the_entry frame event && not (are_same frame.bin event.bin) && are_same_in_any_order frame.bin event.bin) (AttachmentsReordered altered.frame)
    ∷ cause_if (not (says_the_entry frame event && are_same_in_any_order frame.bin event.bin)) (Altered altered.frame altered.part)
    ∷ cause_if (of_both is_other_event (said_in frame.text) (said_in event.text)) (AnotherEvent altered.frame) ∷ [])

-- the same where there is such a frame and its entry is an event; else it is altered
abbrev pub causes_against : Option FrameSeen → Option StreamRec → AlteredFrame → List Cause
causes_against (Some frame) (Some (Ev event)) altered = event_causes frame event altered
causes_against frame entry altered = Altered altered.frame altered.part ∷ []

-- those of the session's first frame that isn't its entry, where these are the numbers of its stays in the client's tap
-- at this place
abbrev pub content_causes : Cluster → ℕ → List ℕ → AlteredFrame → List Cause
content_causes c client numbers altered = causes_against (frame_of c numbers altered.frame client) (entry c.stream altered.position) altered
