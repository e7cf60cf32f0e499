-- Where a frame parts from its entry.
use Rattle.std.specs.Prelude.{◌≡◌, ◌≢◌, ℕ, List, length, take, Option, Some, None, slice_get}
use Rattle.aud_tap.specs.declared.records.StreamRec.{StreamRec}
use Rattle.aud_tap.specs.declared.records.StreamRec.TheVariants.{Ev, Other}
use Rattle.aud_node.specs.Stream.{entry}
use Rattle.aud_client.specs.StaySeen.{FrameSeen}
use Rattle.aud_check.specs.Frames.{AreEntries, IsFirstAltered}
use Rattle.aud_check.specs.declared.content.Part.{Part}
use Rattle.aud_check.specs.declared.content.Part.TheVariants.{NoEvent, Text, Count, Attachment}
use Rattle.aud_check.specs.declared.content.Altered.{Altered}
use Rattle.aud_check.specs.Parting.{PartAt}

-- there are as many attachments; those in front of this one are the same, and this one parts there
pub record IsAttachmentPart (bin others : List (List ℕ)) (number at : ℕ) : Type 0 where
  pub same_count : length bin ≡ length others
  pub same_before : take number bin ≡ take number others
  pub one : List ℕ
  pub one_is : slice_get bin number ≡ Some one
  pub other : List ℕ
  pub other_is : slice_get others number ≡ Some other
  pub part : PartAt one other at

-- it is the first part of the frame that isn't the entry's: there is no event; or the texts part there; or they are the
-- same, and the number of attachments isn't; or all of that is, and an attachment parts there
abbrev pub IsPartOf : FrameSeen → Option StreamRec → Part → Type 0
IsPartOf frame (Some (Ev event)) (Text at) = PartAt frame.text event.text at
IsPartOf frame (Some (Ev event)) Count = (frame.text ≡ event.text) × (length frame.bin ≢ length event.bin)
IsPartOf frame (Some (Ev event)) (Attachment number at) = (frame.text ≡ event.text) × IsAttachmentPart frame.bin event.bin number at
IsPartOf frame (Some (Ev event)) NoEvent = ⊥
IsPartOf frame (Some (Other off)) NoEvent = Unit {0}
IsPartOf frame None NoEvent = Unit {0}
IsPartOf frame _ _ = ⊥

-- of the frames this one is the first that isn't its entry, and which part of it
pub record IsAltered (stream : List StreamRec) (frames : List FrameSeen) (altered : Altered) : Type 0 where
  pub seen : FrameSeen
  pub is_there : slice_get frames altered.frame ≡ Some seen
  pub position_is : altered.position ≡ seen.position
  pub are_entries : AreEntries stream (take altered.frame frames)
  pub part : IsPartOf seen (entry stream seen.position) altered.part
  pub is_first : IsFirstAltered stream frames seen
