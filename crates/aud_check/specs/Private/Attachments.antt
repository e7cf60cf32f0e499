-- Where attachments part from an entry's.
use Rattle.std.specs.Prelude.{◌≢◌, ℕ, List, length}
use Rattle.aud_check.specs.declared.content.Part.{Part}
use Rattle.aud_check.specs.declared.content.Part.TheVariants.{Count, Attachment}
use Rattle.aud_check.specs.Content.{IsAttachmentPart}

-- the numbers of attachments differ, or they are the same and an attachment parts there
abbrev pub IsAttachmentsPart : List (List ℕ) → List (List ℕ) → Part → Type 0
IsAttachmentsPart bin others Count = length bin ≢ length others
IsAttachmentsPart bin others (Attachment number at) = IsAttachmentPart bin others number at
IsAttachmentsPart bin others _ = ⊥
