-- Frames that part from their entries.
use Rattle.std.proofs.Common.{◌≡◌, ◌<◌, ℕ, List, length, map, take, get_or, Option, Some, None, option_map, slice_get, refl, sym, ap, ◌∙◌}
use Rattle.std.proofs.lemmas.Option.{same_Some, slice_get-map, slice_get_read}
use Rattle.aud_tap.specs.declared.records.StreamRec.{StreamRec}
use Rattle.aud_tap.specs.declared.records.StreamRec.TheVariants.{Ev, Other}
use Rattle.aud_node.specs.Stream.{entry}
use Rattle.aud_client.specs.StaySeen.{FrameSeen}
use Rattle.aud_check.specs.Frames.{AreEntries, IsOf}
use Rattle.aud_check.proofs.Steps.{at_map, altered_at}
use Rattle.aud_check.specs.declared.content.Part.{Part}
use Rattle.aud_check.specs.declared.content.Part.TheVariants.{NoEvent, Text, Count, Attachment}
use Rattle.aud_check.specs.Content.{IsAltered, IsAttachmentPart, IsPartOf}
use Rattle.aud_check.specs.Parting.{PartAt}

-- where an attachment parts, the attachments are not the same
not_same : (bin others : List (List ℕ)) (number at : ℕ) → IsAttachmentPart bin others number at → bin ≡ others → ⊥
not_same bin others number at p same =
    p.part.part (ap (λ (bytes : List ℕ). slice_get bytes at) (same_Some p.one p.other (sym p.one_is ∙ ap (λ (bs : List (List ℕ)). slice_get bs number) same ∙ p.other_is)))

-- a frame with a part that isn't the entry's isn't that entry
pub not_entry : (frame : FrameSeen) (there : Option StreamRec) (part : Part) → IsPartOf frame there part → IsOf frame there → ⊥
not_entry frame None part p is = is
not_entry frame (Some (Other off)) part p is = is
not_entry frame (Some (Ev event)) NoEvent p is = p
not_entry frame (Some (Ev event)) (Text at) p is = p.part (ap (λ (text : List ℕ). slice_get text at) is.0)
not_entry frame (Some (Ev event)) Count p is = p.1 (ap length is.1)
not_entry frame (Some (Ev event)) (Attachment number at) p is = not_same frame.bin event.bin number at p.1 is.1

module _ {X : Type 0} (f : X → FrameSeen) (stream : List StreamRec) (xs : List X) (i : ℕ) (x : X) (h : i < length xs) (is : x ≡ get_or xs i x) (all : AreEntries stream (take i (map f xs))) where
  -- a frame with such a part, after frames that are their entries, is the first
  pub is_altered : (part : Part) → IsPartOf (f x) (entry stream (f x).position) part → IsAltered stream (map f xs) (record { frame = i; position = (f x).position; part = part })
  is_altered part p =
      record {
        seen = f x;
        is_there = at_map f xs i x h is;
        position_is = refl;
        are_entries = all;
        part = p;
        is_first = altered_at f stream xs i x h is all (not_entry (f x) (entry stream (f x).position) part p);
      }

module _ {X Y : Type 0} (f : X → Y) (g : Y → List ℕ) (xs : List X) (others : List (List ℕ)) (i : ℕ) (x : X) (other : List ℕ) (h : i < length xs) (is : x ≡ get_or xs i x)
    (k : i < length others) (at_other : other ≡ get_or others i other) where
  -- an attachment that parts, after those that are the same, is the first
  pub is_attachment_part : (at : ℕ) → length (map g (map f xs)) ≡ length others → take i (map g (map f xs)) ≡ take i others → PartAt (g (f x)) other at
      → IsAttachmentPart (map g (map f xs)) others i at
  is_attachment_part at count front p =
      record {
        same_count = count;
        same_before = front;
        one = g (f x);
        one_is = slice_get-map g (map f xs) i ∙ ap (option_map g) (at_map f xs i x h is);
        other = other;
        other_is = slice_get_read others (length others) i other refl k at_other;
        part = p;
      }
