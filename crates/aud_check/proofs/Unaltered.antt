-- Stays that tell that each of their frames is its entry.
use Rattle.std.proofs.Common.{◌≡◌, ◌++◌, not, false, List, [], ◌∷◌, suc, Option, Some, None, sym, ◌∙◌, true≢false, arith}
use Rattle.std.specs.Bool.{Decides}
use Rattle.std.specs.Cmp.Lexicographic.{pointwise, pointwise_decides}
use Rattle.std.specs.List.{All, list_any}
use Rattle.std.specs.Str.{bytes_eq}
use Rattle.std.proofs.lemmas.Bool.{not-false, or_parts}
use Rattle.std.proofs.lemmas.Bool.Decides.{Decides-and}
use Rattle.std.proofs.lemmas.Slice.Eq.{bytes_eq-Decides}
use Rattle.aud_tap.specs.declared.records.StreamRec.{StreamRec}
use Rattle.aud_tap.specs.declared.records.StreamRec.TheVariants.{Ev, Other}
use Rattle.aud_node.specs.Stream.{entry}
use Rattle.aud_client.specs.Entries.{FrameSeen, has_altered, is_entry, is_of}
use Rattle.aud_client.specs.StaySeen.{StaySeen, TellsAltered}
use Rattle.aud_check.specs.Frames.{AreEntries, IsEntry, IsOf, frames_in}

-- the test tells whether the frame is the entry
pub of_decides : (frame : FrameSeen) (there : Option StreamRec) → Decides (is_of frame there) (IsOf frame there)
of_decides frame None = (λ e. absurd (true≢false (sym e)), λ is. absurd is)
of_decides frame (Some (Ev event)) =
    Decides-and (bytes_eq frame.text event.text) (pointwise bytes_eq frame.bin event.bin) (bytes_eq-Decides frame.text event.text) (pointwise_decides bytes_eq-Decides frame.bin event.bin)
of_decides frame (Some (Other off)) = (λ e. absurd (true≢false (sym e)), λ is. absurd is)

pub entry_decides : (stream : List StreamRec) (frame : FrameSeen) → Decides (is_entry stream frame) (IsEntry stream frame)
entry_decides stream frame = of_decides frame (entry stream frame.position)

module _ (stream : List StreamRec) where
  -- where none is altered, each is its entry
  unaltered : (frames : List FrameSeen) → has_altered stream frames ≡ false → AreEntries stream frames
  unaltered [] none = tt
  unaltered (frame ∷ frames) none =
      let (here, later) = or_parts (not (is_entry stream frame)) (has_altered stream frames) none in
      ((entry_decides stream frame).0 (not-false (is_entry stream frame) here), unaltered frames later)

  all_entries : (xs ys : List FrameSeen) → AreEntries stream xs → AreEntries stream ys → AreEntries stream (xs ++ ys)
  all_entries [] ys first rest = rest
  all_entries (x ∷ xs) ys first rest = (first.0, all_entries xs ys first.1 rest)

  -- so are those of stays of which none tells of an altered one
  pub entries_of_stays : (stays : List StaySeen) → All (TellsAltered stream) stays → list_any (λ (stay : StaySeen). stay.altered) stays ≡ false → AreEntries stream (frames_in stays)
  entries_of_stays [] tell none = tt
  entries_of_stays (stay ∷ stays) tell none =
      let (here, later) = or_parts stay.altered (list_any (λ (s : StaySeen). s.altered) stays) none in
      all_entries stay.frames (frames_in stays) (unaltered stay.frames (sym (tell 0 stay (omega arith)) ∙ here))
      (entries_of_stays stays (λ k d lt. tell (suc k) d (omega (arith, lt))) later)
