-- A place where no client's tap is.
use Rattle.std.proofs.Common.{◌≡◌, ℕ, List, [], ◌∷◌, Option, Some, None, option_map, refl, sym, ap, ◌∙◌, arith}
use Rattle.std.proofs.lemmas.Option.{none-some, slice_get_past}
use Rattle.aud_tap.specs.declared.records.StreamRec.{StreamRec}
use Rattle.aud_tap.specs.declared.records.ClientRec.{ClientRec}
use Rattle.aud_node.specs.Cluster.{Cluster}
use Rattle.aud_node.specs.NodeTaps.{client_at}
use Rattle.aud_client.specs.StaySeen.{StaySeen}
use Rattle.aud_client.specs.Received.{transcript_at, transcript_of}
use Rattle.aud_rows.specs.StayRows.{stays_at, stays_in}
use Rattle.aud_session_facts.specs.FramePlaces.{frame_at}

-- no frame stands in no stays
none_there : (numbers : List ℕ) (frame : ℕ) → frame_at [] numbers frame ≡ None
none_there [] frame = refl
none_there (n ∷ numbers) frame = grind (arith, slice_get_past {X = StaySeen} [] n (omega arith), none_there numbers frame)

-- where there is no client's tap there are no stays
no_stays : (stream : List StreamRec) (o : Option (List ClientRec)) → option_map (transcript_of stream) o ≡ None → stays_in stream o ≡ []
no_stays stream None e = refl
no_stays stream (Some recs) e = absurd (none-some _ (sym e))

-- and no frames
pub no_frame : (c : Cluster) (client frame : ℕ) (numbers : List ℕ) → transcript_at c client ≡ None → frame_at (stays_at c client) numbers frame ≡ None
no_frame c client frame numbers e = ap (λ stays. frame_at stays numbers frame) (no_stays c.stream (client_at c client) e) ∙ none_there numbers frame
