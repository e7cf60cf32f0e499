-- What the records of the stream's tap say.
use Rattle.std.specs.Prelude.{ℕ, suc, List, Option, slice_get}
use Rattle.std.specs.Option.{option_map}
use Rattle.aud_tap.specs.declared.records.StreamRec.{StreamRec}
use Rattle.aud_node.specs.Stream.{offset_of}
use Rattle.aud_rows.specs.Seen.{SaysSeen, Entry}

-- what the record with this number of the stream's tap says: positions count from 1
abbrev pub stream_says_at : List StreamRec → ℕ → Option SaysSeen
stream_says_at recs number = option_map (λ rec. Entry (suc number) (offset_of rec)) (slice_get recs number)
