-- What a record brings to a tap, where it was read before the tap was looked at.
use Rattle.std.specs.Prelude.{ℕ, List, [], ◌∷◌, ◌++◌, length, Bool, true, false, not, option_to_list, Result, Ok, Err}
use Rattle.aud_reader.specs.declared.fault.InputCode.{InputCode}
use Rattle.aud_reader.specs.declared.fault.InputCode.TheVariants.{UnknownKind, HeaderTwice}
use Rattle.aud_tap.specs.declared.records.Version.{Version}
use Rattle.aud_tap.specs.declared.records.Version.TheVariants.{One, Two}
use Rattle.aud_tap.specs.declared.records.NodeRec.{NodeRec}
use Rattle.aud_tap.specs.declared.records.NodeRec.TheVariants.{Takes}
use Rattle.aud_tap.specs.declared.records.ClientRec.{ClientRec}
use Rattle.aud_tap.specs.declared.records.Rec.{Rec}
use Rattle.aud_tap.specs.declared.records.Rec.TheVariants as rec
use Rattle.aud_tap.specs.declared.taps.Records.{Records}
use Rattle.aud_tap.specs.declared.taps.Records.TheVariants.{Stream, Node, Client}
use Rattle.aud_base.specs.Steps.{◌>>=◌, guard}
use Rattle.aud_tap.specs.RecordFields.{pid_of}
use Rattle.aud_reader.specs.Bundle.{with_new_entry, node_room, client_room}

abbrev pub is_takes : NodeRec → Bool
is_takes (Takes off) = true
is_takes r = false

-- a node's tap of this version may have the record: `takes` is of version 2
abbrev pub has_record : Version → NodeRec → Bool
has_record One r = not (is_takes r)
has_record Two r = true

-- a node's records with another, if there is room for it, beside the pids of all node records
abbrev pub with_room_for : List (List ℕ) → List NodeRec → NodeRec → Result (List NodeRec) InputCode
with_room_for pids records r = node_room (length records) (pids ++ option_to_list (pid_of r)) >>= (λ room. Ok (records ++ r ∷ []))

-- a node's records, in a tap of this version, with another
abbrev pub with_new_node_record : Version → List (List ℕ) → List NodeRec → NodeRec → Result (List NodeRec) InputCode
with_new_node_record version pids records r = guard UnknownKind (has_record version r) >>= (λ known. with_room_for pids records r)

-- a client's records with another
abbrev pub with_new_client_record : List ClientRec → ClientRec → Result (List ClientRec) InputCode
with_new_client_record records r = client_room records r >>= (λ room. Ok (records ++ r ∷ []))

-- the records of a tap of this version with another; a record of another kind of tap, or a header, is refused
abbrev pub with_new_record : Version → List (List ℕ) → Records → Rec → Result Records InputCode
with_new_record version pids (Stream entries) (rec.Stream entry) = with_new_entry entries entry >>= (λ more. Ok (Stream more))
with_new_record version pids (Node records) (rec.Node r) = with_new_node_record version pids records r >>= (λ more. Ok (Node more))
with_new_record version pids (Client records) (rec.Client r) = with_new_client_record records r >>= (λ more. Ok (Client more))
with_new_record version pids records (rec.Header of v) = Err HeaderTwice
with_new_record version pids records r = Err UnknownKind
