-- What the index of addressees keeps.
use Rattle.std.specs.Prelude.{◌≡◌, ℕ, List, []}
use Rattle.std.specs.Option.{option_map_or}
use Rattle.std.specs.Str.{bytes_eq}
use Rattle.std.specs.HashMap as hash
use Rattle.aud_tap.specs.declared.records.StreamRec.{StreamRec}
use Rattle.aud_node.specs.Stream.{Text}
use Rattle.aud_node.specs.declared.addressees.Addressees.{Addressees}
use Rattle.aud_node.specs.declared.positions.Positions.{Positions}
use Rattle.aud_node.specs.Addressees.{positions_to_room, positions_to_all, positions_excepting}

-- the positions that are kept for the text
abbrev pub kept_of : Positions → Text → List ℕ
kept_of positions text = option_map_or (λ few. few.items) (hash.get_by (λ k. bytes_eq text k.now) positions.by_text) []

-- the positions that are kept for the room of the namespace
abbrev pub kept_to_room : Addressees → Text → Text → List ℕ
kept_to_room addressees nsp room = option_map_or (λ positions. kept_of positions room) (hash.get_by (λ k. bytes_eq nsp k.now) addressees.rooms) []

-- the positions that are kept are those of the stream
pub record HoldsAddressees (stream : List StreamRec) (addressees : Addressees) : Type 0 where
  pub rooms_are : (nsp room : Text) → kept_to_room addressees nsp room ≡ positions_to_room stream nsp room
  pub everyone_is : (nsp : Text) → kept_of addressees.everyone nsp ≡ positions_to_all stream nsp
  pub excepted_are : (room : Text) → kept_of addressees.excepted room ≡ positions_excepting stream room
