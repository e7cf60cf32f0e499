-- Which stay of a list of stays goes on in a namespace.
use Rattle.std.specs.Prelude.{ℕ, suc, Bool, false, List, [], ◌∷◌, Option, Some, None, if◌then◌else◌}
use Rattle.std.specs.List.{list_any}
use Rattle.std.specs.Option.{option_map}
use Rattle.std.specs.Str.{bytes_eq}
use Rattle.aud_node.specs.Stream.{Text}
use Rattle.aud_client.specs.TapPackets.{TapPacket}
use Rattle.aud_client.specs.Stays.{namespace, is_disconnect, stay_after, stays}

-- whether the stay is in the namespace
abbrev pub of_namespace : Text → List TapPacket → Bool
of_namespace n [] = false
of_namespace n (p ∷ ps) = bytes_eq (namespace p) n

-- whether any of the stays is in the namespace
abbrev pub has_stay : Text → List (List TapPacket) → Bool
has_stay n ss = list_any (of_namespace n) ss

-- the place of the last stay in the namespace
abbrev pub place : Text → List (List TapPacket) → Option ℕ
place n [] = None
place n (s ∷ ss) = if has_stay n ss then option_map suc (place n ss) else (if of_namespace n s then Some 0 else None)

-- the place of the stay that goes on in the namespace: none after a DISCONNECT
abbrev pub open_place : Text → List TapPacket → Option ℕ
open_place n packets = if list_any is_disconnect (stay_after n packets) then None else place n (stays packets)
