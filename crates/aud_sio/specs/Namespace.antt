-- The namespace of a packet (Socket.IO protocol 5, "Packet encoding").
use Rattle.std.specs.Prelude.{ℕ, ◌==◌, List, codes, slice_index, Bool, if◌then◌else◌}
use Rattle.std.specs.List.{before_first, after_first}

-- what ends a namespace
abbrev pub is_comma : ℕ → Bool
is_comma byte = byte == 44

-- the namespace of a packet that names none
abbrev pub main_namespace : List ℕ
main_namespace = codes "/"

-- a namespace begins with a slash and ends at the first comma, which is dropped
unfoldable pub leading_namespace : List ℕ → List ℕ × List ℕ
leading_namespace text = if slice_index text 0 == 47 then (before_first is_comma text, after_first is_comma text) else (main_namespace, text)
