-- The members of the other entries with the same fault, and of the other sessions with it.
use Rattle.std.specs.Prelude.{ℕ, List, codes}
use Rattle.std.specs.Borrow.{Bor}
use Rattle.serde_json.specs.Data.{Data, array, object, Members, no_members, member, put}
use Rattle.aud_cert.specs.Text.{items, whole}
use Rattle.aud_explanation.specs.declared.also.Also.{Also}
use Rattle.aud_explanation.specs.JsonValue.{text_data}

-- `{"lines":..,"position":..,"to":..}`
abbrev pub also_data : Also → Data
also_data also =
    object (member (codes "lines") (array (items whole also.lines.now)) (member (codes "position") (whole also.position)
    (member (codes "to") (whole also.to) no_members)))

-- the other entries, how many more there are, and the pids of the other sessions
unfoldable pub with_also : List Also → ℕ → List (Bor (List ℕ)) → Members → Members
with_also others left pids ms =
    put (codes "alike") (array (items text_data pids))
    (put (codes "also_left") (whole left) (put (codes "also") (array (items also_data others)) ms))
