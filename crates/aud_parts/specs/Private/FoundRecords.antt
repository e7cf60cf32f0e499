-- The records of a node's log that those of a part come from, as they are found: one after the other.
use Rattle.std.specs.Prelude.{ℕ, suc, ◌&&◌, Bool, false, List, [], ◌∷◌, Option, Some, None, slice_get, if◌then◌else◌}
use Rattle.std.specs.Option.{option_eq, option_map_or}
use Rattle.std.specs.Str.{bytes_eq}
use Rattle.aud_tap.specs.declared.records.NodeRec.{NodeRec}
use Rattle.aud_tap.specs.declared.records.NodeRec.TheVariants.{Take, Takes}
use Rattle.aud_tap.specs.RecordFields.{pid_of}
use Rattle.aud_node.specs.Stream.{Text}

-- the offset of the entry up to which the record takes, if it does
abbrev pub taken : NodeRec → Option Text
taken (Take off) = Some off
taken (Takes off) = Some off
taken _ = None

-- neither text is there, or both are and are the same
abbrev pub are_same : Option Text → Option Text → Bool
are_same one other = option_eq bytes_eq one other

-- the part's record can come from this one: it takes up to the same entry, or is of the same session, or both say how
-- the log begins
abbrev pub comes_from : NodeRec → NodeRec → Bool
comes_from part rec = are_same (taken part) (taken rec) && are_same (pid_of part) (pid_of rec)

-- so can the part's record with this number, if there is one
abbrev pub comes_next : List NodeRec → ℕ → NodeRec → Bool
comes_next part number rec = option_map_or (λ own. comes_from own rec) (slice_get part number) false

-- the places of the records, the first of which stands at this one, that those of the part can come from, one after
-- the other
abbrev pub found : ℕ → List NodeRec → List NodeRec → List ℕ
found place [] part = []
found place (rec ∷ recs) [] = []
found place (rec ∷ recs) (own ∷ part) =
    if comes_from own rec then place ∷ found (suc place) recs part else found (suc place) recs (own ∷ part)
