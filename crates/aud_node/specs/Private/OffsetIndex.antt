-- What the index of offsets answers.
use Rattle.std.specs.Prelude.{◌≡◌, ℕ, suc, ◌-◌, ◌<◌, nat_lt, Bool, true, List, map, length, Option, Some, slice_get, slice_index_or}
use Rattle.std.specs.Option.{option_map_or}
use Rattle.std.specs.Str.{bytes_eq}
use Rattle.std.specs.HashMap as hash
use Rattle.aud_tap.specs.Rank.{rank}
use Rattle.aud_tap.specs.declared.records.StreamRec.{StreamRec}
use Rattle.aud_node.specs.Stream.{Text, offset_of, position}
use Rattle.aud_node.specs.declared.offset_map.OffsetMap.{OffsetMap}
use Rattle.aud_node.specs.declared.offsets.Offsets.{Offsets}
use Rattle.aud_node.specs.declared.offsets.Offsets.TheVariants.{Ascending, Any}

-- the position that is kept for the offset
abbrev pub kept_position : OffsetMap → Text → Option ℕ
kept_position offsets off = hash.get_by (λ k. bytes_eq off k.now) offsets.positions

-- each entry is the first with its offset
abbrev pub AreFirst : List StreamRec → Type 0
AreFirst stream = (i : ℕ) (e : StreamRec) → slice_get stream i ≡ Some e → position stream (offset_of e) ≡ Some (suc i)

-- the positions are those of the stream, and where its offsets are called distinct, each entry is the first with its
-- own
pub record HoldsPositions (stream : List StreamRec) (offsets : OffsetMap) : Type 0 where
  pub positions_are : (off : Text) → kept_position offsets off ≡ position stream off
  pub are_first : offsets.distinct ≡ true → AreFirst stream

-- each number is less than those after it
abbrev pub Ascend : List ℕ → Type 0
Ascend xs = (i j d : ℕ) → i < j → j < length xs → slice_index_or xs i d < slice_index_or xs j d

-- the number is greater than the last of these
abbrev pub is_past : List ℕ → ℕ → Bool
is_past xs y = option_map_or (λ x. nat_lt x y) (slice_get xs (length xs - 1)) true

-- the rank of the entry's offset
abbrev pub rank_at : StreamRec → ℕ
rank_at e = rank (offset_of e)

-- the ranks are those of the entries' offsets, and ascend
pub record HoldsRanks (stream : List StreamRec) (ranks : List ℕ) : Type 0 where
  pub ranks_are : ranks ≡ map rank_at stream
  pub ascend : Ascend ranks

-- what is kept of the offsets: their ranks, which ascend, or the position of each
abbrev pub HoldsOffsets : List StreamRec → Offsets → Type 0
HoldsOffsets stream (Ascending ranks) = HoldsRanks stream ranks.items
HoldsOffsets stream (Any offsets) = HoldsPositions stream offsets
