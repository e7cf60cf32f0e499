-- Positions in the stream from an entry on.
use Rattle.std.proofs.Common.{◌≡◌, ℕ, ◌+◌, ◌-◌, ◌<◌, zero, suc, Bool, true, false, cond, List, [], ◌∷◌, length, get_or, drop, refl, ap, ◌∙◌, arith, Option, Some, None, option_map, unwrap_or, map, slice_get}
use Rattle.std.specs.Str.{bytes_eq}
use Rattle.std.proofs.lemmas.List.{at_drop_more}
use Rattle.std.proofs.lemmas.Bool.Decides.{nat_tests}
use Rattle.std.proofs.lemmas.Slice.Eq.{bytes_eq-Decides}
use Rattle.std.proofs.lemmas.Option.{slice_get-map}
use Rattle.aud_tap.specs.declared.records.StreamRec.{StreamRec}
use Rattle.aud_node.specs.Lists.{first_index}
use Rattle.aud_node.specs.Recoverable.{is_recoverable}
use Rattle.aud_node.specs.AtPosition.{is_recoverable_at}
use Rattle.aud_node.specs.Private.NextPosition.{next_position}
use Rattle.aud_node.specs.Stream.{Text, position, offset_of}
use Rattle.aud_node.specs.Private.OffsetIndex.{kept_position, AreFirst, HoldsPositions}
use Rattle.aud_node.proofs.ListLemmas.{drop-read}
use Rattle.aud_node.specs.declared.offset_map.OffsetMap.{OffsetMap}

-- the position of an offset that stands after so many entries
abbrev pub position_after : List StreamRec → ℕ → Text → Option ℕ
position_after stream i off = option_map (λ p. i + p) (position (drop i stream) off)

-- one entry more in front
pub position_after-step : (stream : List StreamRec) (i : ℕ) (d : StreamRec) (off : Text) → i < length stream
    → position_after stream i off ≡ cond (bytes_eq (offset_of (get_or stream i d)) off) (Some (i + 1)) (position_after stream (i + 1) off)
position_after-step stream i d off h =
    grind (arith, at_drop_more (λ es. option_map (λ p. i + p) (position es off)) stream i d h)

-- an offset that no entry has isn't that of any
not_there : (stream : List StreamRec) (off other : Text) (i : ℕ) → position stream off ≡ None → bytes_eq off other ≡ true → position stream other ≡ Some (suc i) → ⊥
not_there stream off other i none same there =
    let is : off ≡ other = (bytes_eq-Decides off other).0 same in
    let at : position stream off ≡ Some (suc i) = ap (position stream) is ∙ there in
    cc

-- one entry more in front, whose offset no later one has
pub AreFirst-cons : (e : StreamRec) (stream : List StreamRec) → position stream (offset_of e) ≡ None → AreFirst stream → AreFirst (e ∷ stream)
AreFirst-cons e stream none first zero x is = grind (arith, (bytes_eq-Decides (offset_of e) (offset_of x)).1)
AreFirst-cons e stream none first (suc i) x is = grind (arith, not_there stream (offset_of e) (offset_of x) i none, first i x is)

-- the entry has the offset
abbrev pub has_this_offset : Text → StreamRec → Bool
has_this_offset off e = bytes_eq (offset_of e) off

-- an offset's position is one more than the index of the first entry that has it
pub position-first_index : (stream : List StreamRec) (off : Text) → position stream off ≡ option_map suc (first_index (has_this_offset off) stream)
position-first_index [] off = refl
position-first_index (e ∷ es) off = go (has_this_offset off e) (position-first_index es off)
  where
    go : (b : Bool) → position es off ≡ option_map suc (first_index (has_this_offset off) es)
        → cond b (Some 1) (option_map suc (position es off)) ≡ option_map suc (cond b (Some 0) (option_map suc (first_index (has_this_offset off) es)))
    go true ih = refl
    go false ih = ap (option_map suc) ih

-- the positions of the entries after so many
pub record HoldsAfter (stream : List StreamRec) (i : ℕ) (offsets : OffsetMap) : Type 0 where
  pub positions_are : (off : Text) → kept_position offsets off ≡ position_after stream i off
  pub are_first : offsets.distinct ≡ true → AreFirst (drop i stream)

-- one entry more in front
pub HoldsAfter-step : (stream : List StreamRec) (n : ℕ) (e : StreamRec) (old new : OffsetMap) → 0 < n → n - 1 < length stream → e ≡ get_or stream (n - 1) e → HoldsAfter stream n old
    → ((q : Text) → kept_position new q ≡ cond (bytes_eq (offset_of e) q) (Some (n - 1 + 1)) (kept_position old q))
    → (new.distinct ≡ true → old.distinct ≡ true) → (new.distinct ≡ true → kept_position old (offset_of e) ≡ None)
    → HoldsAfter stream (n - 1) new
HoldsAfter-step stream n e old new some within read held marked was_distinct was_new =
    let next : n - 1 + 1 ≡ n = omega arith in
    let front = drop-read stream n e some within read in
    record {
      positions_are = λ off. grind (arith, marked off, held.positions_are off, position_after-step stream (n - 1) e off within, read, next);
      are_first = λ distinct. grind (arith, front, held.positions_are (offset_of e), was_new distinct, AreFirst-cons e (drop n stream), held.are_first (was_distinct distinct));
    }

-- the entries after none are all
pub HoldsAfter-all : (stream : List StreamRec) (offsets : OffsetMap) → HoldsAfter stream 0 offsets → HoldsPositions stream offsets
HoldsAfter-all stream offsets held = record { positions_are = λ off. grind (arith, held.positions_are off); are_first = held.are_first }

-- the offset is that of the entry, if there is one
abbrev pub has_offset : Option StreamRec → Text → Bool
has_offset None off = false
has_offset (Some e) off = bytes_eq (offset_of e) off

-- no offset has position 0
positive : (stream : List StreamRec) (off : Text) → position stream off ≡ Some 0 → ⊥
positive [] off h = cc
positive (e ∷ es) off h = grind (arith, h)

-- the entry at the position of an offset has it
there : (stream : List StreamRec) (off : Text) (i : ℕ) → position stream off ≡ Some (suc i) → has_offset (slice_get stream i) off ≡ true
there [] off i h = cc
there (e ∷ es) off zero h = grind (arith, h, positive es off)
there (e ∷ es) off (suc i) h = grind (arith, h, there es off i)

-- an offset that the entry after the cursor hasn't
pub next-other : (stream : List StreamRec) (off : Text) (cursor : ℕ) → has_offset (slice_get stream cursor) off ≡ false → None ≡ next_position stream off cursor
next-other stream off cursor other = grind (arith, nat_tests, there stream off cursor)

-- the offset of the entry after the cursor, which is the first with it
pub next-first : (stream : List StreamRec) (e : StreamRec) (off : Text) (cursor : ℕ) → AreFirst stream → slice_get stream cursor ≡ Some e → bytes_eq (offset_of e) off ≡ true → Some (suc cursor) ≡ next_position stream off cursor
next-first stream e off cursor first here same =
    grind (arith, nat_tests, (bytes_eq-Decides (offset_of e) off).0 same, first cursor e here)

-- the flag that is kept for the entry at a position
pub recoverable-flag : (stream : List StreamRec) (p : ℕ) → 0 < p → unwrap_or (slice_get (map is_recoverable stream) (p - 1)) false ≡ is_recoverable_at stream p
recoverable-flag stream zero h = absurd (omega arith)
recoverable-flag stream (suc i) h = grind (arith, slice_get-map is_recoverable stream i)
