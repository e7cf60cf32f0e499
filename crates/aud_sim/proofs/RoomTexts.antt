-- A `BTreeSet` of texts, seen as a set of rooms.
use Rattle.std.proofs.Common.{◌≡◌, Bool, true, false, cond, ℕ, List, map, arith, ◌∙◌, string_bytes}
use Rattle.std.specs.declared.string.String.{String}
use Rattle.std.specs.declared.alloc.Global.{Global}
use Rattle.std.specs.List.{list_any}
use Rattle.std.specs.Ordering.{nat_cmp, is_eq, eq_by_cmp}
use Rattle.std.specs.Cmp.Lexicographic.{slice_cmp, nat_list_cmp_total, texts_ties}
use Rattle.std.specs.FinSet as set
use Rattle.std.specs.Str.{bytes_eq}
use Rattle.std.specs.Cmp.{eq_by_cmp_equiv}
use Rattle.aud_base.proofs.Lists.{any-map}
use Rattle.aud_rooms.specs.Rooms.{Rooms}
use Rattle.aud_rooms.proofs.RoomMaps.{same_rooms}

-- the set of the texts
abbrev pub texts : List (String Global) → Rooms
texts keys = set.from_list (map string_bytes keys)

-- the text is one of these
abbrev pub has_text : List (String Global) → List ℕ → Bool
has_text keys text = list_any (λ k. is_eq (slice_cmp nat_cmp text (string_bytes k))) keys

-- the set contains the texts that are kept
pub contains-texts : (keys : List (String Global)) (text : List ℕ) → set.contains (texts keys) text ≡ has_text keys text
contains-texts keys text =
    set.contains-from_list nat_list_cmp_total (map string_bytes keys) text ∙ any-map (eq_by_cmp (slice_cmp nat_cmp) text) string_bytes keys

module _ (keys news : List (String Global)) (text : List ℕ) where
  -- the set of the texts with one more
  pub texts-insert : ((q : List ℕ) → has_text news q ≡ cond (bytes_eq text q) true (has_text keys q)) → texts news ≡ set.insert (texts keys) text
  texts-insert updates = same_rooms _ _ (λ q.
      grind (arith, contains-texts news q, contains-texts keys q, updates q, texts_ties text q, (eq_by_cmp_equiv nat_list_cmp_total).symm text q, set.contains-insert nat_list_cmp_total (texts keys) text q))

  -- the set of the texts without one
  pub texts-remove : ((q : List ℕ) → has_text news q ≡ cond (bytes_eq text q) false (has_text keys q)) → texts news ≡ set.remove (texts keys) text
  texts-remove updates = same_rooms _ _ (λ q.
      grind (arith, contains-texts news q, contains-texts keys q, updates q, texts_ties text q, (eq_by_cmp_equiv nat_list_cmp_total).symm text q, set.contains-remove nat_list_cmp_total (texts keys) text q))
