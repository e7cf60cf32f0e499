-- A part of a recording is a bundle, where it has not too many taps and pids.
use Rattle.std.proofs.Common.{◌≡◌, ◌≢◌, ◌&&◌, ◌+◌, ◌<◌, ◌≤◌, nat_le, ℕ, Bool, true, false, cond, List, [], ◌∷◌, length, map, filter, get_or, count_by, refl, sym, ap, subst, ◌∙◌, arith}
use Rattle.std.specs.List.{All, AllPairs}
use Rattle.std.specs.Set.{distinct_count}
use Rattle.std.proofs.lemmas.Bool.{and_parts, cond_both}
use Rattle.std.proofs.lemmas.List.{length-map, get_or-map}
use Rattle.std.proofs.lemmas.List.Elements.{All-map, All-filter, All-weaker}
use Rattle.std.proofs.lemmas.List.Kept.{AllPairs-filter}
use Rattle.std.proofs.lemmas.List.Sums.{sum_by-cons, length-filter}
use Rattle.aud_tap.specs.declared.records.Version.{Version}
use Rattle.aud_tap.specs.declared.records.TapKind.{TapKind}
use Rattle.aud_tap.specs.declared.records.TapKind.TheVariants as kind
use Rattle.aud_tap.specs.declared.records.NodeRec.{NodeRec}
use Rattle.aud_tap.specs.declared.records.StreamRec.{StreamRec}
use Rattle.aud_tap.specs.declared.records.StreamRec.TheVariants.{Ev, Other}
use Rattle.aud_tap.specs.declared.taps.Records.{Records}
use Rattle.aud_tap.specs.declared.taps.Records.TheVariants.{Stream, Node, Client}
use Rattle.aud_tap.specs.declared.taps.Tap.{Tap}
use Rattle.aud_tap.specs.Forms.{is_text}
use Rattle.aud_tap.specs.Limits.{fit_rooms, max_attachments}
use Rattle.aud_tap.specs.RecordFields.{offset_of}
use Rattle.aud_tap.specs.TapName.{is_tap_name}
use Rattle.aud_tap.specs.WellFormed.{is_offset, is_full_namespace, stream_is_well_formed, node_is_well_formed}
use Rattle.aud_reader.specs.Bundle.{max_pids, max_node_taps, max_client_taps, kind_of_tap, same_kind, taps_on}
use Rattle.aud_reader.specs.TapLaws.{AreDifferent}
use Rattle.aud_writer.specs.OfABundle.{is_of_version, AreRecords, AreOfABundle}
use Rattle.aud_node.specs.Cluster.{stream_of}
use Rattle.aud_node.specs.Stream.{Text}
use Rattle.aud_upgrade.specs.declared.joins.Joins.TheVariants.{TakeAndTakes}
use Rattle.aud_upgrade.specs.Upgraded.{with_runs}
use Rattle.aud_parts.specs.LeftOut.{keeps_record, records_left, tap_left}
use Rattle.aud_parts.specs.MadeOther.{entry_left, entries_left, tap_with_others}
use Rattle.aud_parts.specs.Part.{is_among, is_kept_tap, left_for, is_kept_entry, part_for}
use Rattle.aud_laws.specs.Parts.{AreFormed, AreFew}
use Rattle.aud_laws.proofs.MadeOther.Streams.{offset-left}
use Rattle.aud_laws.proofs.OfABundle.UpgradedTaps.{on-kept, all-pids-kept, upgraded-taps}
use Rattle.aud_laws.proofs.InParts.Each.{filter-swap}
use Rattle.aud_laws.proofs.InParts.Alike.{cut_to}

-- ---- lists of which elements are left out

module _ {X : Type 0} where
  length-kept : (keep : X → Bool) (xs : List X) → length (filter keep xs) ≤ length xs
  length-kept keep [] = omega arith
  length-kept keep (x ∷ xs) = go (keep x) (length-kept keep xs)
    where
      go : (b : Bool) → length (filter keep xs) ≤ length xs → length (cond b (x ∷ filter keep xs) (filter keep xs)) ≤ length (x ∷ xs)
      go true fewer = omega (arith, fewer)
      go false fewer = omega (arith, fewer)

  count-kept : (test keep : X → Bool) (xs : List X) → count_by test (filter keep xs) ≤ count_by test xs
  count-kept test keep xs =
      let some = length-filter test (filter keep xs) in
      let all = length-filter test xs in
      let same = ap length (filter-swap test keep xs) in
      let fewer = length-kept keep (filter test xs) in
      omega (arith, some, all, same, fewer)

module _ {X Y : Type 0} (of : X → Y) (R : Y → Y → Type 0) where
  from_map : (xs : List X) → AllPairs R (map of xs) → AllPairs (λ a b. R (of a) (of b)) xs
  from_map xs all i j d below within =
      let long = length-map xs of in
      subst (λ y. R (of (get_or xs i d)) y) (get_or-map of xs j d (of d) within)
      (subst (λ x. R x (get_or (map of xs) j (of d))) (get_or-map of xs i d (of d) (omega (arith, below, within))) (all i j (of d) below (omega (arith, within, long))))

  to_map : (xs : List X) → AllPairs (λ a b. R (of a) (of b)) xs → AllPairs R (map of xs)
  to_map [] all i j e below within = absurd (omega (arith, within))
  to_map (x ∷ xs) all i j e below within =
      let long = length-map (x ∷ xs) of in
      let shorter : j < length (x ∷ xs) = omega (arith, within, long) in
      subst (λ y. R (get_or (map of (x ∷ xs)) i e) y) (sym (get_or-map of (x ∷ xs) j x e shorter))
      (subst (λ z. R z (of (get_or (x ∷ xs) j x))) (sym (get_or-map of (x ∷ xs) i x e (omega (arith, below, shorter)))) (all i j x below shorter))

  pairs-kept : (keep : X → Bool) (xs : List X) → AllPairs R (map of xs) → AllPairs R (map of (filter keep xs))
  pairs-kept keep xs all = to_map (filter keep xs) (AllPairs-filter (λ a b. R (of a) (of b)) keep xs (from_map xs all))

-- ---- the records of a tap

-- records that are left
left-records : (keep : NodeRec → Bool) (version : Version) (records : Records) → AreRecords version records → AreRecords version (records_left keep records)
left-records keep version (Stream entries) are = are
left-records keep version (Client records) are = are
left-records keep version (Node records) are =
    record {
      few = let fewer = length-kept keep records in let few = are.few in omega (arith, fewer, few);
      kinds = All-filter keep (λ rec. is_of_version version rec ≡ true) records are.kinds;
      formed = All-filter keep (λ rec. node_is_well_formed rec ≡ true) records are.formed;
    }

-- the offset of an entry that is well formed is
pub offset-formed : (e : StreamRec) → stream_is_well_formed e ≡ true → is_offset (offset_of e) ≡ true
offset-formed (Ev event) is =
    let off = is_offset event.off in
    let nsp = is_full_namespace event.nsp in
    let rooms = fit_rooms event.rooms in
    let except = fit_rooms event.except in
    (and_parts off nsp (and_parts (off && nsp) rooms (and_parts (off && nsp && rooms) except (and_parts (off && nsp && rooms && except) (nat_le (length event.bin) max_attachments) is).0).0).0).0
offset-formed (Other off) is = is

module _ (keeps : StreamRec → Bool) where
  offsets-same : (entries : List StreamRec) → map offset_of (map (entry_left keeps) entries) ≡ map offset_of entries
  offsets-same [] = refl
  offsets-same (e ∷ es) = ap (λ off. off ∷ map offset_of (map (entry_left keeps) es)) (offset-left keeps e) ∙ ap (λ offs. offset_of e ∷ offs) (offsets-same es)

  entry-formed : (e : StreamRec) → stream_is_well_formed e ≡ true → stream_is_well_formed (entry_left keeps e) ≡ true
  entry-formed e is = cond_both (keeps e) e (Other (offset_of e)) (λ x. stream_is_well_formed x ≡ true) (λ kept. is) (λ out. offset-formed e is)

  -- entries of which some are `other`
  other-records : (version : Version) (records : Records) → AreRecords version records → AreRecords version (entries_left keeps records)
  other-records version (Node records) are = are
  other-records version (Client records) are = are
  other-records version (Stream entries) are =
      record {
        few = let same = length-map entries (entry_left keeps) in let few = are.few in omega (arith, same, few);
        offsets = subst AreDifferent (sym (offsets-same entries)) are.offsets;
        formed = All-map (λ e. stream_is_well_formed e ≡ true) (entry_left keeps) entries
            (All-weaker (λ e. stream_is_well_formed e ≡ true) (λ e. stream_is_well_formed (entry_left keeps e) ≡ true) entry-formed entries are.formed);
      }

-- ---- taps

names-same : (change : Tap → Tap) → ((tap : Tap) → (change tap).name ≡ tap.name) → (taps : List Tap) → map (λ (tap : Tap). tap.name) (map change taps) ≡ map (λ (tap : Tap). tap.name) taps
names-same change same [] = refl
names-same change same (tap ∷ taps) = ap (λ name. name ∷ map (λ (t : Tap). t.name) (map change taps)) (same tap) ∙ ap (λ names. tap.name ∷ names) (names-same change same taps)

kinds-same : (of : TapKind) (change : Tap → Tap) → ((tap : Tap) → kind_of_tap (change tap).records ≡ kind_of_tap tap.records) → (taps : List Tap) → taps_on of (map change taps) ≡ taps_on of taps
kinds-same of change same [] = refl
kinds-same of change same (tap ∷ taps) =
    let counts : Tap → ℕ = λ t. cond (same_kind of (kind_of_tap t.records)) 1 0 in
    sum_by-cons counts (change tap) (map change taps)
    ∙ ap (λ k. cond (same_kind of k) 1 0 + taps_on of (map change taps)) (same tap)
    ∙ ap (λ n. counts tap + n) (kinds-same of change same taps)
    ∙ sym (sum_by-cons counts tap taps)

-- ---- the part

module _ (pids : List Text) (taps : List Tap) where
  abbrev keep : NodeRec → Bool
  keep = keeps_record (is_among pids)

  abbrev keeps : StreamRec → Bool
  keeps = is_kept_entry (left_for pids taps).taps

  abbrev kept_taps : List Tap
  kept_taps = filter (is_kept_tap pids) taps

  abbrev left_taps : List Tap
  left_taps = map (tap_left keep) kept_taps

  abbrev name_of : Tap → List ℕ
  name_of tap = tap.name

  left-kind : (tap : Tap) → kind_of_tap (records_left keep tap.records) ≡ kind_of_tap tap.records
  left-kind tap = go tap.records
    where
      go : (records : Records) → kind_of_tap (records_left keep records) ≡ kind_of_tap records
      go (Stream entries) = refl
      go (Node records) = refl
      go (Client records) = refl

  other-kind : (tap : Tap) → kind_of_tap (entries_left keeps tap.records) ≡ kind_of_tap tap.records
  other-kind tap = go tap.records
    where
      go : (records : Records) → kind_of_tap (entries_left keeps records) ≡ kind_of_tap records
      go (Stream entries) = refl
      go (Node records) = refl
      go (Client records) = refl

  streams-kept : taps_on kind.Stream (cut_to pids taps).taps ≤ taps_on kind.Stream taps
  streams-kept =
      let one = kinds-same kind.Stream (tap_with_others keeps) other-kind left_taps in
      let two = kinds-same kind.Stream (tap_left keep) left-kind kept_taps in
      let fewer = count-kept (λ (tap : Tap). same_kind kind.Stream (kind_of_tap tap.records)) (is_kept_tap pids) taps in
      omega (arith, one, two, fewer)

  names-kept : AreDifferent (map name_of taps) → AreDifferent (map name_of (cut_to pids taps).taps)
  names-kept different =
      subst AreDifferent (sym (names-same (tap_with_others keeps) (λ tap. refl) left_taps ∙ names-same (tap_left keep) (λ tap. refl) kept_taps))
      (pairs-kept name_of (λ a b. a ≢ b) (is_kept_tap pids) taps different)

  -- what holds of each tap and stays as it is changed holds of each that is left
  each-left : (P : Tap → Type 0) → ((tap : Tap) → P tap → P (tap_left keep tap)) → ((tap : Tap) → P tap → P (tap_with_others keeps tap)) → All P taps → All P (cut_to pids taps).taps
  each-left P first second all =
      let left : All P left_taps = All-map P (tap_left keep) kept_taps (All-weaker P (λ tap. P (tap_left keep tap)) first kept_taps (All-filter (is_kept_tap pids) P taps all)) in
      All-map P (tap_with_others keeps) left_taps (All-weaker P (λ tap. P (tap_with_others keeps tap)) second left_taps left)

  -- the taps before their takes are joined
  cut-bundle : AreFormed taps → AreFew (with_runs (cut_to pids taps).taps) → AreOfABundle (cut_to pids taps).taps
  cut-bundle formed few =
      let cut = (cut_to pids taps).taps in
      let stream = stream_of cut in
      record {
        named = each-left (λ (tap : Tap). is_tap_name tap.name ≡ true) (λ tap is. is) (λ tap is. is) formed.named;
        names = names-kept formed.names;
        stream = let fewer = streams-kept in let one = formed.stream in omega (arith, fewer, one);
        nodes = subst (λ n. n ≤ max_node_taps) (on-kept TakeAndTakes stream kind.Node cut) few.nodes;
        clients = subst (λ n. n ≤ max_client_taps) (on-kept TakeAndTakes stream kind.Client cut) few.clients;
        pids = subst (λ ps. distinct_count is_text ps ≤ max_pids) (all-pids-kept TakeAndTakes stream cut) few.pids;
        records = each-left (λ (tap : Tap). AreRecords tap.version tap.records) (λ tap. left-records keep tap.version tap.records) (λ tap. other-records keeps tap.version tap.records) formed.records;
      }

-- a part is a bundle
pub part-bundle : (taps : List Tap) (pids : List Text) → AreFormed taps → AreFew (part_for pids taps) → AreOfABundle (part_for pids taps)
part-bundle taps pids formed few = upgraded-taps TakeAndTakes (cut_to pids taps).taps (cut-bundle pids taps formed few)
