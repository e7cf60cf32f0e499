-- What is needed of the lines before a header or a record, where all the taps are those of a bundle: a new name, and
-- room.
use Rattle.std.proofs.Common.{◌≡◌, ℕ, ◌<◌, ◌≤◌, List, [], ◌∷◌, ◌++◌, length, map, true, false, cond, ◌||◌, Option, Some, None, option_to_list, Ok, refl, sym, ap, subst, ◌∙◌, nat_lt, arith, append_assoc, append-nil, length-append}
use Rattle.std.specs.List.{All, AllByRecursion, IsDistinct, list_any, cons_option, filter_map}
use Rattle.std.specs.Set.{distinct_count}
use Rattle.std.proofs.lemmas.Bool.{lt-ltb, or_parts}
use Rattle.std.proofs.lemmas.Cmp.{nat_list_eq_equiv}
use Rattle.std.proofs.lemmas.Grind.{flat_map-append}
use Rattle.std.proofs.lemmas.List.{map-append}
use Rattle.std.proofs.lemmas.List.Elements.{All-head, All-tail, filter_map-append}
use Rattle.std.proofs.lemmas.List.Folds.{list_any-append}
use Rattle.std.proofs.lemmas.List.Sums.{sum_by-append, sum_by-cons}
use Rattle.std.proofs.lemmas.Map.Made.{IsDistinct-from_AllPairs, length-from_keys, length-le_from_is_member}
use Rattle.std.proofs.lemmas.Slice.Eq.{bytes_eq-Decides}
use Rattle.aud_tap.specs.declared.records.TapKind.{TapKind}
use Rattle.aud_tap.specs.declared.records.TapKind.TheVariants as kind
use Rattle.aud_tap.specs.declared.records.Version.{Version}
use Rattle.aud_tap.specs.declared.records.StreamRec.{StreamRec}
use Rattle.aud_tap.specs.declared.records.NodeRec.{NodeRec}
use Rattle.aud_tap.specs.declared.records.ClientRec.{ClientRec}
use Rattle.aud_tap.specs.declared.taps.Records.TheVariants.{Node}
use Rattle.aud_tap.specs.declared.taps.Tap.{Tap}
use Rattle.aud_tap.specs.Forms.{is_text}
use Rattle.aud_tap.specs.RecordFields.{offset_of, pid_of}
use Rattle.aud_reader.specs.Bundle.{max_entries, max_records, max_pids, max_node_taps, max_client_taps, entry_room, node_room, client_room, tap_named, kind_of_tap, same_kind, taps_on, pids_in, pids_of, another_tap}
use Rattle.aud_reader.specs.TapLaws.{AreDifferent}
use Rattle.aud_reader.proofs.TextsLemmas.{fit-ok, unique}
use Rattle.aud_writer.specs.OfABundle.{is_of_version, AreEntries, AreNodeRecords, AreClientRecords, AreOfABundle}
use Rattle.aud_writer.proofs.LineEffects.{made}

-- ---- texts that differ

-- of texts that differ, one that comes later is not among those before
not-before : (before after : List (List ℕ)) (text : List ℕ) → IsDistinct is_text (before ++ text ∷ after) → list_any (is_text text) before ≡ false
unfolding IsDistinct
not-before [] after text h = refl
not-before (t ∷ before) after text h = rw (nat_list_eq_equiv.symm text t, other before h.0, not-before before after text h.1) refl
  where
    other : (before : List (List ℕ)) → AllByRecursion (λ y. is_text t y ≡ false) (before ++ text ∷ after) → is_text t text ≡ false
    other [] all = all.0
    other (x ∷ xs) all = other xs all.1

new-text : (before after : List (List ℕ)) (text : List ℕ) → AreDifferent (before ++ text ∷ after) → list_any (is_text text) before ≡ false
new-text before after text different = not-before before after text (IsDistinct-from_AllPairs bytes_eq-Decides (before ++ text ∷ after) different)

-- a name that is not among those of the taps finds none
none-named : (name : List ℕ) (ts : List Tap) → list_any (is_text name) (map (λ (t : Tap). t.name) ts) ≡ false → tap_named name ts ≡ None
none-named name [] h = refl
none-named name (t ∷ ts) h =
    let parts = or_parts (is_text name t.name) (list_any (is_text name) (map (λ (u : Tap). u.name) ts)) h in
    rw (parts.0, none-named name ts parts.1) refl

-- texts in front of others have no more different ones
fewer-front : (front back : List (List ℕ)) → distinct_count is_text front ≤ distinct_count is_text (front ++ back)
fewer-front front back =
    let (once, apart, is) = unique front in
    let (once_all, apart_all, is_all) = unique (front ++ back) in
    let count = length-from_keys nat_list_eq_equiv once front apart is in
    let count_all = length-from_keys nat_list_eq_equiv once_all (front ++ back) apart_all is_all in
    let fewer = length-le_from_is_member nat_list_eq_equiv once once_all apart
    (λ q m. is_all q ∙ list_any-append (is_text q) front back ∙ ap (λ b. b || list_any (is_text q) back) (sym (is q) ∙ m)) in
    omega arith

-- ---- a header

-- the tap's name is new
pub new-name : (all done rest : List Tap) (t : Tap) → AreOfABundle all → all ≡ done ++ t ∷ rest → tap_named t.name done ≡ None
new-name all done rest t h is =
    let name_of : Tap → List ℕ = λ x. x.name in
    none-named t.name done (new-text (map name_of done) (map name_of rest) t.name (subst AreDifferent (ap (map name_of) is ∙ map-append name_of done (t ∷ rest)) h.names))

-- there are fewer taps of its kind before a tap than in all
fewer-taps : (of : TapKind) (done rest : List Tap) (t : Tap) → same_kind of (kind_of_tap t.records) ≡ true → taps_on of done < taps_on of (done ++ t ∷ rest)
fewer-taps of done rest t same =
    rw (sum_by-append (λ (x : Tap). cond (same_kind of (kind_of_tap x.records)) 1 0) done (t ∷ rest), sum_by-cons (λ (x : Tap). cond (same_kind of (kind_of_tap x.records)) 1 0) t rest, same) (omega arith)

-- so there is room for it
pub room-for : (of : TapKind) (all done rest : List Tap) (t : Tap) → AreOfABundle all → all ≡ done ++ t ∷ rest → kind_of_tap t.records ≡ of → another_tap of done ≡ Ok tt
room-for kind.Stream all done rest t h is same =
    let fewer = fewer-taps kind.Stream done rest t (rw same refl) in
    let most : taps_on kind.Stream (done ++ t ∷ rest) ≤ 1 = rw (← is) h.stream in
    rw (lt-ltb (taps_on kind.Stream done) 1 (omega arith)) refl
room-for kind.Node all done rest t h is same =
    let fewer = fewer-taps kind.Node done rest t (rw same refl) in
    let most : taps_on kind.Node (done ++ t ∷ rest) ≤ max_node_taps = rw (← is) h.nodes in
    rw (lt-ltb (taps_on kind.Node done) max_node_taps (omega arith)) refl
room-for kind.Client all done rest t h is same =
    let fewer = fewer-taps kind.Client done rest t (rw same refl) in
    let most : taps_on kind.Client (done ++ t ∷ rest) ≤ max_client_taps = rw (← is) h.clients in
    rw (lt-ltb (taps_on kind.Client done) max_client_taps (omega arith)) refl

-- ---- a record

-- fewer stand before an element than there are
shorter : {X : Type 0} (xs before after : List X) (x : X) (most : ℕ) → length xs ≤ most → xs ≡ before ++ x ∷ after → nat_lt (length before) most ≡ true
shorter xs before after x most few is =
    let size = ap length is ∙ length-append before (x ∷ after) in
    lt-ltb (length before) most (omega arith)

-- an entry has room, and an offset of its own
pub entry-fits : (entries before after : List StreamRec) (r : StreamRec) → AreEntries entries → entries ≡ before ++ r ∷ after → entry_room (length before) (map offset_of before) r ≡ Ok tt
entry-fits entries before after r h is =
    let different = subst AreDifferent (ap (map offset_of) is ∙ map-append offset_of before (r ∷ after)) h.offsets in
    rw (shorter entries before after r max_entries h.few is, new-text (map offset_of before) (map offset_of after) (offset_of r) different) refl

-- a client's record may follow those before it, and has room
pub client-fits : (records before after : List ClientRec) (r : ClientRec) → AreClientRecords records → records ≡ before ++ r ∷ after → client_room before r ≡ Ok tt
client-fits records before after r h is = rw (h.follow before after r is, shorter records before after r max_records h.few is) refl

cons-option : {X : Type 0} (o : Option X) (xs : List X) → cons_option o xs ≡ option_to_list o ++ xs
cons-option None xs = refl
cons-option (Some x) xs = refl

in-order : (done before own after rest : List (List ℕ)) → done ++ ((before ++ (own ++ after)) ++ rest) ≡ ((done ++ (before ++ [])) ++ own) ++ (after ++ rest)
in-order done before own after rest = simp (append_assoc, append-nil)

-- the pids up to a node's record are the front of all
pids-front : (done rest : List Tap) (name : List ℕ) (version : Version) (before after : List NodeRec) (r : NodeRec)
    → pids_of (done ++ made name version (Node (before ++ r ∷ after)) ∷ rest)
    ≡ (pids_of (done ++ made name version (Node before) ∷ []) ++ option_to_list (pid_of r)) ++ (filter_map pid_of after ++ pids_of rest)
pids-front done rest name version before after r =
    let of : Tap → List (List ℕ) = λ t. pids_in t.records in
    flat_map-append of done (made name version (Node (before ++ r ∷ after)) ∷ rest)
    ∙ ap (λ ps. pids_of done ++ (ps ++ pids_of rest)) (filter_map-append pid_of before (r ∷ after) ∙ ap (λ ps. filter_map pid_of before ++ ps) (cons-option (pid_of r) (filter_map pid_of after)))
    ∙ in-order (pids_of done) (filter_map pid_of before) (option_to_list (pid_of r)) (filter_map pid_of after) (pids_of rest)
    ∙ ap (λ ps. (ps ++ option_to_list (pid_of r)) ++ (filter_map pid_of after ++ pids_of rest)) (sym (flat_map-append of done (made name version (Node before) ∷ [])))

-- a node's record has room, and so have the pids with its own
pub node-fits : (all done rest : List Tap) (name : List ℕ) (version : Version) (records before after : List NodeRec) (r : NodeRec) → AreOfABundle all → all ≡ done ++ made name version (Node records) ∷ rest
    → AreNodeRecords version records → records ≡ before ++ r ∷ after
    → node_room (length before) (pids_of (done ++ made name version (Node before) ∷ []) ++ option_to_list (pid_of r)) ≡ Ok tt
node-fits all done rest name version records before after r h is good at =
    let so_far = pids_of (done ++ made name version (Node before) ∷ []) ++ option_to_list (pid_of r) in
    let to_come = filter_map pid_of after ++ pids_of rest in
    let whole : pids_of all ≡ so_far ++ to_come = ap pids_of is ∙ ap (λ rs. pids_of (done ++ made name version (Node rs) ∷ rest)) at ∙ pids-front done rest name version before after r in
    let most : distinct_count is_text (so_far ++ to_come) ≤ max_pids = subst (λ ps. distinct_count is_text ps ≤ max_pids) whole h.pids in
    let fewer = fewer-front so_far to_come in
    rw (shorter records before after r max_records good.few at) (fit-ok so_far (omega arith))

-- a node's record is of the tap's version
pub node-known : (version : Version) (records before after : List NodeRec) (r : NodeRec) → AreNodeRecords version records → records ≡ before ++ r ∷ after → is_of_version version r ≡ true
node-known version records before after r good at = go before (subst (All (λ (x : NodeRec). is_of_version version x ≡ true)) at good.kinds)
  where
    go : (before : List NodeRec) → All (λ (x : NodeRec). is_of_version version x ≡ true) (before ++ r ∷ after) → is_of_version version r ≡ true
    go [] all = All-head (λ (x : NodeRec). is_of_version version x ≡ true) r after all
    go (x ∷ xs) all = go xs (All-tail (λ (y : NodeRec). is_of_version version y ≡ true) x (xs ++ r ∷ after) all)
