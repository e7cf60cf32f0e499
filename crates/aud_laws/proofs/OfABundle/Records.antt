-- The records of a tap, with one more that was read.
use Rattle.std.proofs.Common.{◌≡◌, ℕ, ◌<◌, ◌≤◌, nat_lt, List, [], ◌∷◌, ◌++◌, length, true, option_to_list, Ok, refl, sym, ap, ◌∙◌, arith, subst, length-append, append-nil}
use Rattle.std.specs.List.{All}
use Rattle.std.specs.Set.{distinct_count}
use Rattle.std.proofs.lemmas.Bool.{ltb-true, leb-true}
use Rattle.std.proofs.lemmas.List.Elements.{All-nil, All-push}
use Rattle.serde_json.specs.Data.{Data}
use Rattle.aud_base.proofs.StepLemmas.{same-ok, part-of, guard-ok}
use Rattle.aud_tap.specs.declared.records.Version.{Version}
use Rattle.aud_tap.specs.declared.records.TapKind.{TapKind}
use Rattle.aud_tap.specs.declared.records.TapKind.TheVariants as kind
use Rattle.aud_tap.specs.declared.records.StreamRec.{StreamRec}
use Rattle.aud_tap.specs.declared.records.NodeRec.{NodeRec}
use Rattle.aud_tap.specs.declared.records.ClientRec.{ClientRec}
use Rattle.aud_tap.specs.declared.taps.Records.{Records}
use Rattle.aud_tap.specs.declared.taps.Records.TheVariants.{Stream, Node, Client}
use Rattle.aud_tap.specs.Forms.{is_text}
use Rattle.aud_tap.specs.RecordFields.{pid_of}
use Rattle.aud_tap.specs.WellFormed.{stream_is_well_formed, node_is_well_formed}
use Rattle.aud_reader.specs.declared.fault.InputCode.TheVariants.{UnknownKind, Field, Limit}
use Rattle.aud_reader.specs.Connections.{may_follow}
use Rattle.aud_reader.specs.NodeRecord.{is_in_version, node_record_of}
use Rattle.aud_reader.specs.ClientRecord.{client_record_of}
use Rattle.aud_reader.specs.Bundle.{max_entries, max_records, max_pids, node_room, client_room, pids_fit, with_entry, with_node_record, with_client_record, with_tap_record, pids_in, no_records}
use Rattle.aud_reader.specs.TapLaws.{AreDifferent, offsets_in}
use Rattle.aud_reader.proofs.LineSteps.{guarded, put_entry}
use Rattle.aud_writer.specs.OfABundle.{is_of_version, AreNodeRecords, AreClientRecords, AreRecords}
use Rattle.aud_laws.proofs.OfABundle.Formed.{stream-formed, node-formed}
use Rattle.aud_laws.proofs.OfABundle.Versions.{read-version}
use Rattle.aud_laws.proofs.OfABundle.Follows.{follow-none, follow-more}
use Rattle.aud_laws.proofs.OfABundle.Counts.{pids-last}

-- the entries of the stream, whatever their offsets
pub record AreFormed (entries : List StreamRec) : Type 0 where
  pub few : length entries ≤ max_entries
  pub formed : All (λ entry. stream_is_well_formed entry ≡ true) entries

-- the records of a tap of this version, whatever the offsets of entries
abbrev pub AreKept : Version → Records → Type 0
AreKept version (Stream entries) = AreFormed entries
AreKept version (Node records) = AreNodeRecords version records
AreKept version (Client records) = AreClientRecords records

-- with offsets that differ they are those of a tap
pub are_records : (version : Version) (records : Records) → AreKept version records → AreDifferent (offsets_in records) → AreRecords version records
are_records version (Stream entries) kept different = record { few = kept.few; offsets = different; formed = kept.formed }
are_records version (Node records) kept different = kept
are_records version (Client records) kept different = kept

-- a new tap has none
pub kept-none : (version : Version) (of : TapKind) → AreKept version (no_records of)
kept-none version kind.Stream = record { few = omega arith; formed = All-nil _ }
kept-none version kind.Node = record { few = omega arith; kinds = All-nil _; formed = All-nil _ }
kept-none version kind.Client = record { few = omega arith; follow = follow-none }

-- where there is room for one, one more is not too many
one-more : {X : Type 0} (xs : List X) (x : X) (most : ℕ) → nat_lt (length xs) most ≡ true → length (xs ++ x ∷ []) ≤ most
one-more xs x most room =
    let less : length xs < most = ltb-true (length xs) most room in
    let long = length-append xs (x ∷ []) in
    omega (arith, less, long)

-- ---- one more record

-- an entry
entry-kept : (entries more : List StreamRec) (word : List ℕ) (d : Data) → with_entry entries word d ≡ Ok more → AreFormed entries → AreFormed more
entry-kept entries more word d e kept =
    let (put, room) = put_entry entries more word d e in
    let test = guard-ok Limit (nat_lt (length entries) max_entries) _ tt room in
    subst AreFormed (sym put.is) (record {
      few = one-more entries put.value max_entries test.0;
      formed = All-push (λ entry. stream_is_well_formed entry ≡ true) entries put.value kept.formed (stream-formed word d put.value put.reads);
    })

-- a node's record that was read, in its tap
record PutNode (version : Version) (pids : List (List ℕ)) (records more : List NodeRec) (word : List ℕ) (d : Data) : Type 0 where
  value : NodeRec
  known : is_in_version version word ≡ true
  reads : node_record_of word d ≡ Ok value
  room : nat_lt (length records) max_records ≡ true
  fit : pids_fit (pids ++ option_to_list (pid_of value)) ≡ Ok tt
  is : more ≡ records ++ value ∷ []

put_node : (version : Version) (pids : List (List ℕ)) (records more : List NodeRec) (word : List ℕ) (d : Data) → with_node_record version pids records word d ≡ Ok more → PutNode version pids records more word d
unfolding with_node_record
put_node version pids records more word d e =
    let known = guard-ok UnknownKind (is_in_version version word) _ more e in
    let read = part-of (node_record_of word d) _ more known.1 in
    let room = part-of (node_room (length records) (pids ++ option_to_list (pid_of read.0))) _ more read.2 in
    let test = guard-ok Limit (nat_lt (length records) max_records) _ tt room.1 in
    record { value = read.0; known = known.0; reads = read.1; room = test.0; fit = test.1; is = sym (same-ok _ _ room.2) }

node-kept : (version : Version) (pids : List (List ℕ)) (records more : List NodeRec) (word : List ℕ) (d : Data) → with_node_record version pids records word d ≡ Ok more
    → AreNodeRecords version records → AreNodeRecords version more
node-kept version pids records more word d e kept =
    let put = put_node version pids records more word d e in
    subst (AreNodeRecords version) (sym put.is) (record {
      few = one-more records put.value max_records put.room;
      kinds = All-push (λ rec. is_of_version version rec ≡ true) records put.value kept.kinds (read-version version word d put.value put.known put.reads);
      formed = All-push (λ rec. node_is_well_formed rec ≡ true) records put.value kept.formed (node-formed word d put.value put.reads);
    })

-- a client's record
client-kept : (records more : List ClientRec) (word : List ℕ) (d : Data) → with_client_record records word d ≡ Ok more → AreClientRecords records → AreClientRecords more
unfolding with_client_record
client-kept records more word d e kept =
    let read = part-of (client_record_of word d) _ more e in
    let room = part-of (client_room records read.0) _ more read.2 in
    let test = guard-ok Field (may_follow records read.0) _ tt room.1 in
    subst AreClientRecords (same-ok _ _ room.2) (record {
      few = one-more records read.0 max_records (guarded Limit (nat_lt (length records) max_records) test.1);
      follow = follow-more records read.0 kept.follow test.0;
    })

-- a tap's records with one more are those of a tap
pub kept-more : (version : Version) (pids : List (List ℕ)) (old new : Records) (word : List ℕ) (d : Data) → with_tap_record version pids old word d ≡ Ok new → AreKept version old → AreKept version new
kept-more version pids (Stream entries) new word d e kept =
    let more = part-of (with_entry entries word d) _ new e in
    subst (AreKept version) (same-ok (Stream more.0) new more.2) (entry-kept entries more.0 word d more.1 kept)
kept-more version pids (Node records) new word d e kept =
    let more = part-of (with_node_record version pids records word d) _ new e in
    subst (AreKept version) (same-ok (Node more.0) new more.2) (node-kept version pids records more.0 word d more.1 kept)
kept-more version pids (Client records) new word d e kept =
    let more = part-of (with_client_record records word d) _ new e in
    subst (AreKept version) (same-ok (Client more.0) new more.2) (client-kept records more.0 word d more.1 kept)

-- ---- the pids

-- the new records have more pids than the old ones, and among all pids these are not too many
pub record HaveMore (pids : List (List ℕ)) (old new : Records) : Type 0 where
  pub more : List (List ℕ)
  pub is : pids_in new ≡ pids_in old ++ more
  pub few : distinct_count is_text (pids ++ more) ≤ max_pids

-- records without pids, before and after
no-more : (pids : List (List ℕ)) (old new : Records) → distinct_count is_text pids ≤ max_pids → pids_in old ≡ [] → pids_in new ≡ [] → HaveMore pids old new
no-more pids old new few before after = record { more = []; is = rw (before, after) refl; few = rw append-nil few }

pub pids-more : (version : Version) (pids : List (List ℕ)) (old new : Records) (word : List ℕ) (d : Data) → distinct_count is_text pids ≤ max_pids → with_tap_record version pids old word d ≡ Ok new → HaveMore pids old new
pids-more version pids (Stream entries) new word d few e =
    let more = part-of (with_entry entries word d) _ new e in
    subst (HaveMore pids (Stream entries)) (same-ok (Stream more.0) new more.2) (no-more pids (Stream entries) (Stream more.0) few refl refl)
pids-more version pids (Client records) new word d few e =
    let more = part-of (with_client_record records word d) _ new e in
    subst (HaveMore pids (Client records)) (same-ok (Client more.0) new more.2) (no-more pids (Client records) (Client more.0) few refl refl)
pids-more version pids (Node records) new word d few e =
    let more = part-of (with_node_record version pids records word d) _ new e in
    let put = put_node version pids records more.0 word d more.1 in
    subst (HaveMore pids (Node records)) (same-ok (Node more.0) new more.2) (record {
      more = option_to_list (pid_of put.value);
      is = ap (λ rs. pids_in (Node rs)) put.is ∙ pids-last records put.value;
      few = leb-true _ _ (guarded Limit _ put.fit);
    })
