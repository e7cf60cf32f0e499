-- What a line that is read does to the taps, and that it does the same to other taps that have its own tap.
use Rattle.std.proofs.Common.{◌≡◌, ℕ, List, [], ◌∷◌, ◌++◌, length, true, false, ◌⊎◌, inl, inr, not, nat_lt, nat_le, Option, Some, None, option_to_list, Ok, codes, refl, sym, ap, subst, ◌∙◌, append-nil}
use Rattle.std.specs.List.{cons_option, filter_map}
use Rattle.std.specs.Set.{distinct_count}
use Rattle.std.proofs.lemmas.Bool.{leb-true, le-leb, not-true}
use Rattle.std.proofs.lemmas.List.{map-append}
use Rattle.std.proofs.lemmas.List.Elements.{filter_map-append}
use Rattle.std.proofs.lemmas.List.Folds.{list_any-append}
use Rattle.serde_json.specs.Data.{Data}
use Rattle.aud_base.specs.Steps.{guard}
use Rattle.aud_base.proofs.StepLemmas.{same-ok, part-of, guard-ok}
use Rattle.aud_tap.specs.declared.records.TapKind.{TapKind}
use Rattle.aud_tap.specs.declared.records.Version.{Version}
use Rattle.aud_tap.specs.declared.records.NodeRec.{NodeRec}
use Rattle.aud_tap.specs.declared.taps.Records.{Records}
use Rattle.aud_tap.specs.declared.taps.Records.TheVariants.{Stream, Node, Client}
use Rattle.aud_tap.specs.declared.taps.Tap.{Tap}
use Rattle.aud_tap.specs.Forms.{is_text}
use Rattle.aud_reader.specs.declared.fault.InputCode.TheVariants.{NoHeader, UnknownKind, HeaderTwice, Limit}
use Rattle.aud_reader.specs.Header.{header_of}
use Rattle.aud_reader.specs.NodeRecord.{is_in_version, node_record_of}
use Rattle.aud_reader.specs.Record.{opened_line, kind_named}
use Rattle.aud_tap.specs.RecordFields.{pid_of}
use Rattle.aud_reader.specs.Bundle.{max_records, max_pids, node_room, with_entry, with_node_record, with_client_record, with_tap_record, tap_named, with_records, kind_of_tap, pids_in, pids_of, another_tap, with_header, with_later, with_kind, with_line}
use Rattle.aud_reader.proofs.LineSteps.{guarded, one_more}
use Rattle.aud_laws.specs.Order.{first_word}
use Rattle.aud_laws.proofs.AnyOrder.Words.{opened-first_word, with_name}
use Rattle.aud_laws.proofs.AnyOrder.Taps.{begun, names_of, named-among, absent-among, names-with, AreFew, few-within, pids-begun, pids-with}

-- ---- one more record of a tap

-- the records have these pids more, for which there was room; beside other pids with which they are few, the same line
-- brings the same records
pub record Added (version : Version) (pids : List (List ℕ)) (old new : Records) (word : List ℕ) (d : Data) : Type 0 where
  pub more : List (List ℕ)
  pub is : pids_in new ≡ pids_in old ++ more
  pub few : AreFew pids → AreFew (pids ++ more)
  pub again : (others : List (List ℕ)) → AreFew (others ++ more) → with_tap_record version others old word d ≡ Ok new

-- a record without a pid
without_pid : (version : Version) (pids : List (List ℕ)) (old new : Records) (word : List ℕ) (d : Data) → pids_in old ≡ [] → pids_in new ≡ [] → ((others : List (List ℕ)) → with_tap_record version others old word d ≡ Ok new) → Added version pids old new word d
without_pid version pids old new word d none still again =
    record { more = []; is = rw (none, still) refl; few = λ h. rw append-nil h; again = λ others h. again others }

-- a node's record that is read, beside pids with which it has room
node_again : (version : Version) (others : List (List ℕ)) (records : List NodeRec) (word : List ℕ) (d : Data) (r : NodeRec) → is_in_version version word ≡ true → node_record_of word d ≡ Ok r → nat_lt (length records) max_records ≡ true
    → AreFew (others ++ option_to_list (pid_of r)) → with_tap_record version others (Node records) word d ≡ Ok (Node (records ++ r ∷ []))
unfolding with_node_record
node_again version others records word d r known read within h = rw (known, read, within, le-leb _ _ h.few) refl

-- a node's record, with the pid that it speaks of
node_added : (version : Version) (pids : List (List ℕ)) (records more : List NodeRec) (word : List ℕ) (d : Data) → with_node_record version pids records word d ≡ Ok more → Added version pids (Node records) (Node more) word d
unfolding with_node_record
node_added version pids records more word d e =
    let known = guard-ok UnknownKind (is_in_version version word) _ more e in
    let read = part-of (node_record_of word d) _ more known.1 in
    let pid = option_to_list (pid_of read.0) in
    let room = part-of (node_room (length records) (pids ++ pid)) _ more read.2 in
    let count = part-of (guard Limit (nat_lt (length records) max_records)) _ tt room.1 in
    let is : records ++ read.0 ∷ [] ≡ more = same-ok _ _ room.2 in
    record {
      more = pid;
      is = ap (filter_map pid_of) (sym is) ∙ filter_map-append pid_of records (read.0 ∷ []) ∙ ap (λ ps. filter_map pid_of records ++ ps) (alone (pid_of read.0));
      few = λ h. record { few = leb-true _ _ (guarded Limit (nat_le (distinct_count is_text (pids ++ pid)) max_pids) count.2) };
      again = λ others h. node_again version others records word d read.0 known.0 read.1 (guarded Limit (nat_lt (length records) max_records) count.1) h ∙ ap (λ (rs : List NodeRec). Ok (Node rs)) is;
    }
  where
    alone : (o : Option (List ℕ)) → cons_option o [] ≡ option_to_list o
    alone None = refl
    alone (Some pid) = refl

-- whatever the tap's kind
added : (version : Version) (pids : List (List ℕ)) (old new : Records) (word : List ℕ) (d : Data) → with_tap_record version pids old word d ≡ Ok new → Added version pids old new word d
added version pids (Stream entries) new word d e =
    let more = part-of (with_entry entries word d) _ new e in
    without_pid version pids (Stream entries) new word d refl (ap pids_in (sym (same-ok _ _ more.2))) (λ others. e)
added version pids (Node records) new word d e =
    let more = part-of (with_node_record version pids records word d) _ new e in
    subst (λ (rs : Records). Added version pids (Node records) rs word d) (same-ok _ _ more.2) (node_added version pids records more.0 word d more.1)
added version pids (Client records) new word d e =
    let more = part-of (with_client_record records word d) _ new e in
    without_pid version pids (Client records) new word d refl (ap pids_in (sym (same-ok _ _ more.2))) (λ others. e)

-- ---- one more line

-- the line is its tap's header, and so it is where there is room and no such tap
pub record Begins (ts : List Tap) (line : List ℕ) (next : List Tap) : Type 0 where
  pub of : TapKind
  pub version : Version
  pub new : tap_named (first_word line) ts ≡ None
  pub room : another_tap of ts ≡ Ok tt
  pub is : next ≡ ts ++ begun (first_word line) of version ∷ []
  pub again : (others : List Tap) → tap_named (first_word line) others ≡ None → another_tap of others ≡ Ok tt → with_line others line ≡ Ok (others ++ begun (first_word line) of version ∷ [])

-- the line adds a record to its tap, and so it does where that tap is there and the pids are few
pub record Adds (ts : List Tap) (line : List ℕ) (next : List Tap) : Type 0 where
  pub found : Tap
  pub records : Records
  pub more : List (List ℕ)
  pub is_found : tap_named (first_word line) ts ≡ Some found
  pub same : kind_of_tap records ≡ kind_of_tap found.records
  pub pids : pids_in records ≡ pids_in found.records ++ more
  pub few : AreFew (pids_of ts) → AreFew (pids_of ts ++ more)
  pub is : next ≡ with_records (first_word line) records ts
  pub again : (others : List Tap) → tap_named (first_word line) others ≡ Some found → AreFew (pids_of others ++ more) → with_line others line ≡ Ok (with_records (first_word line) records others)

-- a line that opens goes to the tap of its name
with_line-goes : (ts : List Tap) (line name word : List ℕ) (d : Data) → opened_line line ≡ Ok (name, d) → kind_named d ≡ Ok word → with_line ts line ≡ with_kind ts name (tap_named name ts) word d
unfolding with_line
with_line-goes ts line name word d opened kind = rw (opened, kind) refl

-- a header where there is room
header_again : (others : List Tap) (name word : List ℕ) (d : Data) (of : TapKind) (version : Version) → is_text word (codes "tap") ≡ true → header_of d ≡ Ok (of, version) → another_tap of others ≡ Ok tt → with_header others name word d ≡ Ok (others ++ begun name of version ∷ [])
unfolding with_header
header_again others name word d of version header read room = rw (header, read, room) refl

-- a record for which there is room
later_again : (others : List Tap) (name word : List ℕ) (d : Data) (t : Tap) (new : Records) → is_text word (codes "tap") ≡ false → with_tap_record t.version (pids_of others) t.records word d ≡ Ok new → with_later others name t word d ≡ Ok (with_records name new others)
unfolding with_later
later_again others name word d t new later put = rw (later, put) refl

-- a line for which no tap is there
begins : (ts next : List Tap) (line word : List ℕ) (d : Data) → opened_line line ≡ Ok (first_word line, d) → kind_named d ≡ Ok word → tap_named (first_word line) ts ≡ None
    → with_header ts (first_word line) word d ≡ Ok next → Begins ts line next
unfolding with_header
begins ts next line word d opened named new e =
    let name = first_word line in
    let header = guard-ok NoHeader (is_text word (codes "tap")) _ next e in
    let read = part-of (header_of d) _ next header.1 in
    let room = part-of (another_tap read.0.0 ts) _ next read.2 in
    record {
      of = read.0.0;
      version = read.0.1;
      new = new;
      room = room.1;
      is = sym (same-ok _ _ room.2);
      again = λ others none fits. with_line-goes others line name word d opened named ∙ ap (λ o. with_kind others name o word d) none ∙ header_again others name word d read.0.0 read.0.1 header.0 read.1 fits;
    }

-- a line for which a tap is there
adds : (ts next : List Tap) (line word : List ℕ) (d : Data) (t : Tap) → opened_line line ≡ Ok (first_word line, d) → kind_named d ≡ Ok word → tap_named (first_word line) ts ≡ Some t
    → with_later ts (first_word line) t word d ≡ Ok next → Adds ts line next
unfolding with_later
adds ts next line word d t opened named found e =
    let name = first_word line in
    let later = guard-ok HeaderTwice (not (is_text word (codes "tap"))) _ next e in
    let put = part-of (with_tap_record t.version (pids_of ts) t.records word d) _ next later.1 in
    let more = added t.version (pids_of ts) t.records put.0 word d put.1 in
    record {
      found = t;
      records = put.0;
      more = more.more;
      is_found = found;
      same = (one_more t.version (pids_of ts) t.records put.0 word d put.1).same;
      pids = more.is;
      few = more.few;
      is = sym (same-ok _ _ put.2);
      again = λ others there fits.
          with_line-goes others line name word d opened named ∙ ap (λ o. with_kind others name o word d) there
          ∙ later_again others name word d t put.0 (not-true (is_text word (codes "tap")) later.0) (more.again (pids_of others) fits);
    }

-- a line that is read does one of the two
pub effect : (ts next : List Tap) (line : List ℕ) → with_line ts line ≡ Ok next → Begins ts line next ⊎ Adds ts line next
unfolding with_line
effect ts next line e =
    let opened = part-of (opened_line line) _ next e in
    let word = part-of (kind_named opened.0.1) _ next opened.2 in
    let first = opened-first_word line opened.0.0 opened.0.1 opened.1 in
    by (tap_named (first_word line) ts) refl word.0 opened.0.1 (opened.1 ∙ ap (λ (n : List ℕ). Ok (n, opened.0.1)) (sym first)) word.1
    (ap (λ n. with_kind ts n (tap_named n ts) word.0 opened.0.1) first ∙ word.2)
  where
    by : (found : Option Tap) → tap_named (first_word line) ts ≡ found → (word : List ℕ) (d : Data) → opened_line line ≡ Ok (first_word line, d) → kind_named d ≡ Ok word
        → with_kind ts (first_word line) (tap_named (first_word line) ts) word d ≡ Ok next → Begins ts line next ⊎ Adds ts line next
    by None is word d opened named h = inl (begins ts next line word d opened named is (ap (λ o. with_kind ts (first_word line) o word d) (sym is) ∙ h))
    by (Some t) is word d opened named h = inr (adds ts next line word d t opened named is (ap (λ o. with_kind ts (first_word line) o word d) (sym is) ∙ h))

-- ---- after a line

-- the pids stay few
pub few-after : (ts next : List Tap) (line : List ℕ) → with_line ts line ≡ Ok next → AreFew (pids_of ts) → AreFew (pids_of next)
few-after ts next line e few = elim (effect ts next line e) [
  | inl b ↦ rw (b.is, pids-begun ts (first_word line) b.of b.version) few
  | inr a ↦ rw a.is (few-within (pids_of (with_records (first_word line) a.records ts)) (pids_of ts ++ a.more)
      (λ q m. list_any-append (is_text q) (pids_of ts) a.more ∙ sym (pids-with q (first_word line) a.records a.more ts a.found a.is_found a.pids) ∙ m)
      (a.few few))
]

-- the line's name is known
pub names-next : (ts next : List Tap) (line : List ℕ) → with_line ts line ≡ Ok next → names_of next ≡ with_name (names_of ts) (first_word line)
names-next ts next line e = elim (effect ts next line e) [
  | inl b ↦ rw (b.is, absent-among (first_word line) ts b.new) (map-append (λ (t : Tap). t.name) ts (begun (first_word line) b.of b.version ∷ []))
  | inr a ↦ rw (a.is, named-among (first_word line) ts a.found a.is_found) (names-with (first_word line) a.records ts)
]
