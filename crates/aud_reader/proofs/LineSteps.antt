-- What a line that is read does to the taps: its header begins one, and any other line adds a record to one.
use Rattle.std.proofs.Common.{◌≡◌, ℕ, List, [], ◌∷◌, ◌++◌, map, Bool, true, false, cond, ◌⊎◌, inl, inr, Option, Some, None, Result, Ok, Err, refl, sym, ap, ◌∙◌, codes, not, length, option_to_list}
use Rattle.std.proofs.lemmas.Bool.{not-true}
use Rattle.std.proofs.lemmas.List.{map-append}
use Rattle.aud_base.proofs.SameText.{same_text}
use Rattle.aud_base.proofs.StepLemmas.{same-ok, part-of, guard-ok}
use Rattle.serde_json.specs.Data.{Data}
use Rattle.aud_reader.specs.declared.fault.InputCode.{InputCode}
use Rattle.aud_reader.specs.declared.fault.InputCode.TheVariants.{NoHeader, UnknownKind, HeaderTwice}
use Rattle.aud_reader.specs.declared.fault.ReadFault.{ReadFault}
use Rattle.aud_reader.specs.declared.line.Line.{Line}
use Rattle.aud_tap.specs.declared.records.TapKind.{TapKind}
use Rattle.aud_tap.specs.declared.records.TapKind.TheVariants as tap
use Rattle.aud_tap.specs.declared.records.Version.{Version}
use Rattle.aud_tap.specs.declared.records.Rec.{Rec}
use Rattle.aud_tap.specs.declared.records.Rec.TheVariants as rec
use Rattle.aud_tap.specs.declared.records.StreamRec.{StreamRec}
use Rattle.aud_tap.specs.declared.records.NodeRec.{NodeRec}
use Rattle.aud_tap.specs.declared.records.ClientRec.{ClientRec}
use Rattle.aud_tap.specs.declared.taps.Records.{Records}
use Rattle.aud_tap.specs.declared.taps.Records.TheVariants.{Stream, Node, Client}
use Rattle.aud_tap.specs.declared.taps.Tap.{Tap}
use Rattle.aud_tap.specs.Forms.{is_text}
use Rattle.aud_base.specs.Steps.{◌>>=◌, need, guard}
use Rattle.aud_reader.specs.Header.{header_of}
use Rattle.aud_reader.specs.StreamRecord.{stream_record_of}
use Rattle.aud_reader.specs.NodeRecord.{is_in_version, node_record_of}
use Rattle.aud_reader.specs.ClientRecord.{client_record_of}
use Rattle.aud_reader.specs.Record.{opened_line, kind_named, tap_of_kind, record_in, record_of, value_record, line_record}
use Rattle.aud_tap.specs.RecordFields.{offset_of, pid_of}
use Rattle.aud_reader.specs.Bundle.{entry_room, node_room, client_room, with_entry, with_node_record, with_client_record, with_tap_record, tap_named, with_records, kind_of_tap, pids_of, another_tap, no_records, with_header, with_later, with_kind, with_line, at_line, passing_empty, taps_after, taps_from, taps_of, Reading, taps_to_come}
use Rattle.aud_reader.specs.OwnLines.{recs_in}

-- a test that held
pub guarded : (code : InputCode) (b : Bool) → guard code b ≡ Ok tt → b ≡ true
guarded code true e = refl
guarded code false e = cc

-- ---- the kinds of record

-- the record is of this word's kind, or read by what comes after it
or_kind : {A : Type 0} (known word : List ℕ) (of : TapKind) (x y : Result A InputCode) (r : A) → tap_of_kind known ≡ Some of → cond (is_text word known) x y ≡ Ok r
    → (y ≡ Ok r → tap_of_kind word ≡ Some of) → tap_of_kind word ≡ Some of
or_kind known word of x y r is_known e later =
    elim (is_text word known) as (λ b. is_text word known ≡ b → cond b x y ≡ Ok r → tap_of_kind word ≡ Some of) [
      | true ↦ λ is h. rw (same_text word known is) is_known
      | false ↦ λ is h. later h
    ] refl e

-- a word that is read as a record of the stream is one of the stream's kinds
stream-kind : (word : List ℕ) (d : Data) (r : StreamRec) → stream_record_of word d ≡ Ok r → tap_of_kind word ≡ Some tap.Stream
unfolding stream_record_of
stream-kind word d r e =
    or_kind (codes "ev") word tap.Stream _ _ r refl e (λ e1.
    or_kind (codes "other") word tap.Stream _ _ r refl e1 (λ e2. cc))

-- a word that is read as a record of a node is one of a node's kinds
node-kind : (word : List ℕ) (d : Data) (r : NodeRec) → node_record_of word d ≡ Ok r → tap_of_kind word ≡ Some tap.Node
unfolding node_record_of
node-kind word d r e =
    or_kind (codes "start") word tap.Node _ _ r refl e (λ e1.
    or_kind (codes "take") word tap.Node _ _ r refl e1 (λ e2.
    or_kind (codes "takes") word tap.Node _ _ r refl e2 (λ e3.
    or_kind (codes "open") word tap.Node _ _ r refl e3 (λ e4.
    or_kind (codes "join") word tap.Node _ _ r refl e4 (λ e5.
    or_kind (codes "leave") word tap.Node _ _ r refl e5 (λ e6.
    or_kind (codes "break") word tap.Node _ _ r refl e6 (λ e7.
    or_kind (codes "back") word tap.Node _ _ r refl e7 (λ e8.
    or_kind (codes "gone") word tap.Node _ _ r refl e8 (λ e9. cc)))))))))

-- a word that is read as a record of a client is one of a client's kinds
client-kind : (word : List ℕ) (d : Data) (r : ClientRec) → client_record_of word d ≡ Ok r → tap_of_kind word ≡ Some tap.Client
unfolding client_record_of
client-kind word d r e =
    or_kind (codes "conn") word tap.Client _ _ r refl e (λ e1.
    or_kind (codes "in") word tap.Client _ _ r refl e1 (λ e2.
    or_kind (codes "inb") word tap.Client _ _ r refl e2 (λ e3.
    or_kind (codes "poll") word tap.Client _ _ r refl e3 (λ e4.
    or_kind (codes "out") word tap.Client _ _ r refl e4 (λ e5.
    or_kind (codes "lost") word tap.Client _ _ r refl e5 (λ e6. cc))))))

-- ---- one more record of a tap

-- the new records are the old ones and then that of the line, by whichever tap it is read
pub record OneMore (old : Records) (kind : List ℕ) (d : Data) (new : Records) : Type 0 where
  pub rec : Rec
  pub reads : (need UnknownKind (tap_of_kind kind) >>= (λ of. record_in of kind d)) ≡ Ok rec
  pub recs : recs_in new ≡ recs_in old ++ rec ∷ []
  pub same : kind_of_tap new ≡ kind_of_tap old

-- the list with the record that was read
pub record Put {R : Type 0} (read : Result R InputCode) (old new : List R) : Type 0 where
  pub value : R
  pub reads : read ≡ Ok value
  pub is : new ≡ old ++ value ∷ []

-- an entry that was added stands last, after those from before, and had room among them
pub put_entry : (entries new : List StreamRec) (kind : List ℕ) (d : Data) → with_entry entries kind d ≡ Ok new
    → (put : Put (stream_record_of kind d) entries new) × (entry_room (length entries) (map offset_of entries) put.value ≡ Ok tt)
unfolding with_entry
put_entry entries new kind d e =
    let read = part-of (stream_record_of kind d) _ new e in
    let room = part-of (entry_room (length entries) (map offset_of entries) read.0) _ new read.2 in
    (record { value = read.0; reads = read.1; is = cc }, room.1)

-- a node's record that was added stands last, after those from before
put_node : (version : Version) (pids : List (List ℕ)) (records new : List NodeRec) (kind : List ℕ) (d : Data) → with_node_record version pids records kind d ≡ Ok new → Put (node_record_of kind d) records new
unfolding with_node_record
put_node version pids records new kind d e =
    let known = guard-ok UnknownKind (is_in_version version kind) _ new e in
    let read = part-of (node_record_of kind d) _ new known.1 in
    let room = part-of (node_room (length records) (pids ++ option_to_list (pid_of read.0))) _ new read.2 in
    record { value = read.0; reads = read.1; is = cc }

-- a client's record that was added stands last, after those from before
put_client : (records new : List ClientRec) (kind : List ℕ) (d : Data) → with_client_record records kind d ≡ Ok new → Put (client_record_of kind d) records new
unfolding with_client_record
put_client records new kind d e =
    let read = part-of (client_record_of kind d) _ new e in
    let room = part-of (client_room records read.0) _ new read.2 in
    record { value = read.0; reads = read.1; is = cc }

-- a list that was put in, as a tap's records
put_in : {R : Type 0} (of : TapKind) (as_rec : R → Rec) (as_records : List R → Records) (read : Result R InputCode) (list : List R) (put : Result (List R) InputCode) (new : Records) (kind : List ℕ) (d : Data)
    → record_in of kind d ≡ (read >>= λ r. Ok (as_rec r)) → ((rs : List R) → recs_in (as_records rs) ≡ map as_rec rs) → ((rs : List R) → kind_of_tap (as_records rs) ≡ of)
    → ((r : R) → read ≡ Ok r → tap_of_kind kind ≡ Some of) → ((more : List R) → put ≡ Ok more → Put read list more)
    → (put >>= λ more. Ok (as_records more)) ≡ Ok new → OneMore (as_records list) kind d new
put_in of as_rec as_records read list put new kind d reads recs same known one e =
    let more = part-of put _ new e in
    let last = one more.0 more.1 in
    let is : new ≡ as_records (list ++ last.value ∷ []) = same-ok _ _ (sym more.2) ∙ ap as_records last.is in
    record {
      rec = as_rec last.value;
      reads = rw (known last.value last.reads, reads, last.reads) refl;
      recs = ap recs_in is ∙ recs (list ++ last.value ∷ []) ∙ map-append as_rec list (last.value ∷ []) ∙ ap (λ rs. rs ++ as_rec last.value ∷ []) (sym (recs list));
      same = ap kind_of_tap is ∙ same (list ++ last.value ∷ []) ∙ sym (same list);
    }

-- a tap that took a line has one record more, and the kind that it had
pub one_more : (version : Version) (pids : List (List ℕ)) (old new : Records) (kind : List ℕ) (d : Data) → with_tap_record version pids old kind d ≡ Ok new → OneMore old kind d new
unfolding record_in
one_more version pids (Stream entries) new kind d e =
    put_in tap.Stream rec.Stream Stream (stream_record_of kind d) entries (with_entry entries kind d) new kind d refl (λ rs. refl) (λ rs. refl) (stream-kind kind d) (λ more put. (put_entry entries more kind d put).0) e
one_more version pids (Node records) new kind d e =
    put_in tap.Node rec.Node Node (node_record_of kind d) records (with_node_record version pids records kind d) new kind d refl (λ rs. refl) (λ rs. refl) (node-kind kind d) (λ more. put_node version pids records more kind d) e
one_more version pids (Client records) new kind d e =
    put_in tap.Client rec.Client Client (client_record_of kind d) records (with_client_record records kind d) new kind d refl (λ rs. refl) (λ rs. refl) (client-kind kind d) (λ more. put_client records more kind d) e

-- ---- one more line

-- the line is the header of a new tap
pub record Begins (ts : List Tap) (line : List ℕ) (more : List Tap) : Type 0 where
  pub name : List ℕ
  pub of : TapKind
  pub version : Version
  pub reads : line_record line ≡ Ok (name, rec.Header of version)
  pub new : tap_named name ts ≡ None
  pub room : another_tap of ts ≡ Ok tt
  pub is : more ≡ ts ++ record { name = name; version = version; records = no_records of } ∷ []

-- the line adds its record to its tap
pub record Adds (ts : List Tap) (line : List ℕ) (more : List Tap) : Type 0 where
  pub name : List ℕ
  pub found : Tap
  pub records : Records
  pub kind : List ℕ
  pub d : Data
  pub is_found : tap_named name ts ≡ Some found
  pub added : with_tap_record found.version (pids_of ts) found.records kind d ≡ Ok records
  pub grown : OneMore found.records kind d records
  pub reads : line_record line ≡ Ok (name, grown.rec)
  pub is : more ≡ with_records name records ts

-- a line that is read as a header has a header for its record
header_reads : (line name kind : List ℕ) (d : Data) (of : TapKind) (version : Version) → opened_line line ≡ Ok (name, d) → kind_named d ≡ Ok kind → is_text kind (codes "tap") ≡ true → header_of d ≡ Ok (of, version)
    → line_record line ≡ Ok (name, rec.Header of version)
unfolding line_record value_record record_of
header_reads line name kind d of version opened word tap header = rw (opened, word, tap, header) refl

-- a line that is no header has the record of its kind
later_reads : (line name kind : List ℕ) (d : Data) (r : Rec) → opened_line line ≡ Ok (name, d) → kind_named d ≡ Ok kind → is_text kind (codes "tap") ≡ false
    → (need UnknownKind (tap_of_kind kind) >>= (λ of. record_in of kind d)) ≡ Ok r → line_record line ≡ Ok (name, r)
unfolding line_record value_record record_of
later_reads line name kind d r opened word later read = rw (opened, word, later, read) refl

-- a line for which no tap is there, read without a fault, begins its tap
begins : (ts more : List Tap) (line name kind : List ℕ) (d : Data) → opened_line line ≡ Ok (name, d) → kind_named d ≡ Ok kind → tap_named name ts ≡ None → with_header ts name kind d ≡ Ok more → Begins ts line more
unfolding with_header
begins ts more line name kind d opened word new e =
    let header = guard-ok NoHeader (is_text kind (codes "tap")) _ more e in
    let read = part-of (header_of d) _ more header.1 in
    let room = part-of (another_tap read.0.0 ts) _ more read.2 in
    record {
      name = name;
      of = read.0.0;
      version = read.0.1;
      reads = header_reads line name kind d read.0.0 read.0.1 opened word header.0 read.1;
      new = new;
      room = room.1;
      is = cc;
    }

-- a line for which a tap is there, read without a fault, adds a record to it
adds : (ts more : List Tap) (line name kind : List ℕ) (d : Data) (t : Tap) → opened_line line ≡ Ok (name, d) → kind_named d ≡ Ok kind → tap_named name ts ≡ Some t → with_later ts name t kind d ≡ Ok more → Adds ts line more
unfolding with_later
adds ts more line name kind d t opened word found e =
    let later = guard-ok HeaderTwice (not (is_text kind (codes "tap"))) _ more e in
    let added = part-of (with_tap_record t.version (pids_of ts) t.records kind d) _ more later.1 in
    let grown = one_more t.version (pids_of ts) t.records added.0 kind d added.1 in
    record {
      name = name;
      found = t;
      records = added.0;
      kind = kind;
      d = d;
      is_found = found;
      added = added.1;
      grown = grown;
      reads = later_reads line name kind d grown.rec opened word (not-true (is_text kind (codes "tap")) later.0) grown.reads;
      is = cc;
    }

-- a line begins its tap or adds to it, by whether the tap is there
begins_or_adds : (ts more : List Tap) (line name kind : List ℕ) (d : Data) (found : Option Tap) → opened_line line ≡ Ok (name, d) → kind_named d ≡ Ok kind → tap_named name ts ≡ found
    → with_kind ts name found kind d ≡ Ok more → Begins ts line more ⊎ Adds ts line more
begins_or_adds ts more line name kind d None opened word is e = inl (begins ts more line name kind d opened word is e)
begins_or_adds ts more line name kind d (Some t) opened word is e = inr (adds ts more line name kind d t opened word is e)

-- a line that isn't empty and was read begins a tap or adds to one
pub line_step : (ts more : List Tap) (line : List ℕ) → with_line ts line ≡ Ok more → Begins ts line more ⊎ Adds ts line more
unfolding with_line
line_step ts more line e =
    let opened = part-of (opened_line line) _ more e in
    let word = part-of (kind_named opened.0.1) _ more opened.2 in
    begins_or_adds ts more line opened.0.0 word.0 opened.0.1 (tap_named opened.0.0 ts) opened.1 word.1 refl word.2

-- ---- the lines

-- a list of lines of which the first was passed over, or did its step, before the others
pub record First (ts : List Tap) (line : Line) (lines : List Line) (more : List Tap) : Type 0 where
  pub next : List Tap
  pub step : ((line.bytes ≡ []) × (next ≡ ts)) ⊎ (Begins ts line.bytes next ⊎ Adds ts line.bytes next)
  pub rest : taps_from next lines ≡ Ok more

-- a line's number is put to faults alone: what went well is as it was
pub at_line-ok : (n : ℕ) (r : Result (List Tap) InputCode) (more : List Tap) → at_line n r ≡ Ok more → r ≡ Ok more
at_line-ok n (Ok x) more e = let same : x ≡ more = cc in ap Ok same
at_line-ok n (Err code) more e = cc

-- a line is passed over where it is empty, and else begins a tap or adds to one
bytes_step : (ts next : List Tap) (n : ℕ) (line : List ℕ) → passing_empty ts n line ≡ Ok next → ((line ≡ []) × (next ≡ ts)) ⊎ (Begins ts line next ⊎ Adds ts line next)
bytes_step ts next n [] e = let same : next ≡ ts = cc in inl (refl, same)
bytes_step ts next n (b ∷ line) e = inr (line_step ts next (b ∷ line) (at_line-ok n (with_line ts (b ∷ line)) next e))

-- lines that were read: what the first did, and then the others
pub first_of_lines : (ts more : List Tap) (line : Line) (lines : List Line) → taps_from ts (line ∷ lines) ≡ Ok more → First ts line lines more
first_of_lines ts more line lines e =
    let first = part-of (taps_after ts line) _ more e in
    record { next = first.0; step = bytes_step ts first.0 line.number line.bytes first.1; rest = first.2 }

-- the taps at the end are those of the lines
pub taps_at_end : (s : Reading) (ts : List Tap) (fault : Option ReadFault) (lines : List Line) → record { taps = ts; fault = fault } ≡ s → fault ≡ None → taps_to_come s [] ≡ taps_of lines → taps_of lines ≡ Ok ts
taps_at_end s ts fault lines view none is = sym is ∙ rw (← view, none) refl
