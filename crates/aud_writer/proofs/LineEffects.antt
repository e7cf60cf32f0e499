-- What a line that reads as a record does to the taps: a header begins a tap, and any other record goes to the last
-- tap.
use Rattle.std.proofs.Common.{◌≡◌, ℕ, List, [], ◌∷◌, ◌++◌, length, map, true, false, cond, Some, None, option_to_list, Ok, refl, sym, ap, subst, ◌∙◌, codes, true≢false}
use Rattle.std.proofs.lemmas.List.Folds.{find-append}
use Rattle.aud_base.specs.Steps.{◌>>=◌, need}
use Rattle.aud_base.proofs.SameText.{same_text, itself_text}
use Rattle.aud_base.proofs.StepLemmas.{same-ok, part-of}
use Rattle.serde_json.specs.Data.{Data}
use Rattle.aud_tap.specs.declared.records.TapKind.{TapKind}
use Rattle.aud_tap.specs.declared.records.TapKind.TheVariants as tap
use Rattle.aud_tap.specs.declared.records.Version.{Version}
use Rattle.aud_tap.specs.declared.records.Version.TheVariants.{One, Two}
use Rattle.aud_tap.specs.declared.records.StreamRec.{StreamRec}
use Rattle.aud_tap.specs.declared.records.NodeRec.{NodeRec}
use Rattle.aud_tap.specs.declared.records.NodeRec.TheVariants.{Takes}
use Rattle.aud_tap.specs.declared.records.ClientRec.{ClientRec}
use Rattle.aud_tap.specs.declared.records.Rec.{Rec}
use Rattle.aud_tap.specs.declared.records.Rec.TheVariants as rec
use Rattle.aud_tap.specs.declared.taps.Records.{Records}
use Rattle.aud_tap.specs.declared.taps.Records.TheVariants.{Stream, Node, Client}
use Rattle.aud_tap.specs.declared.taps.Tap.{Tap}
use Rattle.aud_tap.specs.Forms.{is_text}
use Rattle.aud_tap.specs.RecordFields.{offset_of, pid_of}
use Rattle.aud_reader.specs.declared.fault.InputCode.TheVariants.{UnknownKind}
use Rattle.aud_reader.specs.Fields.{bounded_id_at}
use Rattle.aud_reader.specs.Header.{header_of}
use Rattle.aud_reader.specs.StreamRecord.{stream_record_of}
use Rattle.aud_reader.specs.NodeRecord.{is_in_version, node_record_of}
use Rattle.aud_reader.specs.ClientRecord.{client_record_of}
use Rattle.aud_reader.specs.Record.{opened_line, kind_named, tap_of_kind, record_in, record_of, value_record, line_record}
use Rattle.aud_reader.specs.Bundle.{entry_room, node_room, client_room, with_entry, with_node_record, with_client_record, with_tap_record, tap_named, with_records, pids_of, another_tap, no_records, with_header, with_later, with_line}
use Rattle.aud_writer.specs.OfABundle.{is_of_version}

-- ---- the record of a value

-- a value of this kind reads as this record: a header, or a record of the tap that has the kind
abbrev pub ReadsAs : Rec → List ℕ → Data → Type 0
ReadsAs (rec.Header of version) kind d = (is_text kind (codes "tap") ≡ true) × (header_of d ≡ Ok (of, version))
ReadsAs (rec.Stream r) kind d = (is_text kind (codes "tap") ≡ false) × (stream_record_of kind d ≡ Ok r)
ReadsAs (rec.Node r) kind d = (is_text kind (codes "tap") ≡ false) × (node_record_of kind d ≡ Ok r)
ReadsAs (rec.Client r) kind d = (is_text kind (codes "tap") ≡ false) × (client_record_of kind d ≡ Ok r)

-- what was read in a tap's way is a record of that tap
in_tap : (of : TapKind) (kind : List ℕ) (d : Data) (r : Rec) → is_text kind (codes "tap") ≡ false → record_in of kind d ≡ Ok r → ReadsAs r kind d
unfolding record_in
in_tap tap.Stream kind d r later e = let (x, read, is) = part-of (stream_record_of kind d) _ r e in subst (λ o. ReadsAs o kind d) (same-ok (rec.Stream x) r is) (later, read)
in_tap tap.Node kind d r later e = let (x, read, is) = part-of (node_record_of kind d) _ r e in subst (λ o. ReadsAs o kind d) (same-ok (rec.Node x) r is) (later, read)
in_tap tap.Client kind d r later e = let (x, read, is) = part-of (client_record_of kind d) _ r e in subst (λ o. ReadsAs o kind d) (same-ok (rec.Client x) r is) (later, read)

-- what was read is a header or a record, by the kind that the value names
reads-as : (kind : List ℕ) (d : Data) (r : Rec) → record_of kind d ≡ Ok r → ReadsAs r kind d
unfolding record_of
reads-as kind d r e =
    elim (is_text kind (codes "tap")) as (λ b. is_text kind (codes "tap") ≡ b
    → cond b (header_of d >>= (λ header. Ok (rec.Header header.0 header.1))) (need UnknownKind (tap_of_kind kind) >>= (λ of. record_in of kind d)) ≡ Ok r → ReadsAs r kind d) [
      | true ↦ λ is h. let (header, read, same) = part-of (header_of d) _ r h in subst (λ o. ReadsAs o kind d) (same-ok (rec.Header header.0 header.1) r same) (is, read)
      | false ↦ λ is h. let (of, known, read) = part-of (need UnknownKind (tap_of_kind kind)) _ r h in in_tap of kind d r is read
    ] refl e

-- a line taken apart, and the record of its value
pub record Opens (line name : List ℕ) (r : Rec) : Type 0 where
  pub kind : List ℕ
  pub d : Data
  pub opened : opened_line line ≡ Ok (name, d)
  pub word : kind_named d ≡ Ok kind
  pub reads : ReadsAs r kind d

-- a line that has a record can be taken apart
pub opens : (line name : List ℕ) (r : Rec) → line_record line ≡ Ok (name, r) → Opens line name r
unfolding line_record value_record
opens line name r e =
    let (parts, opened, valued) = part-of (opened_line line) _ (name, r) e in
    let (value, read, is) = part-of (value_record parts.1) _ (name, r) valued in
    let (kind, word, of) = part-of (kind_named parts.1) _ value read in
    let same = same-ok (parts.0, value) (name, r) is in
    record {
      kind = kind;
      d = parts.1;
      opened = opened ∙ ap (λ p. Ok (p.0, parts.1)) same;
      word = word;
      reads = subst (λ p. ReadsAs p.1 kind parts.1) same (reads-as kind parts.1 value of);
    }

-- ---- a header

-- a tap of this name
abbrev pub made : List ℕ → Version → Records → Tap
made name version records = record { name = name; version = version; records = records }

-- the line of a header begins its tap, where none has the name and there is room for it
pub header-line : (ts : List Tap) (line name : List ℕ) (of : TapKind) (version : Version) → line_record line ≡ Ok (name, rec.Header of version) → tap_named name ts ≡ None → another_tap of ts ≡ Ok tt
    → with_line ts line ≡ Ok (ts ++ made name version (no_records of) ∷ [])
unfolding with_line with_header
header-line ts line name of version e new room =
    let o = opens line name (rec.Header of version) e in
    rw (o.opened, o.word, new, (o.reads).0, (o.reads).1, room) refl

-- ---- the last tap

-- a tap with a new name, put last, is found by it
found : (name : List ℕ) (done : List Tap) (version : Version) (records : Records) → tap_named name done ≡ None → tap_named name (done ++ made name version records ∷ []) ≡ Some (made name version records)
found name done version records new = find-append (λ (x : Tap). is_text name x.name) done (made name version records ∷ []) ∙ rw (new, itself_text name) refl

-- and other records for it leave those before it
replaced : (name : List ℕ) (done : List Tap) (version : Version) (old more : Records) → tap_named name done ≡ None → with_records name more (done ++ made name version old ∷ []) ≡ done ++ made name version more ∷ []
replaced name [] version old more new = rw (itself_text name) refl
replaced name (t ∷ ts) version old more new =
    elim (is_text name t.name) as (λ b. cond b (Some t) (tap_named name ts) ≡ None
    → cond b (record t { records = more } ∷ (ts ++ made name version old ∷ [])) (t ∷ with_records name more (ts ++ made name version old ∷ [])) ≡ t ∷ (ts ++ made name version more ∷ [])) [
      | true ↦ λ h. cc
      | false ↦ λ h. ap (λ rest. t ∷ rest) (replaced name ts version old more h)
    ] new

module _ (done : List Tap) (name : List ℕ) (new : tap_named name done ≡ None) (version : Version) (line : List ℕ) where
  -- the line of a record goes to the last tap
  later-line : (old more : Records) (kind : List ℕ) (d : Data) → opened_line line ≡ Ok (name, d) → kind_named d ≡ Ok kind → is_text kind (codes "tap") ≡ false
      → with_tap_record version (pids_of (done ++ made name version old ∷ [])) old kind d ≡ Ok more → with_line (done ++ made name version old ∷ []) line ≡ Ok (done ++ made name version more ∷ [])
  unfolding with_line with_later
  later-line old more kind d opened word later put = rw (opened, word, found name done version old new, later, put, replaced name done version old more new) refl

  -- an entry
  pub entry-line : (entries : List StreamRec) (r : StreamRec) → line_record line ≡ Ok (name, rec.Stream r) → entry_room (length entries) (map offset_of entries) r ≡ Ok tt
      → with_line (done ++ made name version (Stream entries) ∷ []) line ≡ Ok (done ++ made name version (Stream (entries ++ r ∷ [])) ∷ [])
  unfolding with_entry
  entry-line entries r e room =
      let o = opens line name (rec.Stream r) e in
      later-line (Stream entries) (Stream (entries ++ r ∷ [])) o.kind o.d o.opened o.word (o.reads).0 (rw ((o.reads).1, room) refl)

  -- a client's record
  pub client-line : (records : List ClientRec) (r : ClientRec) → line_record line ≡ Ok (name, rec.Client r) → client_room records r ≡ Ok tt
      → with_line (done ++ made name version (Client records) ∷ []) line ≡ Ok (done ++ made name version (Client (records ++ r ∷ [])) ∷ [])
  unfolding with_client_record
  client-line records r e room =
      let o = opens line name (rec.Client r) e in
      later-line (Client records) (Client (records ++ r ∷ [])) o.kind o.d o.opened o.word (o.reads).0 (rw ((o.reads).1, room) refl)

-- a node's record that a version has is of a kind that it has
known-kind : (version : Version) (kind : List ℕ) (d : Data) (r : NodeRec) → node_record_of kind d ≡ Ok r → is_of_version version r ≡ true → is_in_version version kind ≡ true
unfolding node_record_of
known-kind Two kind d r read of = refl
known-kind One kind d r read of =
    elim (is_text kind (codes "takes")) as (λ b. is_text kind (codes "takes") ≡ b → is_in_version One kind ≡ true) [
      | true ↦ λ is.
          let read_so : node_record_of (codes "takes") d ≡ Ok r = ap (λ k. node_record_of k d) (sym (same_text kind (codes "takes") is)) ∙ read in
          let (off, bounded, takes) = part-of (bounded_id_at _ (codes "off") d) _ r read_so in
          absurd (true≢false (sym of ∙ ap (is_of_version One) (sym (same-ok (Takes off) r takes))))
      | false ↦ λ is. rw is refl
    ] refl

-- a node's record
pub node-line : (done : List Tap) (name : List ℕ) → tap_named name done ≡ None → (version : Version) (line : List ℕ) (records : List NodeRec) (r : NodeRec) → line_record line ≡ Ok (name, rec.Node r) → is_of_version version r ≡ true
    → node_room (length records) (pids_of (done ++ made name version (Node records) ∷ []) ++ option_to_list (pid_of r)) ≡ Ok tt
    → with_line (done ++ made name version (Node records) ∷ []) line ≡ Ok (done ++ made name version (Node (records ++ r ∷ [])) ∷ [])
unfolding with_node_record
node-line done name new version line records r e of room =
    let o = opens line name (rec.Node r) e in
    later-line done name new version line (Node records) (Node (records ++ r ∷ [])) o.kind o.d o.opened o.word (o.reads).0
    (rw (known-kind version o.kind o.d r (o.reads).1 of, (o.reads).1, room) refl)
