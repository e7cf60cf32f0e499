-- A record that was read before its tap was looked at is added as its line is.
use Rattle.std.proofs.Common.{◌≡◌, ℕ, List, get_or, set, Bool, true, false, cond, not, Some, Result, Ok, Err, refl, sym, ap, ◌∙◌, codes}
use Rattle.std.specs.Result.{OnOk}
use Rattle.std.proofs.lemmas.Option.{same_Some}
use Rattle.aud_base.specs.Steps.{◌>>=◌, need, guard}
use Rattle.aud_base.proofs.SameText.{same_text}
use Rattle.aud_base.proofs.StepLemmas.{same-ok, part-of, guard-ok}
use Rattle.serde_json.specs.Data.{Data}
use Rattle.aud_reader.specs.declared.fault.InputCode.{InputCode}
use Rattle.aud_reader.specs.declared.fault.InputCode.TheVariants.{UnknownKind, HeaderTwice, Field, Limit}
use Rattle.aud_reader.specs.declared.fault.LineFault.{LineFault}
use Rattle.aud_reader.specs.declared.fault.LineFault.TheVariants as fault
use Rattle.aud_tap.specs.declared.records.TapKind.{TapKind}
use Rattle.aud_tap.specs.declared.records.TapKind.TheVariants as tap
use Rattle.aud_tap.specs.declared.records.Version.{Version}
use Rattle.aud_tap.specs.declared.records.Version.TheVariants.{One, Two}
use Rattle.aud_tap.specs.declared.records.StreamRec.{StreamRec}
use Rattle.aud_tap.specs.declared.records.NodeRec.{NodeRec}
use Rattle.aud_tap.specs.declared.records.ClientRec.{ClientRec}
use Rattle.aud_tap.specs.declared.records.Rec.{Rec}
use Rattle.aud_tap.specs.declared.records.Rec.TheVariants as rec
use Rattle.aud_tap.specs.declared.taps.Records.{Records}
use Rattle.aud_tap.specs.declared.taps.Records.TheVariants.{Stream, Node, Client}
use Rattle.aud_tap.specs.declared.taps.Tap.{Tap}
use Rattle.aud_tap.specs.Forms.{is_text}
use Rattle.aud_tap.specs.Limits.{fits, max_offset, max_id, max_namespace}
use Rattle.aud_tap.specs.Names.{place_of}
use Rattle.aud_reader.specs.Fields.{id_at, bounded_id_at, id_or_null_at, namespace_at}
use Rattle.aud_reader.specs.Header.{header_of}
use Rattle.aud_reader.specs.StreamRecord.{stream_record_of}
use Rattle.aud_reader.specs.NodeRecord.{is_in_version, fits_if_there, start_of, takes_of, open_of, node_record_of}
use Rattle.aud_reader.specs.ClientRecord.{client_record_of}
use Rattle.aud_reader.specs.Record.{opened_line, kind_named, tap_of_kind, record_in, record_of, value_record, line_record}
use Rattle.aud_reader.specs.Bundle.{with_entry, with_new_entry, with_node_record, with_client_record, with_tap_record, kind_of_tap, pids_of, with_named, with_line}
use Rattle.aud_reader.specs.Private.Changes.{Becomes}
use Rattle.aud_reader.specs.Private.NewRecord.{is_takes, has_record, with_new_node_record, with_new_client_record, with_new_record}
use Rattle.aud_reader.proofs.Lists.{need-ok}
use Rattle.aud_reader.proofs.KeptLemmas.{header-twice, go_on-taps}

-- ---- the words of one kind of tap are no other's

-- a word of another kind of tap isn't this one
none_other : {A : Type 0} (known word : List ℕ) (of other : TapKind) (x y r : Result A InputCode) → tap_of_kind known ≡ Some of → tap_of_kind word ≡ Some other → (of ≡ other → ⊥) → y ≡ r → cond (is_text word known) x y ≡ r
none_other known word of other x y r is_known is apart later =
    elim (is_text word known) as (λ b. is_text word known ≡ b → cond b x y ≡ r) [
      | true ↦ λ same. absurd (apart (same_Some of other (sym is_known ∙ ap tap_of_kind (sym (same_text word known same)) ∙ is)))
      | false ↦ λ differs. later
    ] refl

-- the stream has no record of another's word
stream-other : (word : List ℕ) (d : Data) (other : TapKind) → tap_of_kind word ≡ Some other → (tap.Stream ≡ other → ⊥) → stream_record_of word d ≡ Err UnknownKind
unfolding stream_record_of
stream-other word d other is apart =
    none_other (codes "ev") word tap.Stream other _ _ _ refl is apart
    (none_other (codes "other") word tap.Stream other _ _ _ refl is apart refl)

-- a node has no record of another's word
node-other : (word : List ℕ) (d : Data) (other : TapKind) → tap_of_kind word ≡ Some other → (tap.Node ≡ other → ⊥) → node_record_of word d ≡ Err UnknownKind
unfolding node_record_of
node-other word d other is apart =
    none_other (codes "start") word tap.Node other _ _ _ refl is apart
    (none_other (codes "take") word tap.Node other _ _ _ refl is apart
    (none_other (codes "takes") word tap.Node other _ _ _ refl is apart
    (none_other (codes "open") word tap.Node other _ _ _ refl is apart
    (none_other (codes "join") word tap.Node other _ _ _ refl is apart
    (none_other (codes "leave") word tap.Node other _ _ _ refl is apart
    (none_other (codes "break") word tap.Node other _ _ _ refl is apart
    (none_other (codes "back") word tap.Node other _ _ _ refl is apart
    (none_other (codes "gone") word tap.Node other _ _ _ refl is apart refl))))))))

-- a client has no record of another's word
client-other : (word : List ℕ) (d : Data) (other : TapKind) → tap_of_kind word ≡ Some other → (tap.Client ≡ other → ⊥) → client_record_of word d ≡ Err UnknownKind
unfolding client_record_of
client-other word d other is apart =
    none_other (codes "conn") word tap.Client other _ _ _ refl is apart
    (none_other (codes "in") word tap.Client other _ _ _ refl is apart
    (none_other (codes "inb") word tap.Client other _ _ _ refl is apart
    (none_other (codes "poll") word tap.Client other _ _ _ refl is apart
    (none_other (codes "out") word tap.Client other _ _ _ refl is apart
    (none_other (codes "lost") word tap.Client other _ _ _ refl is apart refl)))))

-- ---- the versions

-- the word is this one, or the record is that of a word after it
by_word : {P : Type 0} (known word : List ℕ) (x y : Result NodeRec InputCode) (r : NodeRec) → cond (is_text word known) x y ≡ Ok r → (is_text word known ≡ true → x ≡ Ok r → P) → (y ≡ Ok r → P) → P
by_word {P} known word x y r e here later =
    elim (is_text word known) as (λ b. is_text word known ≡ b → cond b x y ≡ Ok r → P) [
      | true ↦ λ is h. here is h
      | false ↦ λ is h. later h
    ] refl e

-- the word is `takes`
abbrev IsTakes : List ℕ → Type 0
IsTakes word = is_text word (codes "takes") ≡ true

-- a record that was made of something is no `takes`, if none is made so
not_takes : {A : Type 0} {P : Type 0} (read : Result A InputCode) (made : A → NodeRec) (r : NodeRec) → ((x : A) → is_takes (made x) ≡ false) → (read >>= λ x. Ok (made x)) ≡ Ok r → is_takes r ≡ true → P
not_takes read made r none e is =
    let part = part-of read _ r e in
    let same : made part.0 ≡ r = same-ok _ _ part.2 in
    let never : false ≡ true = sym (none part.0) ∙ ap is_takes same ∙ is in
    cc

-- where the node's start was read, the record is that
start-no_takes : {P : Type 0} (d : Data) (r : NodeRec) → start_of d ≡ Ok r → is_takes r ≡ true → P
unfolding start_of
start-no_takes d r e is =
    let off = part-of (need Field (id_or_null_at (codes "off") d)) _ r e in
    let fit = guard-ok Limit (fits_if_there off.0) _ r off.2 in
    let same = same-ok _ r fit.1 in
    let never : false ≡ true = ap is_takes same ∙ is in
    cc

-- where a session's begin was read, the record is that
open-no_takes : {P : Type 0} (d : Data) (r : NodeRec) → open_of d ≡ Ok r → is_takes r ≡ true → P
unfolding open_of
open-no_takes d r e is =
    let pid = part-of (need Field (id_at (codes "pid") d)) _ r e in
    let sid = part-of (need Field (id_at (codes "sid") d)) _ r pid.2 in
    let nsp = part-of (need Field (namespace_at (codes "nsp") d)) _ r sid.2 in
    let one = guard-ok Limit (fits max_id pid.0) _ r nsp.2 in
    let two = guard-ok Limit (fits max_id sid.0) _ r one.1 in
    let three = guard-ok Limit (fits max_namespace nsp.0) _ r two.1 in
    let same = same-ok _ r three.1 in
    let never : false ≡ true = ap is_takes same ∙ is in
    cc

-- a `takes` was read of the word `takes`
takes-word : (word : List ℕ) (d : Data) (r : NodeRec) → node_record_of word d ≡ Ok r → is_takes r ≡ true → IsTakes word
unfolding node_record_of
takes-word word d r e is =
    by_word (codes "start") word _ _ r e (λ w h. start-no_takes d r h is) (λ e1.
    by_word (codes "take") word _ _ r e1 (λ w h. not_takes _ _ r (λ x. refl) h is) (λ e2.
    by_word (codes "takes") word _ _ r e2 (λ w h. w) (λ e3.
    by_word (codes "open") word _ _ r e3 (λ w h. open-no_takes d r h is) (λ e4.
    by_word (codes "join") word _ _ r e4 (λ w h. not_takes _ _ r (λ x. refl) h is) (λ e5.
    by_word (codes "leave") word _ _ r e5 (λ w h. not_takes _ _ r (λ x. refl) h is) (λ e6.
    by_word (codes "break") word _ _ r e6 (λ w h. not_takes _ _ r (λ x. refl) h is) (λ e7.
    by_word (codes "back") word _ _ r e7 (λ w h. not_takes _ _ r (λ x. refl) h is) (λ e8.
    by_word (codes "gone") word _ _ r e8 (λ w h. not_takes _ _ r (λ x. refl) h is) (λ e9. cc)))))))))

-- the word `takes` is read as a `takes`
word-takes : (word : List ℕ) (d : Data) (r : NodeRec) → node_record_of word d ≡ Ok r → IsTakes word → is_takes r ≡ true
unfolding node_record_of
word-takes word d r e is =
    let named : takes_of d ≡ Ok r = ap (λ w. node_record_of w d) (sym (same_text word (codes "takes") is)) ∙ e in
    let part = part-of (bounded_id_at max_offset (codes "off") d) _ r named in
    ap is_takes (sym (same-ok _ r part.2))

-- a record is of the versions of its word
in_version : (version : Version) (word : List ℕ) (d : Data) (r : NodeRec) → node_record_of word d ≡ Ok r → is_in_version version word ≡ has_record version r
in_version Two word d r e = refl
in_version One word d r e =
    elim (is_takes r) as (λ b. is_takes r ≡ b → not (is_text word (codes "takes")) ≡ not b) [
      | true ↦ λ is. rw (takes-word word d r e is) refl
      | false ↦ λ is. ap not (go is (is_text word (codes "takes")) refl)
    ] refl
  where
    go : is_takes r ≡ false → (b : Bool) → is_text word (codes "takes") ≡ b → b ≡ false
    go is true w = sym (word-takes word d r e w) ∙ is
    go is false w = refl

-- ---- one more record of a tap

-- whatever is tested first, the word is refused
either_refused : {B : Type 0} (b : Bool) → ◌≡◌ {A = Result B InputCode} (guard UnknownKind b >>= λ known. Err UnknownKind) (Err UnknownKind)
either_refused true = refl
either_refused false = refl

-- a line whose word no node has is refused
node_refused : (version : Version) (pids : List (List ℕ)) (rs : List NodeRec) (kind : List ℕ) (d : Data) → node_record_of kind d ≡ Err UnknownKind → with_node_record version pids rs kind d ≡ Err UnknownKind
unfolding with_node_record
node_refused version pids rs kind d e = rw e (either_refused (is_in_version version kind))

module _ (version : Version) (pids : List (List ℕ)) (kind : List ℕ) (d : Data) where
  -- a record of the stream is added as its line is
  stream_in : (entry : StreamRec) (rs : Records) → tap_of_kind kind ≡ Some tap.Stream → stream_record_of kind d ≡ Ok entry → with_tap_record version pids rs kind d ≡ with_new_record version pids rs (rec.Stream entry)
  unfolding with_entry with_client_record
  stream_in entry (Stream entries) is read = rw read refl
  stream_in entry (Node rs) is read = rw (node_refused version pids rs kind d (node-other kind d tap.Stream is (λ e. cc))) refl
  stream_in entry (Client rs) is read = rw (client-other kind d tap.Stream is (λ e. cc)) refl

  -- a record of a node is added as its line is
  node_in : (r : NodeRec) (rs : Records) → tap_of_kind kind ≡ Some tap.Node → node_record_of kind d ≡ Ok r → with_tap_record version pids rs kind d ≡ with_new_record version pids rs (rec.Node r)
  unfolding with_entry with_node_record with_client_record
  node_in r (Stream entries) is read = rw (stream-other kind d tap.Node is (λ e. cc)) refl
  node_in r (Node rs) is read = rw (in_version version kind d r read, read) refl
  node_in r (Client rs) is read = rw (client-other kind d tap.Node is (λ e. cc)) refl

  -- a record of a client is added as its line is
  client_in : (r : ClientRec) (rs : Records) → tap_of_kind kind ≡ Some tap.Client → client_record_of kind d ≡ Ok r → with_tap_record version pids rs kind d ≡ with_new_record version pids rs (rec.Client r)
  unfolding with_entry with_client_record
  client_in r (Stream entries) is read = rw (stream-other kind d tap.Client is (λ e. cc)) refl
  client_in r (Node rs) is read = rw (node_refused version pids rs kind d (node-other kind d tap.Client is (λ e. cc))) refl
  client_in r (Client rs) is read = rw read refl

  -- a record of any tap is added as its line is
  any_in : (r : Rec) (rs : Records) (of : TapKind) → tap_of_kind kind ≡ Some of → record_in of kind d ≡ Ok r → with_tap_record version pids rs kind d ≡ with_new_record version pids rs r
  unfolding record_in
  any_in r rs tap.Stream is reads =
      let part = part-of (stream_record_of kind d) _ r reads in
      stream_in part.0 rs is part.1 ∙ ap (with_new_record version pids rs) (same-ok _ r part.2)
  any_in r rs tap.Node is reads =
      let part = part-of (node_record_of kind d) _ r reads in
      node_in part.0 rs is part.1 ∙ ap (with_new_record version pids rs) (same-ok _ r part.2)
  any_in r rs tap.Client is reads =
      let part = part-of (client_record_of kind d) _ r reads in
      client_in part.0 rs is part.1 ∙ ap (with_new_record version pids rs) (same-ok _ r part.2)

-- a record that was read is added as its line is
same_record : (version : Version) (pids : List (List ℕ)) (rs : Records) (kind : List ℕ) (d : Data) (r : Rec) → (need UnknownKind (tap_of_kind kind) >>= λ of. record_in of kind d) ≡ Ok r
    → with_tap_record version pids rs kind d ≡ with_new_record version pids rs r
same_record version pids rs kind d r e =
    let part = part-of (need UnknownKind (tap_of_kind kind)) _ r e in
    any_in version pids kind d r rs part.0 (need-ok UnknownKind part.0 (tap_of_kind kind) part.1) part.2

-- a tap that took a record has the kind that it had
pub same_kind-after : (version : Version) (pids : List (List ℕ)) (old new : Records) (r : Rec) → with_new_record version pids old r ≡ Ok new → kind_of_tap new ≡ kind_of_tap old
same_kind-after version pids (Stream entries) new (rec.Stream entry) e = let part = part-of (with_new_entry entries entry) _ new e in ap kind_of_tap (sym (same-ok _ new part.2))
same_kind-after version pids (Stream entries) new (rec.Header of v) e = cc
same_kind-after version pids (Stream entries) new (rec.Node r) e = cc
same_kind-after version pids (Stream entries) new (rec.Client r) e = cc
same_kind-after version pids (Node rs) new (rec.Node r) e = let part = part-of (with_new_node_record version pids rs r) _ new e in ap kind_of_tap (sym (same-ok _ new part.2))
same_kind-after version pids (Node rs) new (rec.Header of v) e = cc
same_kind-after version pids (Node rs) new (rec.Stream entry) e = cc
same_kind-after version pids (Node rs) new (rec.Client r) e = cc
same_kind-after version pids (Client rs) new (rec.Client r) e = let part = part-of (with_new_client_record rs r) _ new e in ap kind_of_tap (sym (same-ok _ new part.2))
same_kind-after version pids (Client rs) new (rec.Header of v) e = cc
same_kind-after version pids (Client rs) new (rec.Stream entry) e = cc
same_kind-after version pids (Client rs) new (rec.Node r) e = cc

pub kind-after : (version : Version) (pids : List (List ℕ)) (old new : Records) (r : Rec) (done : Result (Unit {0}) LineFault) → Becomes done new (with_new_record version pids old r) → OnOk done (kind_of_tap new ≡ kind_of_tap old)
kind-after version pids old new r (Ok u) is = same_kind-after version pids old new r is
kind-after version pids old new r (Err e) is = tt

-- ---- one more line

-- a line whose own reading gives a name and a record: its kind and its fields
record ReadAs (line name : List ℕ) (r : Rec) : Type 0 where
  pub kind : List ℕ
  pub d : Data
  pub opened : opened_line line ≡ Ok (name, d)
  pub word : kind_named d ≡ Ok kind
  pub is : record_of kind d ≡ Ok r

read_as : (line name : List ℕ) (r : Rec) → line_record line ≡ Ok (name, r) → ReadAs line name r
unfolding line_record value_record
read_as line name r e =
    let parts = part-of (opened_line line) _ (name, r) e in
    let value = part-of (value_record parts.0.1) _ (name, r) parts.2 in
    let word = part-of (kind_named parts.0.1) _ value.0 value.1 in
    let same : (parts.0.0, value.0) ≡ (name, r) = same-ok _ _ value.2 in
    record {
      kind = word.0;
      d = parts.0.1;
      opened = parts.1 ∙ ap (λ (p : List ℕ × Rec). Ok (p.0, parts.0.1)) same;
      word = word.1;
      is = word.2 ∙ ap (λ (p : List ℕ × Rec). Ok p.1) same;
    }

-- a header's record is added to no records
header_in : (version : Version) (pids : List (List ℕ)) (rs : Records) (of : TapKind) (v : Version) → with_new_record version pids rs (rec.Header of v) ≡ Err HeaderTwice
header_in version pids (Stream rs) of v = refl
header_in version pids (Node rs) of v = refl
header_in version pids (Client rs) of v = refl

-- what is refused is refused, whatever it would become
refused-as : {X Y : Type 0} (done : Result (Unit {0}) LineFault) (x : X) (y : Y) (code : InputCode) → Becomes done x (Err code) → Becomes done y (Err code)
refused-as (Ok u) x y code is = cc
refused-as (Err fault.Memory) x y code is = tt
refused-as (Err (fault.Code c)) x y code is = let same : code ≡ c = cc in ap Err same

-- where the reader changed a tap's records by the record of a line, all taps are as the line says
pub pushed-taps : (ts : List Tap) (i : ℕ) (t t' : Tap) (line name : List ℕ) (r : Rec) (done : Result (Unit {0}) LineFault) → place_of ts name ≡ Some i → get_or ts i t ≡ t → t'.name ≡ t.name → t'.version ≡ t.version
    → Becomes done t'.records (with_new_record t.version (pids_of ts) t.records r) → line_record line ≡ Ok (name, r) → Becomes done (set ts i t') (with_line ts line)
unfolding with_line record_of
pushed-taps ts i t t' line name r done place at same version is reads =
    let own = read_as line name r reads in
    let brings : with_line ts line ≡ with_named ts name own.kind own.d = rw (own.opened, own.word) refl in
    rw brings
    (elim (is_text own.kind (codes "tap")) as (λ b. is_text own.kind (codes "tap") ≡ b → cond b (header_of own.d >>= (λ header. Ok (rec.Header header.0 header.1))) (need UnknownKind (tap_of_kind own.kind) >>= (λ of. record_in of own.kind own.d)) ≡ Ok r
    → Becomes done (set ts i t') (with_named ts name own.kind own.d)) [
      | true ↦ λ word h.
          let header = part-of (header_of own.d) _ r h in
          let twice : with_new_record t.version (pids_of ts) t.records r ≡ Err HeaderTwice = ap (with_new_record t.version (pids_of ts) t.records) (sym (same-ok _ r header.2)) ∙ header_in t.version (pids_of ts) t.records header.0.0 header.0.1 in
          rw (header-twice ts i name own.kind own.d place word) (refused-as done t'.records (set ts i t') HeaderTwice (rw twice at is))
      | false ↦ λ word h. go_on-taps ts i t t' name own.kind own.d done place at word same version (rw (same_record t.version (pids_of ts) t.records own.kind own.d r h) is)
    ] refl own.is)
