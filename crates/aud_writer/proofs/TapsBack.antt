-- The lines of the taps of a bundle lead from no taps to those taps.
use Rattle.std.proofs.Common.{◌≡◌, ℕ, ◌+◌, List, [], ◌∷◌, ◌++◌, map, true, Ok, refl, sym, ap, ◌∙◌, append_assoc, append-nil}
use Rattle.std.specs.List.{All, AllByRecursion}
use Rattle.std.proofs.lemmas.List.Elements.{All-head, All-tail}
use Rattle.aud_tap.specs.declared.records.TapKind.TheVariants as kind
use Rattle.aud_tap.specs.declared.records.Version.{Version}
use Rattle.aud_tap.specs.declared.records.StreamRec.{StreamRec}
use Rattle.aud_tap.specs.declared.records.NodeRec.{NodeRec}
use Rattle.aud_tap.specs.declared.records.ClientRec.{ClientRec}
use Rattle.aud_tap.specs.declared.records.Rec.{Rec}
use Rattle.aud_tap.specs.declared.records.Rec.TheVariants as rec
use Rattle.aud_tap.specs.declared.taps.Records.{Records}
use Rattle.aud_tap.specs.declared.taps.Records.TheVariants.{Stream, Node, Client}
use Rattle.aud_tap.specs.declared.taps.Tap.{Tap}
use Rattle.aud_tap.specs.TapName.{is_tap_name}
use Rattle.aud_tap.specs.WellFormed.{stream_is_well_formed, node_is_well_formed, is_well_formed}
use Rattle.aud_reader.specs.Record.{line_record}
use Rattle.aud_reader.specs.Bundle.{with_line, passing_empty, taps_from, taps_of}
use Rattle.aud_reader.specs.OwnLines.{recs_in, recs_of}
use Rattle.aud_writer.specs.Written.{line_text}
use Rattle.aud_writer.specs.WrittenBundle.{named, named_recs, recs_of_taps, line_texts, numbered, ReadsBack, AreReadAs}
use Rattle.aud_writer.specs.OfABundle.{AreRecords, AreOfABundle}
use Rattle.aud_writer.specs.declared.bundle.Lines.{Lines}
use Rattle.aud_writer.specs.Private.SoFar.{AreWritten}
use Rattle.aud_writer.proofs.LinesBack.{lines-back}
use Rattle.aud_writer.proofs.LineEffects.{made, header-line, entry-line, node-line, client-line}
use Rattle.aud_writer.proofs.BundleRooms.{new-name, room-for, entry-fits, node-fits, node-known, client-fits}

-- ---- lines that lead from taps to others

-- the lines of these records lead from these taps to the last
abbrev AreRead : List Tap → List (List ℕ × Rec) → List Tap → Type 0
AreRead ts [] last = last ≡ ts
AreRead ts (r ∷ rs) last = (next : List Tap) × (with_line ts (line_text r.0 r.1) ≡ Ok next) × AreRead next rs last

-- lines, and then others
then-read : (first second : List (List ℕ × Rec)) (ts mid last : List Tap) → AreRead ts first mid → AreRead mid second last → AreRead ts (first ++ second) last
then-read [] second ts mid last one two = rw (← one) two
then-read (r ∷ first) second ts mid last one two = (one.0, one.1, then-read first second one.0 mid last one.2 two)

-- a written line has bytes
line-passes : (ts next : List Tap) (n : ℕ) (name text : List ℕ) → with_line ts (name ++ 32 ∷ text) ≡ Ok next → passing_empty ts n (name ++ 32 ∷ text) ≡ Ok next
line-passes ts next n [] text e = rw e refl
line-passes ts next n (b ∷ name) text e = rw e refl

-- the taps of the lines
taps-read : (recs : List (List ℕ × Rec)) (n : ℕ) (ts last : List Tap) → AreRead ts recs last → taps_from ts (numbered n (line_texts recs)) ≡ Ok last
taps-read [] n ts last read = ap Ok (sym read)
taps-read (r ∷ rs) n ts last read = rw (line-passes ts read.0 n r.0 _ read.1) (taps-read rs (n + 1) read.0 last read.2)

-- ---- each line reads as its record

-- the line of a record reads as it
abbrev IsRead : List ℕ × Rec → Type 0
IsRead r = line_record (line_text r.0 r.1) ≡ Ok r

abbrev AreFormed : List Rec → Type 0
AreFormed recs = AllByRecursion (λ r. is_well_formed r ≡ true) recs

-- the lines of a tap whose records are well formed, before others
lines-read : (name : List ℕ) (recs : List Rec) (more : List (List ℕ × Rec)) → is_tap_name name ≡ true → AreFormed recs → All ReadsBack (named name recs ++ more) → AllByRecursion IsRead (named name recs) × All ReadsBack more
lines-read name [] more is formed back = (tt, back)
lines-read name (r ∷ recs) more is formed back =
    let rest = lines-read name recs more is formed.1 (All-tail ReadsBack (name, r) (named name recs ++ more) back) in
    ((All-head ReadsBack (name, r) (named name recs ++ more) back is formed.0, rest.0), rest.1)

entries-formed : (entries : List StreamRec) → All (λ entry. stream_is_well_formed entry ≡ true) entries → AreFormed (map rec.Stream entries)
entries-formed [] h = tt
entries-formed (r ∷ rs) h = (All-head (λ (x : StreamRec). stream_is_well_formed x ≡ true) r rs h, entries-formed rs (All-tail (λ (x : StreamRec). stream_is_well_formed x ≡ true) r rs h))

node-formed : (records : List NodeRec) → All (λ r. node_is_well_formed r ≡ true) records → AreFormed (map rec.Node records)
node-formed [] h = tt
node-formed (r ∷ rs) h = (All-head (λ (x : NodeRec). node_is_well_formed x ≡ true) r rs h, node-formed rs (All-tail (λ (x : NodeRec). node_is_well_formed x ≡ true) r rs h))

client-formed : (records : List ClientRec) → AreFormed (map rec.Client records)
client-formed [] = tt
client-formed (r ∷ rs) = (refl, client-formed rs)

records-formed : (version : Version) (records : Records) → AreRecords version records → AreFormed (recs_in records)
records-formed version (Stream entries) h = entries-formed entries h.formed
records-formed version (Node records) h = node-formed records h.formed
records-formed version (Client records) h = client-formed records

-- ---- a tap

module _ {R : Type 0} (as_rec : R → Rec) (tap_of : List R → Tap) (done : List Tap) (name : List ℕ) (all : List R)
    (step : (before after : List R) (r : R) → all ≡ before ++ r ∷ after → IsRead (name, as_rec r) → with_line (done ++ tap_of before ∷ []) (line_text name (as_rec r)) ≡ Ok (done ++ tap_of (before ++ r ∷ []) ∷ [])) where
  -- where each record goes to the last tap, so do all of them
  records-read : (before after : List R) → all ≡ before ++ after → AllByRecursion IsRead (named name (map as_rec after)) → AreRead (done ++ tap_of before ∷ []) (named name (map as_rec after)) (done ++ tap_of all ∷ [])
  records-read before [] is read = ap (λ rs. done ++ tap_of rs ∷ []) (is ∙ append-nil before)
  records-read before (r ∷ after) is read =
      (done ++ tap_of (before ++ r ∷ []) ∷ [], step before after r is read.0, records-read (before ++ r ∷ []) after (is ∙ sym (append_assoc before (r ∷ []) after)) read.1)

-- the lines of a tap put it last
tap-read : (all done rest : List Tap) (name : List ℕ) (version : Version) (records : Records) → AreOfABundle all → all ≡ done ++ made name version records ∷ rest → AreRecords version records
    → AllByRecursion IsRead (named_recs (made name version records)) → AreRead done (named_recs (made name version records)) (done ++ made name version records ∷ [])
tap-read all done rest name version (Stream entries) h is good read =
    let t = made name version (Stream entries) in
    let new = new-name all done rest t h is in (
      done ++ made name version (Stream []) ∷ [],
      header-line done (line_text name (rec.Header kind.Stream version)) name kind.Stream version read.0 new (room-for kind.Stream all done rest t h is refl),
      records-read rec.Stream (λ rs. made name version (Stream rs)) done name entries
          (λ before after r at reads. entry-line done name new version (line_text name (rec.Stream r)) before r reads (entry-fits entries before after r good at))
          [] entries refl read.1,
    )
tap-read all done rest name version (Node records) h is good read =
    let t = made name version (Node records) in
    let new = new-name all done rest t h is in (
      done ++ made name version (Node []) ∷ [],
      header-line done (line_text name (rec.Header kind.Node version)) name kind.Node version read.0 new (room-for kind.Node all done rest t h is refl),
      records-read rec.Node (λ rs. made name version (Node rs)) done name records
          (λ before after r at reads.
          node-line done name new version (line_text name (rec.Node r)) before r reads (node-known version records before after r good at) (node-fits all done rest name version records before after r h is good at))
          [] records refl read.1,
    )
tap-read all done rest name version (Client records) h is good read =
    let t = made name version (Client records) in
    let new = new-name all done rest t h is in (
      done ++ made name version (Client []) ∷ [],
      header-line done (line_text name (rec.Header kind.Client version)) name kind.Client version read.0 new (room-for kind.Client all done rest t h is refl),
      records-read rec.Client (λ rs. made name version (Client rs)) done name records
          (λ before after r at reads. client-line done name new version (line_text name (rec.Client r)) before r reads (client-fits records before after r good at))
          [] records refl read.1,
    )

-- ---- the taps

-- after the lines of the first taps, those of the rest lead to all of them
all-read : (all done rest : List Tap) → AreOfABundle all → all ≡ done ++ rest → All (λ t. is_tap_name t.name ≡ true) rest → All (λ t. AreRecords t.version t.records) rest → All ReadsBack (recs_of_taps rest)
    → AreRead done (recs_of_taps rest) all
all-read all done [] h is names good back = is ∙ append-nil done
all-read all done (t ∷ rest) h is names good back =
    let own = All-head (λ (x : Tap). AreRecords x.version x.records) t rest good in
    let reads = lines-read t.name (recs_of t) (recs_of_taps rest) (All-head (λ (x : Tap). is_tap_name x.name ≡ true) t rest names) (refl, records-formed t.version t.records own) back in
    then-read (named_recs t) (recs_of_taps rest) done (done ++ t ∷ []) all (tap-read all done rest t.name t.version t.records h is own reads.0)
    (all-read all (done ++ t ∷ []) rest h (is ∙ sym (append_assoc done (t ∷ []) rest))
    (All-tail (λ (x : Tap). is_tap_name x.name ≡ true) t rest names) (All-tail (λ (x : Tap). AreRecords x.version x.records) t rest good) reads.1)

-- the lines of taps that a bundle can tell are read as those taps
pub taps-back : (taps : List Tap) → AreOfABundle taps → All ReadsBack (recs_of_taps taps) → taps_of (numbered 1 (line_texts (recs_of_taps taps))) ≡ Ok taps
taps-back taps h back = taps-read (recs_of_taps taps) 1 [] taps (all-read taps [] taps h refl h.named h.records back)

-- and so are the bytes that were written for them
pub bytes-back : (lines : Lines) (taps lent : List Tap) → lent ≡ taps → AreWritten lines (recs_of_taps lent) → AreOfABundle taps → AreReadAs lines.bytes.items taps
bytes-back lines taps lent same written h =
    let are = lines-back lines taps lent same written h.named in
    record { whole = rw are refl; read = rw are (taps-back taps h (rw same at written.back)) }
