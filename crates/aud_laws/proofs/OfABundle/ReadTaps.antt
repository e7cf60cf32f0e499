-- The taps that lines are read as are those of a bundle.
use Rattle.std.proofs.Common.{◌≡◌, ℕ, ◌≤◌, List, [], ◌∷◌, true, inl, inr, get_or, Ok, arith, subst}
use Rattle.std.specs.List.{All}
use Rattle.std.specs.Set.{distinct_count}
use Rattle.std.proofs.lemmas.List.Elements.{All-nil, All-set, All-push}
use Rattle.serde_json.specs.Data.{Data}
use Rattle.aud_base.specs.Steps.{need}
use Rattle.aud_base.proofs.StepLemmas.{same-ok, part-of, guard-ok}
use Rattle.aud_tap.specs.declared.records.TapKind.TheVariants as kind
use Rattle.aud_tap.specs.declared.records.Rec.{Rec}
use Rattle.aud_tap.specs.declared.taps.Tap.{Tap}
use Rattle.aud_tap.specs.Forms.{is_text}
use Rattle.aud_tap.specs.TapName.{is_tap_name}
use Rattle.aud_reader.specs.declared.fault.InputCode.TheVariants.{LineTooLong, NoTapName}
use Rattle.aud_reader.specs.declared.line.Line.{Line}
use Rattle.aud_reader.specs.Record.{json_of, cut_at_blank, opened_line, value_record, line_record}
use Rattle.aud_reader.specs.Bundle.{max_pids, max_node_taps, max_client_taps, taps_on, pids_of, no_records, with_line, passing_empty, taps_after, taps_from, taps_of}
use Rattle.aud_reader.specs.Sound.{AreSoundTaps}
use Rattle.aud_reader.proofs.KeptLemmas.{replaced, taps_on-set}
use Rattle.aud_reader.proofs.LineSteps.{Begins, Adds, line_step, at_line-ok}
use Rattle.aud_reader.proofs.TapLaws.{sound-none, sound-line}
use Rattle.aud_writer.specs.OfABundle.{AreOfABundle}
use Rattle.aud_laws.proofs.OfABundle.Counts.{count-set, pids-begun, nodes-begun, clients-begun}
use Rattle.aud_laws.proofs.OfABundle.Records.{AreKept, are_records, kept-none, kept-more, pids-more}

-- the name before the first blank of a line has the form of a tap's name
opened-named : (line : List ℕ) (opened : List ℕ × Data) → opened_line line ≡ Ok opened → is_tap_name opened.0 ≡ true
unfolding opened_line
opened-named line opened e =
    let fit = guard-ok LineTooLong _ _ opened e in
    let parts = part-of (need NoTapName (cut_at_blank line)) _ opened fit.1 in
    let named = guard-ok NoTapName (is_tap_name parts.0.0) _ opened parts.2 in
    let json = part-of (json_of parts.0.1) _ opened named.1 in
    subst (λ (o : List ℕ × Data). is_tap_name o.0 ≡ true) (same-ok (parts.0.0, json.0) opened json.2) named.0

-- so has the name of a line that was read
line-named : (line name : List ℕ) (rec : Rec) → line_record line ≡ Ok (name, rec) → is_tap_name name ≡ true
unfolding line_record
line-named line name rec e =
    let opened = part-of (opened_line line) _ (name, rec) e in
    let value = part-of (value_record opened.0.1) _ (name, rec) opened.2 in
    subst (λ (o : List ℕ × Rec). is_tap_name o.0 ≡ true) (same-ok (opened.0.0, value.0) (name, rec) value.2) (opened-named line opened.0 opened.1)

-- what the taps so far keep to, beside different names, one stream at most, and each offset once
record AreKeptTaps (ts : List Tap) : Type 0 where
  named : All (λ t. is_tap_name t.name ≡ true) ts
  nodes : taps_on kind.Node ts ≤ max_node_taps
  clients : taps_on kind.Client ts ≤ max_client_taps
  pids : distinct_count is_text (pids_of ts) ≤ max_pids
  records : All (λ t. AreKept t.version t.records) ts

taps-none : AreKeptTaps []
taps-none = record { named = All-nil _; nodes = omega arith; clients = omega arith; pids = omega arith; records = All-nil _ }

-- a header begins a tap
taps-begin : (ts more : List Tap) (line : List ℕ) → AreKeptTaps ts → Begins ts line more → AreKeptTaps more
taps-begin ts more line kept b =
    let t : Tap = record { name = b.name; version = b.version; records = no_records b.of } in
    rw b.is (record {
      named = All-push (λ (x : Tap). is_tap_name x.name ≡ true) ts t kept.named (line-named line b.name _ b.reads);
      nodes = nodes-begun ts b.name b.version b.of kept.nodes b.room;
      clients = clients-begun ts b.name b.version b.of kept.clients b.room;
      pids = rw (pids-begun ts b.name b.of b.version) kept.pids;
      records = All-push (λ (x : Tap). AreKept x.version x.records) ts t kept.records (kept-none b.version b.of);
    })

-- a later line adds a record to one
taps-add : (ts more : List Tap) (line : List ℕ) → AreKeptTaps ts → Adds ts line more → AreKeptTaps more
taps-add ts more line kept a =
    let (i, within, at, put) = replaced a.name a.records ts a.found a.is_found in
    let t : Tap = record a.found { records = a.records } in
    let joined = pids-more (a.found).version (pids_of ts) (a.found).records a.records a.kind a.d kept.pids a.added in
    rw (a.is, put) (record {
      named = All-set (λ (x : Tap). is_tap_name x.name ≡ true) ts i t (subst (λ (x : Tap). is_tap_name x.name ≡ true) at (kept.named i a.found within)) kept.named;
      nodes = rw (taps_on-set kind.Node ts i a.found t within at a.grown.same) kept.nodes;
      clients = rw (taps_on-set kind.Client ts i a.found t within at a.grown.same) kept.clients;
      pids = rw (count-set ts i a.found t joined.more within at joined.is) joined.few;
      records = All-set (λ (x : Tap). AreKept x.version x.records) ts i t
          (kept-more (a.found).version (pids_of ts) (a.found).records a.records a.kind a.d a.added (subst (λ (x : Tap). AreKept x.version x.records) at (kept.records i a.found within))) kept.records;
    })

-- taps that keep to all of it
record AreAll (ts : List Tap) : Type 0 where
  sound : AreSoundTaps ts
  kept : AreKeptTaps ts

-- whatever a line is
after-line : (ts next : List Tap) (n : ℕ) (line : List ℕ) → AreAll ts → passing_empty ts n line ≡ Ok next → AreAll next
after-line ts next n [] all e = subst AreAll (same-ok ts next e) all
after-line ts next n (b ∷ line) all e =
    let read = at_line-ok n (with_line ts (b ∷ line)) next e in
    record {
      sound = sound-line ts next (b ∷ line) all.sound read;
      kept = elim (line_step ts next (b ∷ line) read) [
        | inl begins ↦ taps-begin ts next (b ∷ line) all.kept begins
        | inr adds ↦ taps-add ts next (b ∷ line) all.kept adds
      ];
    }

-- whatever the lines are
after-lines : (ts more : List Tap) (lines : List Line) → AreAll ts → taps_from ts lines ≡ Ok more → AreAll more
after-lines ts more [] all e = subst AreAll (same-ok ts more e) all
after-lines ts more (line ∷ lines) all e =
    let first = part-of (taps_after ts line) _ more e in
    after-lines first.0 more lines (after-line ts first.0 line.number line.bytes all first.1) first.2

-- taps that were read are those of a bundle
pub read-taps : (lines : List Line) (taps : List Tap) → taps_of lines ≡ Ok taps → AreOfABundle taps
read-taps lines taps e =
    let all = after-lines [] taps lines (record { sound = sound-none; kept = taps-none }) e in
    record {
      named = all.kept.named;
      names = all.sound.names;
      stream = all.sound.stream;
      nodes = all.kept.nodes;
      clients = all.kept.clients;
      pids = all.kept.pids;
      records = λ i d within.
          let t = get_or taps i d in
          are_records t.version t.records (all.kept.records i d within) (all.sound.offsets i d within);
    }
