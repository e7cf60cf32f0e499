-- The taps of the stream and of the nodes are read, each by its own lines.
use Rattle.std.proofs.Common.{◌≡◌, ℕ, ◌-◌, Bool, true, false, List, [], ◌∷◌, ◌++◌, drop, length, map, Option, Some, None, IfSome, option_map, Ok, slice_get, if◌then◌else◌, refl, sym, ap, ◌∙◌, arith}
use Rattle.std.specs.Option.{option_and_then, option_map_or}
use Rattle.std.specs.Result.{result_ok}
use Rattle.std.proofs.lemmas.List.{map-append}
use Rattle.std.proofs.lemmas.List.Elements.{filter_map-append}
use Rattle.std.proofs.lemmas.Grind.{common_steps}
use Rattle.std.proofs.lemmas.Option.{same_Some}
use Rattle.aud_tap.specs.declared.records.NodeRec.{NodeRec}
use Rattle.aud_tap.specs.Forms.{is_text}
use Rattle.aud_tap.specs.declared.records.Rec.{Rec}
use Rattle.aud_tap.specs.declared.records.Rec.TheVariants as rec
use Rattle.aud_tap.specs.declared.records.TapKind.{TapKind}
use Rattle.aud_tap.specs.declared.records.TapKind.TheVariants as kind
use Rattle.aud_tap.specs.declared.records.Version.{Version}
use Rattle.aud_tap.specs.declared.taps.Records.{Records}
use Rattle.aud_tap.specs.declared.taps.Records.TheVariants as records
use Rattle.aud_tap.specs.declared.taps.Tap.{Tap}
use Rattle.aud_node.specs.Cluster.{node_recs}
use Rattle.aud_input.specs.declared.line_runs.LineRun.{LineRun}
use Rattle.aud_input.specs.LineRuns.{lines_of_runs}
use Rattle.aud_reader.specs.declared.line.Line.{Line}
use Rattle.aud_reader.specs.Bundle.{kind_of_tap, tap_named}
use Rattle.aud_reader.specs.Record.{line_record}
use Rattle.aud_reader.specs.OwnLines.{HaveTheirOwnLines, if_for, record_for, records_for, recs_in, recs_of}
use Rattle.aud_parts.specs.declared.servers.Header.{Header}
use Rattle.aud_parts.specs.declared.servers.Reading.{Reading}
use Rattle.aud_parts.specs.declared.tap_index.tap_runs.Run.{Run}
use Rattle.aud_parts.specs.declared.tap_index.first_refusal.RefusedLine.{RefusedLine}
use Rattle.aud_parts.specs.FirstRefusal.{first_refused}
use Rattle.aud_parts.specs.ServersRead.{AreServers, IsOwnTap, header_for, header_in, is_server, kind_told, line_numbers, servers_among}
use Rattle.aud_parts.specs.TapRuns.{TapRuns, runs_lines}
use Rattle.aud_parts.specs.Private.ServerSteps.{AddsServer, IsHeaderOf, IsLogRead, stream_recs}
use Rattle.aud_parts.proofs.ListSteps.{each-push}
use Rattle.aud_parts.proofs.PassedLines.{passed-all, passed-more, past-more}

-- ---- the header

-- what it says tells it
header-is : (o : Option Rec) (of : TapKind) (v : Version) → option_and_then header_in o ≡ Some (of, v) → o ≡ Some (rec.Header of v)
header-is None of v e = grind (arith, e)
header-is (Some (rec.Header of' v')) of v e = grind (arith, e)
header-is (Some (rec.Stream entry)) of v e = grind (arith, e)
header-is (Some (rec.Node r)) of v e = grind (arith, e)
header-is (Some (rec.Client r)) of v e = grind (arith, e)

-- it is the first record of the lines that it is the first of
first-record : (name : List ℕ) (lines : List Line) (line : Line) (of : TapKind) (v : Version) → slice_get lines 0 ≡ Some line → header_for name line ≡ Some (of, v)
    → records_for name lines ≡ rec.Header of v ∷ records_for name (drop 1 lines)
first-record name [] line of v at says = grind (arith, at)
first-record name (first ∷ lines) line of v at says =
    let is : record_for name first ≡ Some (rec.Header of v) = ap (record_for name) (same_Some first line at) ∙ header-is (record_for name line) of v says in
    rw is refl

-- another record is none
pub no-header : (name own : List ℕ) (line : Line) (r : Rec) → line_record line.bytes ≡ Ok (own, r) → ((of : TapKind) (v : Version) → r ≡ rec.Header of v → ⊥) → header_for name line ≡ None
no-header name own line r reads other = ap (λ o. option_and_then header_in (option_and_then (if_for name) (result_ok o))) reads ∙ go (is_text name own) r other
  where
    go : (b : Bool) (r : Rec) → ((of : TapKind) (v : Version) → r ≡ rec.Header of v → ⊥) → option_and_then header_in (if b then Some r else None) ≡ None
    go false r other = refl
    go true (rec.Header of v) other = absurd (other of v refl)
    go true (rec.Stream entry) other = refl
    go true (rec.Node n) other = refl
    go true (rec.Client n) other = refl

-- so the tap was put on what it says
pub kind-told : (files : List (List ℕ)) (tap : TapRuns) (first : Option Line) (header : Option Header) → first ≡ slice_get (runs_lines files tap.runs) 0
    → option_map (λ (h : Header). (h.of, h.version)) header ≡ option_and_then (header_for tap.name) first → option_map (λ (h : Header). h.of) header ≡ kind_told files tap
kind-told files tap first header at says =
    alike header
    ∙ ap (option_map (λ (both : TapKind × Version). both.0)) says ∙ ap (λ o. option_map (λ (both : TapKind × Version). both.0) (option_and_then (header_for tap.name) o)) at
  where
    alike : (o : Option Header) → option_map (λ (h : Header). h.of) o ≡ option_map (λ (both : TapKind × Version). both.0) (option_map (λ (h : Header). (h.of, h.version)) o)
    alike None = refl
    alike (Some h) = refl

-- where it is the first line
pub header-told : (files : List (List ℕ)) (tap : TapRuns) (first : Option Line) (header : Option Header) → first ≡ slice_get (runs_lines files tap.runs) 0
    → option_map (λ (h : Header). (h.of, h.version)) header ≡ option_and_then (header_for tap.name) first → IfSome header (λ (h : Header). first ≡ Some h.line)
    → IfSome header (IsHeaderOf files tap)
header-told files tap first None at says line = tt
header-told files tap first (Some h) at says line = record { first = sym at ∙ line; says = sym (says ∙ ap (option_and_then (header_for tap.name)) line) }

-- ---- the records of the tap that is read

-- a node's
node-go : (o : Option Tap) (v : Version) (rs : List Rec) → option_map_or recs_of o [] ≡ rec.Header kind.Node v ∷ rs → map rec.Node (node_recs (option_map (λ (t : Tap). t.records) o)) ≡ rs
node-go None v rs e = grind (arith, e)
node-go (Some t) v rs e = of-records t.records t.version e
  where
    of-records : (own : Records) (version : Version) → rec.Header (kind_of_tap own) version ∷ recs_in own ≡ rec.Header kind.Node v ∷ rs → map rec.Node (node_recs (Some own)) ≡ rs
    of-records (records.Stream entries) version e = grind (arith, e)
    of-records (records.Node log) version e = grind (arith, e)
    of-records (records.Client client) version e = grind (arith, e)

-- a stream's
stream-go : (o : Option Tap) (v : Version) (rs : List Rec) → option_map_or recs_of o [] ≡ rec.Header kind.Stream v ∷ rs → map rec.Stream (stream_recs (option_map (λ (t : Tap). t.records) o)) ≡ rs
stream-go None v rs e = grind (arith, e)
stream-go (Some t) v rs e = of-records t.records t.version e
  where
    of-records : (own : Records) (version : Version) → rec.Header (kind_of_tap own) version ∷ recs_in own ≡ rec.Header kind.Stream v ∷ rs → map rec.Stream (stream_recs (Some own)) ≡ rs
    of-records (records.Stream entries) version e = grind (arith, e)
    of-records (records.Node log) version e = grind (arith, e)
    of-records (records.Client client) version e = grind (arith, e)

-- of a piece that is read after the header of a node's tap, the records of its lines
pub piece-log : (name : List ℕ) (header : Line) (lines : List Line) (v : Version) (taps : List Tap) → HaveTheirOwnLines (header ∷ lines) taps → header_for name header ≡ Some (kind.Node, v)
    → map rec.Node (node_recs (option_map (λ (t : Tap). t.records) (tap_named name taps))) ≡ records_for name lines
piece-log name header lines v taps own says =
    node-go (tap_named name taps) v (records_for name lines) (sym (own name) ∙ first-record name (header ∷ lines) header kind.Node v refl says)

-- a piece more of a node's lines
pub log-piece : (name : List ℕ) (before old new more : List NodeRec) (piece rest whole : List Line) → new ≡ old ++ more → map rec.Node more ≡ records_for name piece
    → map rec.Node old ++ records_for name (piece ++ rest) ≡ map rec.Node before ++ records_for name whole
    → map rec.Node new ++ records_for name rest ≡ map rec.Node before ++ records_for name whole
log-piece name before old new more piece rest whole pushed is so_far =
    let cut : records_for name (piece ++ rest) ≡ records_for name piece ++ records_for name rest = filter_map-append (record_for name) piece rest in
    let own : map rec.Node new ≡ map rec.Node old ++ records_for name piece =
    ap (map rec.Node) pushed ∙ map-append rec.Node old more ∙ ap (λ rs. map rec.Node old ++ rs) is in
    grind (arith, common_steps, cut, own, so_far)

-- the stream's tap that is made of its header's version and of the entries that were read
pub stream-own : (files : List (List ℕ)) (runs : TapRuns) (tap : Tap) (line : Line) (taps : List Tap) → HaveTheirOwnLines (runs_lines files runs.runs) taps
    → slice_get (runs_lines files runs.runs) 0 ≡ Some line → header_for runs.name line ≡ Some (kind.Stream, tap.version) → tap.name ≡ runs.name
    → tap.records ≡ records.Stream (stream_recs (option_map (λ (t : Tap). t.records) (tap_named runs.name taps))) → IsOwnTap files runs tap
stream-own files runs tap line taps own at says named is =
    let first = first-record runs.name (runs_lines files runs.runs) line kind.Stream tap.version at says in
    let entries = stream-go (tap_named runs.name taps) tap.version (records_for runs.name (drop 1 (runs_lines files runs.runs))) (sym (own runs.name) ∙ first) in
    record {
      name_is = named;
      records = ap (λ (rs : Records). rec.Header (kind_of_tap rs) tap.version ∷ recs_in rs) is ∙ ap (λ rs. rec.Header kind.Stream tap.version ∷ rs) entries ∙ sym first;
    }

-- ---- a node's tap, piece after piece

module _ (files : List (List ℕ)) (tap : TapRuns) where
  -- one more
  pub log-on : (left rest : List Run) (lines : List Line) (skipped still : ℕ) (log new : List NodeRec) (numbers more : List LineRun) → IsLogRead files tap left skipped log numbers
      → runs_lines files left ≡ lines ++ runs_lines files rest → map rec.Node new ≡ map rec.Node log ++ records_for tap.name (drop skipped lines)
      → lines_of_runs more ≡ lines_of_runs numbers ++ map (λ (line : Line). line.number) lines → still ≡ skipped - length lines
      → IsLogRead files tap rest still new more
  log-on left rest lines skipped still log new numbers more r same added pushed skips = record {
    done = r.done ++ lines;
    passed = passed-more files tap r.done lines left rest skipped still r.passed same skips;
    records =
        added ∙ ap (λ rs. rs ++ records_for tap.name (drop skipped lines)) r.records
        ∙ sym (filter_map-append (record_for tap.name) (drop 1 r.done) (drop skipped lines))
        ∙ ap (records_for tap.name) (sym (past-more files tap r.done lines left skipped r.passed));
    numbers = pushed ∙ ap (λ ns. ns ++ map (λ (line : Line). line.number) lines) r.numbers ∙ sym (map-append (λ (line : Line). line.number) r.done lines);
  }

  -- all of them
  pub log-own : (left : List Run) (skipped : ℕ) (log : List NodeRec) (numbers : List LineRun) (line : Line) (made : Tap) → IsLogRead files tap left skipped log numbers → left ≡ []
      → slice_get (runs_lines files tap.runs) 0 ≡ Some line → header_for tap.name line ≡ Some (kind.Node, made.version) → made.name ≡ tap.name → made.records ≡ records.Node log
      → IsOwnTap files tap made × (lines_of_runs numbers ≡ line_numbers files tap)
  log-own left skipped log numbers line made r none at says named is =
      let all = passed-all files tap r.done left skipped r.passed none in
      let first = first-record tap.name (runs_lines files tap.runs) line kind.Node made.version at says in (
        record {
          name_is = named;
          records =
              ap (λ (rs : Records). rec.Header (kind_of_tap rs) made.version ∷ recs_in rs) is
              ∙ ap (λ rs. rec.Header kind.Node made.version ∷ rs) (r.records ∙ ap (λ ls. records_for tap.name (drop 1 ls)) all) ∙ sym first;
        },
        r.numbers ∙ ap (map (λ (line : Line). line.number)) all,
      )

-- ---- one tap after another

-- such a tap was added
pub added : (files : List (List ℕ)) (runs : TapRuns) (old new : Reading) (tap : Tap) (numbers : List LineRun) → IsOwnTap files runs tap
    → lines_of_runs numbers ≡ line_numbers files runs → new.taps.items ≡ old.taps.items ++ tap ∷ [] → new.lines.items ≡ old.lines.items ++ numbers ∷ []
    → new.kinds.items ≡ old.kinds.items → AddsServer files runs old new
added files runs old new tap numbers own are taps lines kinds = record {
  tap = tap;
  own = own;
  taps = taps;
  lines = ap (map lines_of_runs) lines ∙ map-append lines_of_runs old.lines.items (numbers ∷ []) ∙ ap (λ ns. map lines_of_runs old.lines.items ++ ns ∷ []) are;
  kinds = kinds;
}

module _ (files : List (List ℕ)) (done : List TapRuns) (runs : TapRuns) where
  -- of the stream or of a node
  among-server : is_server (kind_told files runs) ≡ true → servers_among files (done ++ runs ∷ []) ≡ servers_among files done ++ runs ∷ []
  among-server server = grind (arith, common_steps, server)

  among-other : is_server (kind_told files runs) ≡ false → servers_among files (done ++ runs ∷ []) ≡ servers_among files done
  among-other other = grind (arith, common_steps, other)

  module _ (kinds more : List (Option TapKind)) (taps : List Tap) (lines : List (List LineRun)) where
    kinds-more : AreServers files done kinds taps lines → more ≡ kinds ++ kind_told files runs ∷ [] → more ≡ map (kind_told files) (done ++ runs ∷ [])
    kinds-more all pushed = pushed ∙ ap (λ ks. ks ++ kind_told files runs ∷ []) all.kinds_are ∙ sym (map-append (kind_told files) done (runs ∷ []))

    pub server-more : (tap : Tap) (taps' : List Tap) (lines' : List (List LineRun)) → AreServers files done kinds taps lines → more ≡ kinds ++ kind_told files runs ∷ []
        → is_server (kind_told files runs) ≡ true → IsOwnTap files runs tap → taps' ≡ taps ++ tap ∷ []
        → map lines_of_runs lines' ≡ map lines_of_runs lines ++ line_numbers files runs ∷ [] → AreServers files (done ++ runs ∷ []) more taps' lines'
    server-more tap taps' lines' all pushed server own pushed_tap pushed_lines = record {
      kinds_are = kinds-more all pushed;
      taps_are = rw (among-server server, pushed_tap) (each-push (IsOwnTap files) (servers_among files done) taps runs tap all.taps_are own);
      lines_are =
          pushed_lines ∙ ap (λ ls. ls ++ line_numbers files runs ∷ []) all.lines_are
          ∙ sym (map-append (line_numbers files) (servers_among files done) (runs ∷ []))
          ∙ ap (map (line_numbers files)) (sym (among-server server));
    }

    pub other-more : AreServers files done kinds taps lines → more ≡ kinds ++ kind_told files runs ∷ [] → is_server (kind_told files runs) ≡ false
        → AreServers files (done ++ runs ∷ []) more taps lines
    other-more all pushed other = record {
      kinds_are = kinds-more all pushed;
      taps_are = rw (among-other other) all.taps_are;
      lines_are = all.lines_are ∙ ap (map (line_numbers files)) (sym (among-other other));
    }

-- what is no thing is none
pub no-some : {X : Type 0} (o : Option X) → ((x : X) → o ≡ Some x → ⊥) → o ≡ None
no-some None never = refl
no-some (Some x) never = absurd (never x refl)

-- a line that is refused is told
pub never-none : (o : Option RefusedLine) (line : RefusedLine) → first_refused o line ≡ None → ⊥
never-none None line e = grind (arith, e)
never-none (Some first) line e = grind (arith, e)
