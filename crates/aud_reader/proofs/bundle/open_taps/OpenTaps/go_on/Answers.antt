use Rattle.std.proofs.Common.{◌≡◌, ◌∙◌, ◌++◌, get_or, sym, ap, refl}
use Rattle.std.proofs.Math.ListN.{get_or-map}
use Rattle.std.proofs.lemmas.List.{map-set}
use Rattle.aud_json.specs.View.{view}
use Rattle.aud_reader.specs.Bundle.{with_tap_record, pids_in, pids_of}
use Rattle.aud_reader.specs.Private.Changes.{Becomes}
use Rattle.aud_reader.specs.Private.Texts.{HasPids}
use Rattle.aud_reader.specs.SoFar.{tap_so_far, taps_so_far}
use Rattle.aud_reader.proofs.KeptLemmas.{around, go_on-taps, go_on-keeps, header-twice}
use Rattle.aud_reader.proofs.bundle.open_taps.OpenTaps.go_on.Goals as goal

pub returns : goal.returns
returns c =
    let ts = taps_so_far c.args.self.now in
    let t = tap_so_far c.index_mut-tap.result.now in
    let t' = tap_so_far c.add.new.self in
    let at : get_or ts c.args.place t ≡ t = get_or-map tap_so_far c.args.self.now.taps.items c.args.place c.index_mut-tap.result.now ∙ ap tap_so_far (sym c.index_mut-tap.ensures.value) in
    let near = around ts c.args.place t c.requires.place at in
    let has : HasPids c.args.self.now.pids (near.before ++ pids_in t.records ++ near.after) = rw (← near.is) c.requires.keeps.pids in
    let read : Becomes c.add.result t'.records (with_tap_record t.version (pids_of ts) t.records c.args.kind.now (view c.args.d.now)) = rw near.is (c.add.ensures.records near.before near.after has) in
    let put = map-set tap_so_far c.args.self.now.taps.items c.args.place c.add.new.self in
    record {
      taps = λ name place. rw put (go_on-taps ts c.args.place t t' name c.args.kind.now (view c.args.d.now) c.add.result place at (sym c.if-eq.ensures) c.add.ensures.name c.add.ensures.version read);
      keeps = go_on-keeps c.args.self.now _ c.args.place t t' c.args.kind.now (view c.args.d.now) c.add.result put refl refl
          c.requires.keeps c.requires.place at c.add.ensures.name c.add.ensures.version read (c.add.ensures.pids near.before near.after has);
    }

pub returns-then-eq-clause-taps : goal.returns-then-eq-clause-taps
returns-then-eq-clause-taps c = λ name place. header-twice (taps_so_far c.args.self.now) c.args.place name c.args.kind.now (view c.args.d.now) place (sym c.if-eq.ensures)
