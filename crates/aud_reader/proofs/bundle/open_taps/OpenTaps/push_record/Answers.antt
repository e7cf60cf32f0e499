use Rattle.std.proofs.Common.{◌≡◌, ◌∙◌, ◌++◌, get_or, sym, ap, refl}
use Rattle.std.proofs.Math.ListN.{get_or-map}
use Rattle.std.proofs.lemmas.List.{map-set}
use Rattle.aud_reader.specs.Bundle.{pids_in, pids_of}
use Rattle.aud_reader.specs.Private.Changes.{Becomes}
use Rattle.aud_reader.specs.Private.NewRecord.{with_new_record}
use Rattle.aud_reader.specs.Private.Packed.{rec_of}
use Rattle.aud_reader.specs.Private.Texts.{HasPids}
use Rattle.aud_reader.specs.SoFar.{tap_so_far, taps_so_far}
use Rattle.aud_reader.proofs.KeptLemmas.{around, changed-keeps}
use Rattle.aud_reader.proofs.NewRecords.{kind-after, pushed-taps}
use Rattle.aud_reader.proofs.bundle.open_taps.OpenTaps.push_record.Goals as goal

pub returns : goal.returns
returns c =
    let ts = taps_so_far c.args.self.now in
    let t = tap_so_far c.index_mut-tap.result.now in
    let t' = tap_so_far c.push.new.self in
    let at : get_or ts c.args.place t ≡ t = get_or-map tap_so_far c.args.self.now.taps.items c.args.place c.index_mut-tap.result.now ∙ ap tap_so_far (sym c.index_mut-tap.ensures.value) in
    let near = around ts c.args.place t c.requires.place at in
    let has : HasPids c.args.self.now.pids (near.before ++ pids_in t.records ++ near.after) = rw (← near.is) c.requires.keeps.pids in
    let added : Becomes c.push.result t'.records (with_new_record t.version (pids_of ts) t.records (rec_of c.args.rec)) = rw near.is (c.push.ensures.records near.before near.after has) in
    let put = map-set tap_so_far c.args.self.now.taps.items c.args.place c.push.new.self in
    record {
      taps = λ line name place reads. rw put (pushed-taps ts c.args.place t t' line name (rec_of c.args.rec) c.push.result place at c.push.ensures.name c.push.ensures.version added reads);
      keeps = changed-keeps c.args.self.now _ c.args.place t t' c.push.result put refl refl
          c.requires.keeps c.requires.place at c.push.ensures.name (kind-after t.version (pids_of ts) t.records t'.records (rec_of c.args.rec) c.push.result added) (c.push.ensures.pids near.before near.after has);
    }
