use Rattle.std.proofs.Common.{◌≡◌, ◌∙◌, Bool, List, ap, filter_map, map}
use Rattle.std.proofs.lemmas.Result.{IfOk-weaker}
use Rattle.aud_tap.specs.declared.records.StreamRec.{StreamRec}
use Rattle.aud_tap.specs.declared.taps.Tap.{Tap}
use Rattle.aud_node.specs.Cluster.{Cluster}
use Rattle.aud_node.specs.Stream.{Text}
use Rattle.aud_upgrade.specs.declared.joins.Joins.TheVariants.{TakeAndTakes}
use Rattle.aud_upgrade.specs.Upgraded.{upgraded_tap, with_runs}
use Rattle.aud_parts.specs.MadeOther.{any_record}
use Rattle.aud_parts.specs.Part.{opens_nsp, grants}
use Rattle.aud_parts.specs.PartTaps.{part_entries, part_taps, servers_left, tap_with, IsPartOfEach}
use Rattle.aud_parts.specs.Private.Kept.{entries_for, tap_kept}
use Rattle.aud_parts.specs.Private.OwnRecords.{has, passes_own}
use Rattle.aud_parts.proofs.LeftLemmas.{left-is}
use Rattle.aud_parts.proofs.WholeLemmas.{part-of_each}
use Rattle.aud_parts.proofs.part.part_taps.Goals as goal

pub returns : goal.returns
returns c =
    let pids = c.args.pids.now in
    let came = c.args.came.now in
    let logs = c.args.logs.now in
    let own : Text → Bool = has c.in_ok-own.own in
    let namespaces : Text → Bool = has c.in_ok-audience.audience.namespaces in
    let rooms : Text → Bool = has c.in_ok-audience.audience.rooms in
    let kept : List StreamRec → List Tap → List Tap = λ stream taps. filter_map (tap_kept own (entries_for namespaces rooms came stream)) taps in
    let left : c.in_ok-left.left ≡ map (tap_with (part_entries pids came logs)) (servers_left pids logs.taps) =
    c.in_ok-left.ensures ∙ ap (λ stream. kept stream c.taps-taps.result.now) c.stream.ensures ∙ ap (kept logs.stream) c.taps-taps.ensures
    ∙ left-is pids came logs own namespaces rooms c.in_ok-own.ensures
    (λ q. c.in_ok-audience.ensures.namespaces q ∙ ap (any_record (passes_own own (opens_nsp q))) c.taps-taps.ensures)
    (λ q. c.in_ok-audience.ensures.rooms q ∙ ap (any_record (passes_own own (grants q))) c.taps-taps.ensures) in
    let all = ap (λ (whole : Cluster). map (upgraded_tap TakeAndTakes whole.stream) whole.taps) c.in_ok-whole.ensures ∙ ap with_runs left in
    record {
      taps = IfOk-weaker c.upgrade.result _ (λ part. part ≡ part_taps pids came logs) (λ part made. made ∙ all) c.upgrade.ensures;
      part = IfOk-weaker c.upgrade.result _ (IsPartOfEach pids came logs) (λ part made. part-of_each pids came logs part (made ∙ all)) c.upgrade.ensures;
    }
