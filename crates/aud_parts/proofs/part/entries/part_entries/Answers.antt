use Rattle.std.proofs.Common.{◌≡◌, ◌<◌, ◌∙◌, Bool, Some, ap, sym, suc, length, nat_eq, slice_get, arith}
use Rattle.std.specs.List.{list_any}
use Rattle.std.proofs.lemmas.Option.{get_or_from_slice_get}
use Rattle.aud_tap.specs.declared.records.StreamRec.{StreamRec}
use Rattle.aud_parts.specs.PartTaps.{stays_event}
use Rattle.aud_parts.specs.Private.OwnRecords.{has, is_for}
use Rattle.aud_parts.proofs.EntryLemmas.{entry-next, placed-item, stays-left}
use Rattle.aud_parts.proofs.part.entries.part_entries.Goals as goal

pub entry_left-requires : goal.entry_left-requires
entry_left-requires c =
    let number = c.loop-number.number in
    entry-next c.args.stream.now number c.at-entry.result.now (ap (λ xs. slice_get xs number) (sym c.entries-entries.ensures) ∙ c.at-entry.ensures.value)

pub loop-number-preserved : goal.loop-number-preserved
loop-number-preserved c =
    let stream = c.args.stream.now in
    let came = c.args.came.now in
    let number = c.loop-number.number in
    let event = c.at-entry.result.now in
    let marks = c.in_ok-marks.marks.items in
    let aims : StreamRec → Bool = is_for (has c.args.audience.now.namespaces) (has c.args.audience.now.rooms) in
    let left = c.in_ok-own.own in
    let at : slice_get stream number ≡ Some event = ap (λ xs. slice_get xs number) (sym c.entries-entries.ensures) ∙ c.at-entry.ensures.value in
    let within : number < length c.entries-entries.result = omega arith in
    let marked : Bool = c.index.result.now in
    let flag = c.index.ensures ∙ get_or_from_slice_get marks number (list_any (nat_eq (suc number)) came) marked (c.in_ok-marks.ensures.each number (omega arith)) in
    placed-item (stays_event aims came) stream number event left c.loop-number.left c.push.new.self at
    (stays-left aims came (suc number) event left marked flag c.in_ok-own.ensures)
    c.loop-number.invariant c.in_ok-push.ensures.added
