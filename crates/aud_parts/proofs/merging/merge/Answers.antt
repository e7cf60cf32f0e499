use Rattle.std.proofs.Common.{◌≡◌, ◌++◌, ◌∙◌, None, ap, arith, sym, length, map, refl, replicate}
use Rattle.std.specs.List.{list_all}
use Rattle.std.proofs.lemmas.Result.{IfOk-weaker}
use Rattle.aud_parts.specs.Listing.{is_within}
use Rattle.aud_parts.specs.Private.Slots.{missing_in, report_faults}
use Rattle.aud_parts.proofs.SlotLemmas.{answered-so, slots-length}
use Rattle.aud_parts.proofs.merging.merge.Goals as goal

pub answer-requires : goal.answer-requires
answer-requires c =
    let l = c.args.listing.now in
    let parts = map (λ part. part.items) c.deref.result.now in
    let parts_are = ap (map (λ part. part.items)) c.deref.ensures.value ∙ c.in_ok-parts.ensures in
    let held = ap length c.deref.ensures.value in
    let count : c.loop-part._part ≡ length c.deref.result.now = omega (arith, c.len-count.ensures, held, c.in_ok-parts.parts.ok.0) in
    let none = c.loop-part.invariant ∙ ap (λ n. replicate n None) count in
    let size = ap length c.deref-2.ensures.value ∙ slots-length l parts c.args.reports.now c.gather.new.slots.items parts_are (c.in_ok-gather.ensures.slots none) in
    ap (λ n. list_all (is_within n) c.as_slice.result.now) size ∙ ap (list_all (is_within l.parts)) c.as_slice.ensures ∙ c.requires

pub returns : goal.returns
returns c =
    let parts = map (λ part. part.items) c.deref.result.now in
    let parts_are = ap (map (λ part. part.items)) c.deref.ensures.value ∙ c.in_ok-parts.ensures in
    let held = ap length c.deref.ensures.value in
    let count : c.loop-part._part ≡ length c.deref.result.now = omega (arith, c.len-count.ensures, held, c.in_ok-parts.parts.ok.0) in
    let none = c.loop-part.invariant ∙ ap (λ n. replicate n None) count in
    let slots = c.deref-2.ensures.value ∙ c.in_ok-gather.ensures.slots none in
    let missing = c.in_ok-gather.ensures.faults none c.new-faults.ensures.items ∙ ap (λ slots. report_faults parts c.args.reports.now ++ missing_in slots) (sym c.deref-2.ensures.value) in
    IfOk-weaker c.answer.result _ _
    (λ a is. is ∙ answered-so c.args.listing.now c.args.reports.now parts c.deref-2.result.now (report_faults parts c.args.reports.now) c.gather.new.faults.items c.as_slice.result.now parts_are slots refl missing c.as_slice.ensures c.requires)
    c.answer.ensures
