use Rattle.std.proofs.Common.{◌≡◌, ◌++◌, ◌∙◌, ap, append-nil, arith, length, map, option_map, option_to_list, sym}
use Rattle.std.specs.List.{filter_map}
use Rattle.std.proofs.lemmas.List.{take_all}
use Rattle.std.proofs.lemmas.Result.{on_ok_weaker}
use Rattle.aud_base.specs.Lists.{numbers_from}
use Rattle.aud_parts.specs.declared.merging.fault.MergeFault.TheVariants.{Report}
use Rattle.aud_parts.specs.Merged.{fault_of, told}
use Rattle.aud_parts.specs.Private.Slots.{fault_with, missing_in, report_faults, slots_of}
use Rattle.aud_parts.proofs.SlotLemmas.{slots-start, slots-more, faults-more}
use Rattle.aud_parts.proofs.merging.gather.Goals as goal
use Rattle.aud_parts.proofs.merging.gather.Goals.{in-Some+in_ok-push, in_default}

pub loop-number-init : goal.loop-number-init
loop-number-init c = record { slots = λ none. slots-start _ c.args.parts.now _ none; faults = λ none empty. empty }

pub loop-number-preserved : goal.loop-number-preserved
loop-number-preserved c =
    let reports = c.args.reports.now in
    let parts = map (λ part. part.items) c.args.parts.now in
    let i = c.loop-number.number in
    let before = c.loop-number.invariant in
    let is = c.index-reports-number.is in
    let old = c.loop-number.faults.items in
    let tells = told parts c.as_slice.result.now in
    let tells_is = ap (told parts) c.as_slice.ensures in
    let pushed : c.match-branch-3.faults.items ≡ old ++ option_to_list (option_map (Report i) (fault_with c.loop-number.slots.items tells)) =
    elim c.match-branch-3.branch [
      | in-Some+in_ok-push w ↦ grind (arith, w.faults-is, w.in_ok-push.ensures.items, ap (λ o. option_to_list (option_map (Report i) o)) (sym w.in-Some.is ∙ c.in_ok-fault.ensures.fault))
      | in_default w ↦ grind (arith, w.faults-is, append-nil old, w.in_default, c.in_ok-fault.ensures.fault)
    ] in
    record {
      slots = λ none. slots-more parts reports i _ _ _ tells c.loop-number-test.true is tells_is (before.slots none) c.in_ok-fault.ensures.slots;
      faults = λ none empty. faults-more parts reports i _ c.loop-number.slots.items _ _ tells c.loop-number-test.true is tells_is (before.slots none) (before.faults none empty) pushed;
    }

pub returns-clause-slots : goal.returns-clause-slots
returns-clause-slots c = λ none.
    let parts = map (λ part. part.items) c.args.parts.now in
    let all = c.loop-number.invariant.slots none ∙ ap (slots_of parts) (take_all c.loop-number.number c.args.reports.now c.loop-number-test.false) in
    on_ok_weaker c.push_missing.result (λ _. all) c.push_missing.ensures

pub returns-clause-faults : goal.returns-clause-faults
returns-clause-faults c = λ none empty.
    let reports = c.args.reports.now in
    let parts = map (λ part. part.items) c.args.parts.now in
    let all : c.loop-number.number ≡ length reports = omega (arith, c.loop-number-test.false) in
    let found : c.loop-number.faults.items ≡ report_faults parts reports = c.loop-number.invariant.faults none empty ∙ ap (λ n. filter_map (fault_of parts reports) (numbers_from 0 n)) all in
    on_ok_weaker c.push_missing.result (λ e. e ∙ (λ k. found k ++ missing_in (c.deref.ensures.value k))) c.push_missing.ensures
