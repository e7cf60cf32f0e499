use Rattle.std.proofs.Common.{◌++◌, ◌∷◌, [], ◌∙◌, ap, append-nil, option_map, option_to_list, sym}
use Rattle.aud_tap.specs.declared.taps.Tap.{Tap}
use Rattle.aud_node.specs.Stream.{Text}
use Rattle.aud_parts.specs.Private.Kept.{entries_for, tap_kept, tap_of}
use Rattle.aud_parts.specs.Private.OwnRecords.{has}
use Rattle.aud_parts.proofs.ListSteps.{filter_map-item}
use Rattle.aud_parts.proofs.part.kept_taps.Goals as goal

pub loop-tap-preserved-in_default : goal.loop-tap-preserved-in_default
loop-tap-preserved-in_default c =
    let old = c.loop-tap.left.items in
    let tap = c.tap-item.result in
    let none = sym c.in_ok-records.ensures ∙ c.in_default.is in
    filter_map-item (tap_kept (has c.args.own.now) (entries_for (has c.args.audience.now.namespaces) (has c.args.audience.now.rooms) c.args.came.now c.args.stream.now))
    c.args.taps.now c.loop-tap.tap-index tap old old
    c.loop-tap-test.true c.tap-item.is c.loop-tap.invariant
    (sym (append-nil old) ∙ ap (λ rs. old ++ option_to_list (option_map (tap_of tap) rs)) (sym none))

pub loop-tap-preserved : goal.loop-tap-preserved
loop-tap-preserved c =
    let old = c.loop-tap.left.items in
    let tap = c.tap-item.result in
    let some = sym c.in_ok-records.ensures ∙ c.in-Some.is in
    let named : Text → Tap = λ name. record { name = name; version = tap.version; records = c.in-Some.records } in
    filter_map-item (tap_kept (has c.args.own.now) (entries_for (has c.args.audience.now.namespaces) (has c.args.audience.now.rooms) c.args.came.now c.args.stream.now))
    c.args.taps.now c.loop-tap.tap-index tap old c.push.new.self.items
    c.loop-tap-test.true c.tap-item.is c.loop-tap.invariant
    (c.in_ok-push.ensures.items ∙ ap (λ name. old ++ named name ∷ []) c.in_ok-name.ensures ∙ ap (λ rs. old ++ option_to_list (option_map (tap_of tap) rs)) (sym some))
