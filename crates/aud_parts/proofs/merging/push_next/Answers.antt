use Rattle.std.proofs.Common.{◌++◌, ◌∙◌, ap, sym, append-nil}
use Rattle.std.proofs.lemmas.List.{get_or_default}
use Rattle.aud_parts.proofs.SlotLemmas.{taken-some, taken-none}
use Rattle.aud_parts.proofs.merging.push_next.Goals as goal

pub returns-in_ok-push-clause-merged : goal.returns-in_ok-push-clause-merged
returns-in_ok-push-clause-merged c =
    let next = c.args.next.now.items in
    let number = c.index-number.result.now in
    let count = c.index-number.ensures ∙ get_or_default next c.args.part number 0 c.requires in
    c.in_ok-push.ensures.items ∙ ap (λ lines. c.args.merged.now.items ++ lines) (taken-some c.args.slots.now next c.args.part number c.in-Some.line count c.in-Some.ensures.value).0

pub returns-in_ok-push-clause-next : goal.returns-in_ok-push-clause-next
returns-in_ok-push-clause-next c =
    let next = c.args.next.now.items in
    let number = c.index-number.result.now in
    let count = c.index-number.ensures ∙ get_or_default next c.args.part number 0 c.requires in
    (taken-some c.args.slots.now next c.args.part number c.in-Some.line count c.in-Some.ensures.value).1

pub returns-in_default-clause-merged : goal.returns-in_default-clause-merged
returns-in_default-clause-merged c =
    let next = c.args.next.now.items in
    let number = c.index-number.result.now in
    let count = c.index-number.ensures ∙ get_or_default next c.args.part number 0 c.requires in
    sym (append-nil c.args.merged.now.items) ∙ ap (λ lines. c.args.merged.now.items ++ lines) (taken-none c.args.slots.now next c.args.part number count c.in_default.ensures.value).0

pub returns-in_default-clause-next : goal.returns-in_default-clause-next
returns-in_default-clause-next c =
    let next = c.args.next.now.items in
    let number = c.index-number.result.now in
    let count = c.index-number.ensures ∙ get_or_default next c.args.part number 0 c.requires in
    (taken-none c.args.slots.now next c.args.part number count c.in_default.ensures.value).1
