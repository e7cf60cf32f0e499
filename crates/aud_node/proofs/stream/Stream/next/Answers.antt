use Rattle.std.proofs.Common.{◌≡◌, ◌+◌, suc, sym, ap, ◌∙◌, arith, Some}
use Rattle.std.specs.Str.{bytes_eq}
use Rattle.aud_node.specs.Private.NextPosition.{next_position}
use Rattle.std.proofs.lemmas.Bool.{not-true, not-false}
use Rattle.aud_node.proofs.PositionLemmas.{has_offset, next-other, next-first}
use Rattle.aud_node.proofs.stream.Stream.next.Goals as goal

pub returns-in_default : goal.returns-in_default
returns-in_default c =
    let stream = c.self.inside.entries in
    let off = c.args.off.now in
    next-other stream off c.args.cursor (ap (λ o. has_offset o off) (sym c.in_default.ensures))
    ∙ ap (λ s. next_position s off c.args.cursor) c.self.view_is

pub returns-then-ne : goal.returns-then-ne
returns-then-ne c =
    let stream = c.self.inside.entries in
    let off = c.args.off.now in
    let differs = not-true (bytes_eq c.as_str.result.now off) (sym c.ne.ensures ∙ c.if-ne.true) in
    next-other stream off c.args.cursor
    (ap (λ o. has_offset o off) (sym c.in-Some.ensures) ∙ ap (λ o. bytes_eq o off) (sym (c.as_str.ensures ∙ c.offset.ensures)) ∙ differs)
    ∙ ap (λ s. next_position s off c.args.cursor) c.self.view_is

pub returns-then-distinct : goal.returns-then-distinct
returns-then-distinct c =
    let stream = c.self.inside.entries in
    let off = c.args.off.now in
    let next : c.args.cursor + 1 ≡ suc c.args.cursor = omega arith in
    let same = not-false (bytes_eq c.as_str.result.now off) (sym c.ne.ensures ∙ c.if-ne.false) in
    ap Some next
    ∙ next-first stream c.in-Some.entry.now off c.args.cursor (c.distinct.ensures stream c.self.invariant.offsets_are c.if-distinct.true)
    (sym c.in-Some.ensures) (ap (λ o. bytes_eq o off) (sym (c.as_str.ensures ∙ c.offset.ensures)) ∙ same)
    ∙ ap (λ s. next_position s off c.args.cursor) c.self.view_is
