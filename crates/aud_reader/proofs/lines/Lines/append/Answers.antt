use Rattle.std.proofs.Common.{◌≡◌, ◌∙◌, ◌++◌, ap, arith, length, take}
use Rattle.std.proofs.lemmas.List.{take_all}
use Rattle.aud_reader.specs.Private.Bounds.{lines_at}
use Rattle.aud_reader.proofs.BoundsLemmas.{lines_at-both, within-both}
use Rattle.aud_reader.proofs.lines.Lines.append.Goals as goal

pub invariant_of-self-in-loop-at : goal.invariant_of-self-in-loop-at
invariant_of-self-in-loop-at c =
    let old = c.self.inside in
    let other = c.lines.inside in
    let bytes : c.loop-at.self-inside.bytes.items ≡ old.bytes.items ++ other.bytes.items = grind arith in
    let front : c.len-front.result ≡ length old.bytes.items = omega (arith, c.len-front.ensures, old.bytes.ok.0) in
    let items : c.deref-at-items.result.now ≡ other.bounds.items = grind arith in
    rw (bytes, c.loop-at.invariant.1, front, items)
    (within-both old.bytes.items other.bytes.items old.bounds.items other.bounds.items c.loop-at.at-index c.self.invariant c.lines.invariant)

pub invariant_of-self-in_err-push : goal.invariant_of-self-in_err-push
invariant_of-self-in_err-push c =
    let old = c.self.inside in
    let other = c.lines.inside in
    let bytes : c.loop-at.self-inside.bytes.items ≡ old.bytes.items ++ other.bytes.items = grind arith in
    let front : c.len-front.result ≡ length old.bytes.items = omega (arith, c.len-front.ensures, old.bytes.ok.0) in
    let items : c.deref-at-items.result.now ≡ other.bounds.items = grind arith in
    rw (c.in_err-push.ensures.items, bytes, c.loop-at.invariant.1, front, items)
    (within-both old.bytes.items other.bytes.items old.bounds.items other.bounds.items c.loop-at.at-index c.self.invariant c.lines.invariant)

pub returns : goal.returns
returns c =
    let old = c.self.inside in
    let other = c.lines.inside in
    let bytes : c.loop-at.self-inside.bytes.items ≡ old.bytes.items ++ other.bytes.items = grind arith in
    let front : c.len-front.result ≡ length old.bytes.items = omega (arith, c.len-front.ensures, old.bytes.ok.0) in
    let items : c.deref-at-items.result.now ≡ other.bounds.items = grind arith in
    let all : take c.loop-at.at-index other.bounds.items ≡ other.bounds.items = take_all c.loop-at.at-index other.bounds.items (rw (← items) (omega (arith, c.loop-at-test.false))) in
    rw (bytes, c.loop-at.invariant.1, front, items, all)
    (lines_at-both old.bytes.items other.bytes.items old.bounds.items other.bounds.items c.self.invariant ∙ ap (λ ls. ls ++ lines_at other.bytes.items other.bounds.items) c.self.view_is ∙ ap (λ ls. c.args.self.now ++ ls) c.lines.view_is)
