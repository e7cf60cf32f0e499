use Rattle.std.proofs.Common.{rules, ap, ◌∙◌, sym, ◌++◌, ◌∷◌, []}
use Rattle.aud_book.specs.History.{project, texts, pairs}
use Rattle.aud_book.proofs.Taps.{at-kept, at-get, appended, names-set}
use Rattle.aud_book.proofs.book.Book.append.Goals as goal

pub invariant_of-self-in-Break-branch-2 : goal.invariant_of-self-in-Break-branch-2
invariant_of-self-in-Break-branch-2 c =
    let b = c.args.self.now in
    let tap = c.index_mut.result.now in
    let at = at-get b.taps.items c.args.tap tap (search rules) ∙ ap (λ t. texts t.lines.items) (sym c.index_mut.ensures.value) in record {
      projected = λ t. at-kept b.taps.items c.args.tap t (record { name = tap.name; lines = c.reserve-2.new.self }) (search rules) (at ∙ sym (ap texts c.reserve-2.ensures.items)) ∙ b.projected t ∙ sym (ap (λ h. project t (pairs h)) c.reserve.ensures.items);
    }

pub returns-in_err-reserve-2-clause-names : goal.returns-in_err-reserve-2-clause-names
returns-in_err-reserve-2-clause-names c =
    names-set c.args.self.now.taps.items c.args.tap (record { name = c.index_mut.result.now.name; lines = c.reserve-2.new.self }) c.index_mut.result.now (search rules) (ap (λ t. t.name.now) c.index_mut.ensures.value)

pub invariant_of-self-2 : goal.invariant_of-self-2
invariant_of-self-2 c =
    let b = c.args.self.now in
    let tap = c.index_mut.result.now in
    let at = at-get b.taps.items c.args.tap tap (search rules) ∙ ap (λ t. texts t.lines.items) (sym c.index_mut.ensures.value) in record {
      projected = appended b.taps.items c.args.tap tap (record { name = tap.name; lines = c.push_reserved.new.self }) c.args.line b.history.items c.push_reserved-2.new.self.items (search rules) at
          (c.push_reserved.ensures.items ∙ ap (λ ls. ls ++ c.args.line ∷ []) c.reserve-2.ensures.items)
          (c.push_reserved-2.ensures.items ∙ ap (λ h. h ++ (c.args.tap, c.args.line) ∷ []) c.reserve.ensures.items) b.projected;
    }

pub returns-clause-names : goal.returns-clause-names
returns-clause-names c =
    names-set c.args.self.now.taps.items c.args.tap (record { name = c.index_mut.result.now.name; lines = c.push_reserved.new.self }) c.index_mut.result.now (search rules) (ap (λ t. t.name.now) c.index_mut.ensures.value)
