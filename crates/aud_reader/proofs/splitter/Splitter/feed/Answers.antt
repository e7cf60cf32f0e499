use Rattle.std.proofs.Common.{◌≡◌, ◌∙◌, None, Err, ap, subst, rules}
use Rattle.std.proofs.lemmas.Result.{err_from_is_err_and}
use Rattle.aud_reader.specs.Lines.{IsFront, IsPartial, Lines}
use Rattle.aud_reader.proofs.LinesLemmas.{some_of, to_come-line_begun, to_come-next, to_come-refused}
use Rattle.aud_reader.proofs.splitter.Splitter.feed.Goals as goal

pub returns-in_default-next_line-clause-lines : goal.returns-in_default-next_line-clause-lines
returns-in_default-next_line-clause-lines c = λ more other.
    let none : c.args.self.now.fault ≡ None = search rules in
    let begun : IsPartial c.args.self.now.rest = rw (← c.self.view_is) (c.self.invariant (search rules)) in
    rw (c.begin_line.ensures.after other) (to_come-line_begun c.args.self.now c.args.piece.now more none begun.unended c.in_default-next_line.ensures.none)

pub returns-in_err-end_line-clause-lines : goal.returns-in_err-end_line-clause-lines
returns-in_err-end_line-clause-lines c = λ more other.
    let none : c.args.self.now.fault ≡ None = search rules in
    let begun : IsPartial c.args.self.now.rest = rw (← c.self.view_is) (c.self.invariant (search rules)) in
    let found = c.in-Some-next_line.ensures.found in
    let refused = err_from_is_err_and c.from_residual.result c.from_residual.ensures.1 in
    let fault = c.in_err-end_line.field-0.0 in
    let same = refused.1 ∙ ap Err refused.2 in
    to_come-refused c.end_line.new.self fault _ _ (some_of c.end_line.new.self.fault fault c.in_err-end_line.ensures.value)
    ∙ to_come-next c.args.self.now c.end_line.new.self _ _ _ more none begun.unended found.1 found.0 (c.in_err-end_line.ensures.after (λ memory. other (same ∙ memory)))

pub returns-clause-lines : goal.returns-clause-lines
returns-clause-lines c = λ more other.
    let none : c.args.self.now.fault ≡ None = search rules in
    let begun : IsPartial c.args.self.now.rest = rw (← c.self.view_is) (c.self.invariant (search rules)) in
    let found = c.in-Some-next_line.ensures.found in
    c.cut.ensures.lines more other ∙ to_come-next c.args.self.now c.end_line.new.self _ _ _ more none begun.unended found.1 found.0 (c.in_ok-end_line.ensures.after (λ e. cc))

pub returns-clause-front : goal.returns-clause-front
returns-clause-front c = λ more.
    let none : c.args.self.now.fault ≡ None = search rules in
    let begun : IsPartial c.args.self.now.rest = rw (← c.self.view_is) (c.self.invariant (search rules)) in
    let found = c.in-Some-next_line.ensures.found in
    subst (λ (ls : Lines). IsFront c.cut.new.self.waiting ls.lines)
    (to_come-next c.args.self.now c.end_line.new.self _ _ _ more none begun.unended found.1 found.0 (c.in_ok-end_line.ensures.after (λ e. cc)))
    (c.cut.ensures.front more)
