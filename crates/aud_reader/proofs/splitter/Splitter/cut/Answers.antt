use Rattle.std.proofs.Common.{◌≡◌, ◌∙◌, ◌++◌, [], None, refl, sym, ap}
use Rattle.aud_reader.specs.Lines.{Split, lines_to_come}
use Rattle.aud_reader.proofs.LinesLemmas.{is-at_line, to_come-line_begun}
use Rattle.aud_reader.proofs.splitter.Splitter.cut.Goals as goal

pub returns-in-Ok-clause-lines : goal.returns-in-Ok-clause-lines
returns-in-Ok-clause-lines c = λ more other.
    let old = c.self.inside in
    let before : Split = record { waiting = old.waiting; number = old.number; rest = old.rest.items; fault = old.fault } in
    let after : Split = record { waiting = c.cut.new.self; number = c.in-Ok.number; rest = old.rest.items; fault = old.fault } in
    let begun = c.in-Ok.begun.now in
    let none : old.fault ≡ None = ap (λ (s : Split). s.fault) c.self.view_is ∙ c.requires.going in
    let empty : old.rest.items ≡ [] = ap (λ (s : Split). s.rest) c.self.view_is ∙ c.requires.none in
    rw (c.begin_line.ensures.after other)
    (to_come-line_begun after begun more none (rw empty refl) c.in-Ok.ensures.begun ∙ ap (λ s. lines_to_come s (begun ++ more)) (is-at_line after empty none)
    ∙ c.in-Ok.ensures.lines more ∙ ap (λ s. lines_to_come s (c.args.text.now ++ more)) (sym (is-at_line before empty none) ∙ c.self.view_is))
