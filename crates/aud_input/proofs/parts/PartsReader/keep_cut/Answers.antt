use Rattle.std.proofs.Common.{◌≡◌, ◌∙◌, List, ◌++◌, [], sym, ap, subst}
use Rattle.aud_reader.specs.declared.line.Line.{Line}
use Rattle.aud_input.specs.Reader.{AreAmong, PartsSoFar}
use Rattle.aud_input.proofs.InputLemmas.{more_wait}
use Rattle.aud_input.proofs.parts.PartsReader.keep_cut.Goals as goal

pub returns-then-reads_at_once-clause-parts : goal.returns-then-reads_at_once-clause-parts
returns-then-reads_at_once-clause-parts c = λ more.
    let old = c.self.inside in
    let lines = c.args.cut.now.waiting in
    let waits = λ (waiting : List Line). let s : PartsSoFar = record { layout = old.layout; taps = old.taps; waiting = waiting; certificates = old.certificates.items } in s in
    let bundle = c.reads_at_once.ensures.bundle c.if-reads_at_once.true in
    let none : old.waiting ≡ [] = ap (λ (s : PartsSoFar). s.waiting) c.self.view_is ∙ c.reads_at_once.ensures.none c.if-reads_at_once.true in
    let put : c.take_into.new.lines ≡ old.waiting ++ lines = c.take_into.ensures.lines ∙ sym (ap (λ waiting. waiting ++ lines) none) in
    more_wait c.args.self.now (waits c.take_into.new.lines) lines more bundle (rw (← c.self.view_is) (ap waits put))

pub returns-clause-waits : goal.returns-clause-waits
returns-clause-waits c = subst (λ lines. AreAmong c.keep_lines.new.self.waiting (c.args.self.now.waiting ++ lines)) c.waiting.ensures c.in_ok-keep_lines.ensures.waits
