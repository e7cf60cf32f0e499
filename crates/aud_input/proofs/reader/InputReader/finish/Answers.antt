use Rattle.std.proofs.Common.{rules, ◌≡◌, [], None}
use Rattle.aud_reader.specs.Lines.{lines_to_come}
use Rattle.aud_input.proofs.InputLemmas.{last-read}
use Rattle.aud_input.proofs.reader.InputReader.finish.Goals as goal

pub returns-clause-read : goal.returns-clause-read
returns-clause-read g c =
    let none : c.args.self.fault ≡ None = search rules in
    let last : lines_to_come c.args.self.cut [] ≡ record { lines = c.in_ok-lines.lines; fault = None } = rw (← c.this.view_is) c.in_ok-lines.ensures.ok in
    rw (last-read c.args.self c.keep_lines.new.self c.in_ok-lines.lines none last (λ more. rw (← c.this.view_is) (c.in_ok-keep_lines.ensures.parts more))) c.finish-2.ensures.read

pub returns-clause-refused : goal.returns-clause-refused
returns-clause-refused g c =
    let none : c.args.self.fault ≡ None = search rules in
    let last : lines_to_come c.args.self.cut [] ≡ record { lines = c.in_ok-lines.lines; fault = None } = rw (← c.this.view_is) c.in_ok-lines.ensures.ok in
    rw (last-read c.args.self c.keep_lines.new.self c.in_ok-lines.lines none last (λ more. rw (← c.this.view_is) (c.in_ok-keep_lines.ensures.parts more))) c.finish-2.ensures.refused
