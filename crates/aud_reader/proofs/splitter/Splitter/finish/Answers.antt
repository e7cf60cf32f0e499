use Rattle.std.proofs.Common.{vec_len, ◌≡◌, ◌<◌, arith, length, rules, None}
use Rattle.aud_reader.proofs.LinesLemmas.{to_come-ended, above_zero}
use Rattle.aud_reader.specs.Lines.{IsPartial}
use Rattle.aud_reader.proofs.splitter.Splitter.finish.Goals as goal

pub returns-clause-ok : goal.returns-clause-ok
returns-clause-ok c =
    let none : c.args.self.fault ≡ None = search rules in
    let whole : IsPartial c.args.self.rest = rw (← c.this.view_is) (c.this.invariant (search rules)) in
    let some : 0 < length c.args.self.rest = rw (← c.this.view_is) (let n : 0 < vec_len c.this.inside.rest = above_zero _ c.if-is_empty.ensures in omega (arith, c.this.inside.rest.ok)) in
    to_come-ended c.args.self c.end_line.new.self c.take-2.result none whole.unended some (c.in_ok-end_line.ensures.after (λ e. cc)) c.in_ok-end_line.ensures.value c.take-2.ensures.lines
