use Rattle.std.proofs.Common.{◌≡◌, ◌∙◌, ◌+◌, ◌∷◌, ◌++◌, List, drop, sym, ap, subst}
use Rattle.std.proofs.lemmas.List.{at_drop_more}
use Rattle.aud_reader.specs.declared.line.Line.{Line}
use Rattle.aud_input.specs.Reader.{AreAmong, parts_to_come}
use Rattle.aud_input.proofs.GivenLemmas.{among-end, among-next}
use Rattle.aud_input.proofs.parts.PartsReader.keep_each.Goals as goal

pub loop-line-preserved : goal.loop-line-preserved
loop-line-preserved c =
    let l = c.loop-line in
    let lines : List Line = c.args.lines.now in
    let line : Line = c.line-item.result in
    let rest : List Line = drop (l.line-index + 1) lines in
    let all : List Line = c.args.self.now.waiting ++ lines in
    let steps : drop l.line-index lines ≡ line ∷ rest = at_drop_more (λ ls. ls) lines l.line-index line c.loop-line-test.true ∙ ap (λ x. x ∷ rest) (sym c.line-item.is) in
    record {
      going = c.in_ok-keep_line.ensures.going ∙ l.invariant.going;
      waits = among-next c.keep_line.new.self.waiting l.self.waiting rest all line c.in_ok-keep_line.ensures.waits (subst (λ ls. AreAmong (l.self.waiting ++ ls) all) steps l.invariant.waits);
      parts = λ more. c.in_ok-keep_line.ensures.parts (rest ++ more) ∙ ap (λ ls. parts_to_come l.self (ls ++ more)) (sym steps) ∙ l.invariant.parts more;
    }

pub returns-clause-waits : goal.returns-clause-waits
returns-clause-waits c = among-end c.loop-line.self.waiting (drop c.loop-line.line-index c.args.lines.now) (c.args.self.now.waiting ++ c.args.lines.now) c.loop-line.invariant.waits
