use Rattle.std.proofs.Common.{[], Some, refl, sym, ap, subst}
use Rattle.aud_reader.specs.Lines.{IsPartial, Split, lines_of}
use Rattle.aud_input.specs.Reader.{AreAmong}
use Rattle.aud_input.proofs.GivenLemmas.{holds-none}
use Rattle.aud_input.proofs.reader.InputReader.indexed.Goals as goal

pub returns-clause-lines : goal.returns-clause-lines
returns-clause-lines c =
    let state = c.new.ensures.state in
    record {
      lines = [];
      front = λ more. record { rest = (lines_of more).lines; is = refl };
      whole = λ none. record {
        cuts = λ more. sym (c.new.ensures.lines more);
        unrefused = ap (λ (s : Split). s.fault) state;
        taken = ap (λ (s : Split). s.waiting) state;
        partial = subst IsPartial (sym (ap (λ (s : Split). s.rest) state)) (record { unended = refl; within = refl });
      };
      index = ap Some c.new-3.ensures.lines;
      waits = subst (λ ls. AreAmong ls []) (sym c.new-2.ensures.none) (λ line is. is);
      held = holds-none c.new-2.result.waiting;
    }
