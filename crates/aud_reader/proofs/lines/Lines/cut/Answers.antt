use Rattle.std.proofs.Common.{◌≡◌, ◌∙◌, ◌-◌, ◌++◌, ◌∷◌, [], length, length-append, refl, sym, ap, arith}
use Rattle.aud_reader.specs.declared.line.Line.{Line}
use Rattle.aud_reader.specs.declared.lines.Bounds.{Bounds}
use Rattle.aud_reader.specs.Lines.{lines_to_come}
use Rattle.aud_reader.specs.Private.Bounds.{lines_at}
use Rattle.aud_reader.specs.Private.SplitterSteps.{at_line}
use Rattle.aud_reader.proofs.BoundsLemmas.{IsCut, lines_at-append, lines_at-cut, stands-on, within-cut, within-longer}
use Rattle.aud_reader.proofs.Fronts.{front-of-front, front-same}
use Rattle.aud_reader.proofs.LinesLemmas.{come-next, come-refused}
use Rattle.aud_reader.proofs.lines.Lines.cut.Goals as goal

pub lines-init : goal.lines-init
lines-init c =
    let old = c.self.inside in
    let text = c.args.text.now in
    let bytes : c.extend_from_slice.new.self.items ≡ old.bytes.items ++ text = c.in_ok-extend_from_slice.ensures.items in
    let same : lines_at c.extend_from_slice.new.self.items old.bounds.items ≡ c.args.self.now = rw bytes (lines_at-append old.bytes.items text old.bounds.items c.self.invariant ∙ c.self.view_is) in
    record {
      bytes = refl;
      stands = (old.bytes.items, bytes);
      within = rw bytes (within-longer old.bytes.items text old.bounds.items c.self.invariant);
      number = omega arith;
      kept = rw same (front-same c.args.self.now);
      lines = λ more. ap (λ ls. lines_to_come (at_line ls c.args.number) (text ++ more)) same;
    }

pub returns-in-Err-clause-refused : goal.returns-in-Err-clause-refused
returns-in-Err-clause-refused c = λ other more.
    let l = c.lines in
    let found = c.in-Some.ensures.found in
    let lines = lines_at l.self-inside.bytes.items l.self-inside.bounds.items in
    sym (l.invariant.lines more) ∙ come-refused lines l.begun l.left.now c.in-Some.front.now c.in-Some.others.now more c.in-Err.fault found.1 found.0 c.in-Err.ensures.value

pub lines-preserved : goal.lines-preserved
lines-preserved c =
    let l = c.lines in
    let inv = l.invariant in
    let bytes = l.self-inside.bytes.items in
    let bounds = l.self-inside.bounds.items in
    let done = inv.stands.0 in
    let left = l.left.now in
    let front = c.in-Some.front.now in
    let others = c.in-Some.others.now in
    let found = c.in-Some.ensures.found in
    let line : Line = c.in-Ok.line in
    let at : Bounds = record { number = c.line.inside.number; start = c.len.result - length left; length = length c.line.inside.bytes.now } in
    let put : c.push.new.self.items ≡ bounds ++ at ∷ [] = c.in_ok-push.ensures.items in
    let is : IsCut bytes left at line = record {
      done = done;
      stands = inv.stands.1;
      number = ap (λ (l : Line). l.number) c.line.view_is;
      start = omega (arith, c.len.ensures, l.self-inside.bytes.ok.0, ap length inv.stands.1, length-append done left);
      size = ap (λ (l : Line). length l.bytes) c.line.view_is;
    } in
    let lines : lines_at bytes c.push.new.self.items ≡ lines_at bytes bounds ++ line ∷ [] = rw put (lines_at-cut bytes left front others bounds at line is found.0 c.in-Ok.ensures.front) in
    record {
      bytes = inv.bytes;
      stands = stands-on bytes done left front others inv.stands.1 found.0;
      within = rw put (within-cut bytes left front others bounds at line is found.0 c.in-Ok.ensures.front inv.within);
      number = omega (arith, inv.number, ap length found.0, length-append front (10 ∷ others));
      kept = front-of-front _ (lines_at bytes bounds) _ inv.kept (record { rest = line ∷ []; is = lines });
      lines = λ more. rw lines (come-next (lines_at bytes bounds) l.begun left front others more line found.1 found.0 c.in-Ok.ensures.value ∙ inv.lines more);
    }
