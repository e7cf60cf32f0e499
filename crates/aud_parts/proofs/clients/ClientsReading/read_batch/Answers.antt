use Rattle.std.proofs.Common.{◌++◌, List, ap, append-nil, map, subst, sym, ◌∙◌}
use Rattle.std.proofs.lemmas.List.Elements.{All-nil}
use Rattle.aud_reader.specs.declared.line.Line.{Line}
use Rattle.aud_parts.specs.declared.clients.HeldTap.{HeldTap}
use Rattle.aud_parts.specs.Private.ClientSteps.{Holds, IsTold}
use Rattle.aud_parts.specs.Private.TapsRead.{HoldsLines}
use Rattle.aud_parts.proofs.ClientsLemmas.{held-told}
use Rattle.aud_parts.proofs.clients.ClientsReading.read_batch.Goals as goal

pub returns-clause-told : goal.returns-clause-told
returns-clause-told g c = λ files taps so.
    let stream = c.args.self.now.stream.now in
    let helds = c.args.self.now.held.items in
    let held = map (λ (held : HeldTap). held.tap.now) helds in
    let cleared = c.clear.ensures.items in
    let all = c.in_ok-all.ensures in
    let tolds =
    held-told files stream _
    (λ held told call. subst (λ (held : HeldTap). (lines : List Line) → HoldsLines lines held.runs.items → IsTold stream held.tap.now.name lines told) call.shows call.says.met)
    helds c.in_ok-all.all.items (rw c.as_slice.ensures.value at all) so.holding in
    record {
      read = so.read ++ held;
      whole = so.whole ∙ sym (append-nil (so.read ++ held)) ∙ ap (λ helds. (so.read ++ held) ++ map (λ (held : HeldTap). held.tap.now) helds) (sym cleared);
      holding = rw cleared (All-nil (Holds files));
      told = λ none. rw c.in_ok-add_all.ensures.stream (c.in_ok-add_all.ensures.told files so.read held tolds so.told none);
    }
