use Rattle.std.proofs.Common.{◌∙◌, arith}
use Rattle.std.proofs.lemmas.List.{nil_from_length}
use Rattle.aud_parts.proofs.ClientsLemmas.{added-all, added-more}
use Rattle.aud_parts.proofs.clients.ClientsReading.add_all.Goals as goal

pub loop-told-preserved : goal.loop-told-preserved
loop-told-preserved c = record {
  held = c.in_ok-add.ensures.held ∙ c.loop-told.invariant.held;
  stream = c.in_ok-add.ensures.stream ∙ c.loop-told.invariant.stream;
  told = λ files read taps each before.
      added-more files _ read taps c.in-Some.told c.loop-told.told-iterator.rest.items _ c.loop-told.self.refusal _ c.loop-told.self.clients.items _
      (c.loop-told.invariant.told files read taps each before) c.in-Some.ensures.steps.0 c.in_ok-add.ensures.clients c.in_ok-add.ensures.refusal;
}

pub returns-clause-told : goal.returns-clause-told
returns-clause-told c = λ files read taps each before none.
    let left = nil_from_length c.loop-told.told-iterator.rest.items (omega (arith, c.in-None.ensures.steps.0, c.loop-told.told-iterator.rest.ok.0)) in
    added-all files _ read taps _ _ _ (c.loop-told.invariant.told files read taps each before) left none
