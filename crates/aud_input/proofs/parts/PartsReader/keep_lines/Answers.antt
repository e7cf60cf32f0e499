use Rattle.std.proofs.Common.{◌∙◌, List, ◌++◌, OnOk, sym, ap, subst}
use Rattle.std.proofs.lemmas.Result.{on_ok_weaker}
use Rattle.aud_reader.specs.declared.line.Line.{Line}
use Rattle.aud_input.specs.Reader.{AreAmong, PartsSoFar}
use Rattle.aud_input.proofs.InputLemmas.{more_wait}
use Rattle.aud_input.proofs.parts.PartsReader.keep_lines.Goals as goal

pub returns-in-Bundle-clause-parts : goal.returns-in-Bundle-clause-parts
returns-in-Bundle-clause-parts c =
    let old = c.self.inside in
    let waits = λ (waiting : List Line). let s : PartsSoFar = record { layout = old.layout; taps = old.taps; waiting = waiting; certificates = old.certificates.items } in s in
    let bundle = sym (ap (λ (s : PartsSoFar). s.layout) c.self.view_is) ∙ c.in-Bundle.is in
    on_ok_weaker c.append.result (λ put more. more_wait c.args.self.now (waits c.append.new.self) c.args.lines.now more bundle (rw (← c.self.view_is) (ap waits put))) c.append.ensures

pub returns-in_ok-lent-in-BundleAndCertificates-clause-waits : goal.returns-in_ok-lent-in-BundleAndCertificates-clause-waits
returns-in_ok-lent-in-BundleAndCertificates-clause-waits c =
    let all = c.deref.ensures.value ∙ c.in_ok-lent-in-BundleAndCertificates.ensures in
    subst (λ ls. OnOk c.keep_each.result (AreAmong c.keep_each.new.self.waiting (c.args.self.now.waiting ++ ls))) all (rw (← c.self.view_is) c.keep_each.ensures.waits)
