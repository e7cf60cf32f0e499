use Rattle.std.proofs.Common.{◌≡◌, ◌∙◌, true, codes, sym, ap, Ok}
use Rattle.std.proofs.lemmas.Bool.{not-false}
use Rattle.std.proofs.lemmas.Result.{err_from_is_err_and}
use Rattle.aud_reader.specs.declared.bundle.open_taps.OpenTaps.{OpenTaps}
use Rattle.aud_tap.specs.Forms.{is_text}
use Rattle.aud_reader.specs.Bundle.{another_tap, with_header}
use Rattle.aud_reader.specs.SoFar.{taps_so_far}
use Rattle.aud_reader.proofs.KeptLemmas.{fails-then, begin-keeps}
use Rattle.aud_reader.proofs.bundle.open_taps.OpenTaps.begin.Goals as goal

pub returns-clause-taps : goal.returns-clause-taps
unfolding with_header
returns-clause-taps c =
    let ts = taps_so_far c.args.self.now in
    let word : is_text c.args.kind.now (codes "tap") ≡ true = not-false _ (sym c.ne.ensures ∙ c.if-ne.false) in
    let counted = c.in_ok-add.ensures ts c.requires.keeps.counts in
    rw (word, c.in_ok-of.ensures, counted.0) (ap Ok (sym c.in_ok-push.ensures.taps))

pub returns-clause-keeps : goal.returns-clause-keeps
returns-clause-keeps c =
    let counted = c.in_ok-add.ensures (taps_so_far c.args.self.now) c.requires.keeps.counts in
    let others = c.push.ensures.others in
    begin-keeps c.args.self.now c.push.new.self c.args.name.now c.in_ok-of.of c.in_ok-of.version c.requires.name c.requires.first c.requires.keeps (ap (λ (s : OpenTaps). s.pids) others) c.in_ok-push.ensures.taps (c.in_ok-push.ensures.places c.requires.keeps.places c.requires.first)
    (rw others (counted.1 c.args.name.now c.in_ok-of.version))

pub returns-in_err-add-clause-taps : goal.returns-in_err-add-clause-taps
unfolding with_header
returns-in_err-add-clause-taps c =
    let ts = taps_so_far c.args.self.now in
    let word : is_text c.args.kind.now (codes "tap") ≡ true = not-false _ (sym c.ne.ensures ∙ c.if-ne.false) in
    let refused = err_from_is_err_and c.from_residual-in_err-add.result c.from_residual-in_err-add.ensures.1 in
    rw (refused.1, refused.2, word, c.in_ok-of.ensures)
    (fails-then c.in_err-add.field-0.0 (another_tap c.in_ok-of.of ts) _ (c.in_err-add.ensures ts c.requires.keeps.counts))
