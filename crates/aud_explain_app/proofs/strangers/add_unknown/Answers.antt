use Rattle.std.proofs.Common.{◌≡◌, eqb, length, true, false, sym, subst, arith}
use Rattle.std.proofs.lemmas.Bool.Decides.{nat_tests}
use Rattle.std.specs.Str.{bytes_eq}
use Rattle.aud_base.specs.Places.{noted, places_of}
use Rattle.aud_verdict.specs.declared.verdict.SessionVerdict.{SessionVerdict}
use Rattle.aud_verdict.specs.Verdicts.{IsVerdictOn}
use Rattle.aud_explain_app.specs.Chosen.{IsIndex}
use Rattle.aud_explain_app.proofs.Index.{index-more, indexed, not_indexed}
use Rattle.aud_explain_app.proofs.Steps.{added_none, added_one}
use Rattle.aud_explain_app.proofs.strangers.add_unknown.Goals as goal

pub returns-clause-index : goal.returns-clause-index
returns-clause-index c =
    let old = c.args.index.now in
    let new = c.note.new.self in
    let sessions = c.args.sessions.now.items in
    let session : SessionVerdict = record { pid = c.in_ok-name.name; verdict = c.in_ok-verdict.verdict } in
    let count : c.len.result ≡ length sessions = omega (arith, c.len.ensures, c.args.sessions.now.ok.0) in
    subst (IsIndex new) (sym c.in_ok-push.ensures.items)
    (index-more old new sessions session c.len.result c.requires count
    (λ q. subst (λ pid. places_of new q ≡ noted c.len.result (bytes_eq pid q) (places_of old q)) (sym c.in_ok-name.ensures) (c.in_ok-note.ensures.places q)))

pub returns-then-not-is_empty-clause-added : goal.returns-then-not-is_empty-clause-added
returns-then-not-is_empty-clause-added c =
    let pid = c.args.pid.now in
    let old = c.args.sessions.now.items in
    let some : eqb (length (places_of c.args.index.now pid)) 0 ≡ false = grind (arith, nat_tests, c.of.ensures, c.is_empty.ensures, c.if-not-is_empty.true) in
    added_none c.args.recording.now c.args.whole pid old (indexed c.args.index.now old pid c.requires some)

pub returns-clause-added : goal.returns-clause-added
returns-clause-added c =
    let recording = c.args.recording.now in
    let whole = c.args.whole in
    let pid = c.args.pid.now in
    let old = c.args.sessions.now.items in
    let session : SessionVerdict = record { pid = c.in_ok-name.name; verdict = c.in_ok-verdict.verdict } in
    let none : eqb (length (places_of c.args.index.now pid)) 0 ≡ true = grind (arith, nat_tests, c.of.ensures, c.is_empty.ensures, c.if-not-is_empty.false) in
    let verdict = c.in_ok-verdict.ensures in
    let judged : IsVerdictOn recording whole c.in_ok-name.name c.in_ok-verdict.verdict =
    subst (λ name. IsVerdictOn recording whole name c.in_ok-verdict.verdict) (sym c.in_ok-name.ensures) (verdict.verdict, verdict.certificate, verdict.every_run) in
    added_one recording whole pid session old c.push.new.self.items judged c.in_ok-name.ensures
    (not_indexed c.args.index.now old pid c.requires none) c.in_ok-push.ensures.items
