use Rattle.std.proofs.Common.{◌≡◌, ◌∷◌, [], ◌++◌, Some, ap, length, refl, slice_get, sym, subst, take, ◌∙◌}
use Rattle.std.proofs.lemmas.List.{take_all, take_more}
use Rattle.std.proofs.lemmas.Option.{get_or_from_slice_get, slice_get_read}
use Rattle.aud_parts.specs.ServersRead.{AreServers}
use Rattle.aud_parts.specs.TapRuns.{MayBeRead}
use Rattle.aud_parts.proofs.ServersLemmas.{never-none, no-some}
use Rattle.aud_parts.proofs.servers.read_servers.Goals.{in-Some, in_default}
use Rattle.aud_parts.proofs.servers.read_servers.Goals as goal

pub loop-tap-preserved : goal.loop-tap-preserved
loop-tap-preserved g c =
    let taps = c.args.taps.now in
    let i = c.loop-tap.tap-index in
    let tap = c.tap-item.result in
    let before = c.loop-tap.invariant in
    let at : slice_get taps i ≡ Some tap = slice_get_read taps (length taps) i tap refl c.loop-tap-test.true c.tap-item.is in
    let is = get_or_from_slice_get taps i tap tap at in
    elim c.match-branch-3.branch [
      | in-Some w ↦ record {
        source = c.in_ok-line.ensures.source ∙ before.source;
        kept = λ none. absurd (never-none c.loop-tap.refusal (record { number = w.in-Some.line.number; code = w.in-Some.line.code }) (sym w.add.ensures ∙ sym w.refusal-is ∙ none));
        read = λ files known may none. absurd (never-none c.loop-tap.refusal (record { number = w.in-Some.line.number; code = w.in-Some.line.code }) (sym w.add.ensures ∙ sym w.refusal-is ∙ none));
      }
      | in_default w ↦ record {
        source = c.in_ok-line.ensures.source ∙ before.source;
        kept = λ none. before.kept (sym w.refusal-is ∙ none);
        read = λ files known may none.
            subst (λ ts. AreServers files ts c.read_tap.new.self.kinds.items c.read_tap.new.self.taps.items c.read_tap.new.self.lines.items)
            (sym (take_more taps i tap c.loop-tap-test.true ∙ ap (λ t. take i taps ++ t ∷ []) is))
            (c.in_ok-line.ensures.read files (take i taps) (before.source ∙ known) (subst (MayBeRead files) is (may i tap c.loop-tap-test.true))
            (before.read files known may (sym w.refusal-is ∙ none)) (no-some _ w.in_default.not-Some));
      }
    ]

pub returns-clause-read : goal.returns-clause-read
returns-clause-read g c = λ files known may none.
    let taps = c.args.taps.now in
    let reading = c.loop-tap.reading in
    rw c.new-3.ensures
    (subst (λ ts. AreServers files ts reading.kinds.items reading.taps.items reading.lines.items) (take_all c.loop-tap.tap-index taps c.loop-tap-test.false) (c.loop-tap.invariant.read files known may none))
