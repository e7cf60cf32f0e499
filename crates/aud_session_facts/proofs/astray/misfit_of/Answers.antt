use Rattle.std.proofs.Common.{◌∙◌, sym, ap, Some}
use Rattle.aud_session_facts.specs.Private.Astray.{begun_by}
use Rattle.aud_session_facts.proofs.Sweeps.{astray-first, astray-begins, astray-out, astray-before, astray-past}
use Rattle.aud_session_facts.proofs.astray.misfit_of.Goals as goal

pub begun_again-requires-clause-begins : goal.begun_again-requires-clause-begins
begun_again-requires-clause-begins c =
    astray-begins c.args.logs.now c.args.pid.now c.args.turns.now c.requires.begun c.args.node c.args.astray (astray-first c.args.logs.now c.args.pid.now c.args.turns.now c.requires.begun c.args.node c.args.astray c.requires.out) c.from.result
    (ap begun_by (sym c.record_at.ensures) ∙ sym c.in-Some.ensures ∙ ap Some (sym c.from.ensures))

pub begun_again-requires-clause-out : goal.begun_again-requires-clause-out
begun_again-requires-clause-out c =
    astray-out c.args.logs.now c.args.pid.now c.args.turns.now c.requires.begun c.args.node c.args.astray (astray-first c.args.logs.now c.args.pid.now c.args.turns.now c.requires.begun c.args.node c.args.astray c.requires.out) c.from.result
    (ap begun_by (sym c.record_at.ensures) ∙ sym c.in-Some.ensures ∙ ap Some (sym c.from.ensures))

pub past_turn-requires : goal.past_turn-requires
past_turn-requires c =
    astray-past c.args.logs.now c.args.pid.now c.args.turns.now c.requires.begun c.args.node c.args.astray (astray-first c.args.logs.now c.args.pid.now c.args.turns.now c.requires.begun c.args.node c.args.astray c.requires.out)
    (ap begun_by (sym c.record_at.ensures) ∙ sym c.in-None.ensures) c.in-Some-going_on.turn c.in-Some-going_on.is

pub returns-in-None-going_on : goal.returns-in-None-going_on
returns-in-None-going_on c =
    astray-before c.args.logs.now c.args.pid.now c.args.turns.now c.requires.begun c.args.node c.args.astray (astray-first c.args.logs.now c.args.pid.now c.args.turns.now c.requires.begun c.args.node c.args.astray c.requires.out)
    (ap begun_by (sym c.record_at.ensures) ∙ sym c.in-None.ensures) c.in-None-going_on.is
