use Rattle.std.proofs.Common.{◌∙◌, sym, ap, refl}
use Rattle.std.specs.List.{slice_get}
use Rattle.aud_node.specs.Cluster.{node_log}
use Rattle.aud_session_facts.specs.Private.Astray.{ends_at}
use Rattle.aud_session_facts.proofs.Sweeps.{past-inside, past-after}
use Rattle.aud_session_facts.proofs.astray.past_turn.Goals as goal

pub returns-then-ends_turn : goal.returns-then-ends_turn
returns-then-ends_turn c =
    past-after c.args.logs.now c.args.pid.now (record { node = c.turn.inside.node; from = c.turn.inside.from; to = c.turn.inside.to }) c.args.here (record { node = c.turn.inside.node; number = c.saturating_sub.result })
    (rw (← c.turn.view_is) at c.requires) refl c.saturating_sub.ensures (ap (ends_at c.args.pid.now) (sym c.record_at.ensures) ∙ sym c.ends_turn.ensures ∙ c.if-ends_turn.true)

pub returns : goal.returns
returns c =
    rw (c.first_of.ensures, ← c.turn.view_is)
    (past-inside c.args.logs.now c.args.pid.now (record { node = c.turn.inside.node; from = c.turn.inside.from; to = c.turn.inside.to }) c.args.here (rw (← c.turn.view_is) at c.requires)
    (ap (λ n. ends_at c.args.pid.now (slice_get (node_log c.args.logs.now c.turn.inside.node) n)) (sym c.saturating_sub.ensures) ∙ ap (ends_at c.args.pid.now) (sym c.record_at.ensures) ∙ sym c.ends_turn.ensures ∙ c.if-ends_turn.false))
