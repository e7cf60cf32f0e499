use Rattle.std.proofs.Common.{◌∙◌, Some, ap, sym, option_map}
use Rattle.aud_client.specs.StaySeen.{FrameSeen}
use Rattle.aud_session_facts.proofs.Steps.{last_at}
use Rattle.aud_session_facts.proofs.last.last_position.Goals as goal

pub returns-in-Some : goal.returns-in-Some
returns-in-Some c =
    ap (λ (frame : FrameSeen). Some frame.position) c.frame.view_is
    ∙ ap (option_map (λ (frame : FrameSeen). frame.position)) c.in-Some.ensures.value
    ∙ sym (last_at c.args.frames.now)
