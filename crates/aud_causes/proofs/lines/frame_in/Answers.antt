use Rattle.std.proofs.Common.{◌∙◌, sym, ap}
use Rattle.std.specs.Option.{option_copied}
use Rattle.aud_session_facts.proofs.NoClient.{no_frame}
use Rattle.aud_causes.proofs.lines.frame_in.Goals as goal

pub returns-in_err-client : goal.returns-in_err-client
returns-in_err-client c =
    c.from_residual.ensures
    ∙ sym (no_frame c.args.recording.now c.args.client c.args.frame c.args.numbers.now (sym c.client.ensures ∙ ap option_copied c.in_err-client.was))
