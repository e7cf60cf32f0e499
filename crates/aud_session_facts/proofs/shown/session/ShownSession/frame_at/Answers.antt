use Rattle.std.proofs.Common.{◌∙◌, sym, ap}
use Rattle.std.specs.Option.{option_copied}
use Rattle.aud_session_facts.proofs.NoClient.{no_frame}
use Rattle.aud_session_facts.proofs.shown.session.ShownSession.frame_at.Goals as goal

pub returns-in_err-client : goal.returns-in_err-client
returns-in_err-client c =
    c.from_residual.ensures
    ∙ sym (no_frame c.args.self.now.sheet.recording.now c.args.self.now.tap.now.place c.args.frame c.args.self.now.numbers.now (sym c.client.ensures ∙ ap option_copied c.in_err-client.was))
